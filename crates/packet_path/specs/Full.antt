-- A packet that would begin a flow, while the table has no room.
use Rattle.std.specs.Prelude.{◌≡◌, ℕ, Option, List}
use Rattle.tuple_core.specs.declared.Tuple.{Tuple}
use Rattle.history_book.specs.declared.event.Event.{Event}
use Rattle.history_book.specs.declared.event.Note.{Note}
use Rattle.history_book.specs.declared.sizes.Sizes.{Sizes}
use Rattle.history_book.specs.declared.verdict.Translated.{Translated}
use Rattle.packet_path.specs.Begun.{WouldBegin}
use Rattle.packet_path.specs.Packet.{FlowPacket}
use Rattle.packet_path.specs.Room.{Dropping, StaysFull, drops_by}
use Rattle.packet_path.specs.declared.setup.Setup.{Setup}

-- No further event but a drop. A flow would begin with the packet, with some reply tuple that was found up to the first
-- point, and from there to the last no place was had for it.
pub record FindsNoRoom (setup : Setup) (sizes : Sizes) (log : List Event) (k : ℕ) (packet : FlowPacket)
    (rest : List Note) (from at : ℕ) : Type 0 where
  pub dropped : Option Dropping
  pub own : rest ≡ drops_by packet dropped
  pub translated : Translated
  pub reply : Tuple
  pub begun : WouldBegin setup log k packet translated reply from
  pub stays : StaysFull sizes log packet from dropped at
