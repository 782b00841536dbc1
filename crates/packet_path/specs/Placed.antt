-- A packet that would begin a flow, and for which a place was had: it is then looked for among the expectations.
use Rattle.std.specs.Prelude.{◌≡◌, ℕ, Option, List, ◌++◌}
use Rattle.tuple_core.specs.declared.Tuple.{Tuple}
use Rattle.history_book.specs.declared.event.Event.{Event}
use Rattle.history_book.specs.declared.event.Note.{Note}
use Rattle.history_book.specs.declared.sizes.Sizes.{Sizes}
use Rattle.history_book.specs.declared.verdict.Translated.{Translated}
use Rattle.packet_path.specs.Begun.{WouldBegin}
use Rattle.packet_path.specs.Claim.{ClaimsIfExpected}
use Rattle.packet_path.specs.Packet.{FlowPacket}
use Rattle.packet_path.specs.Room.{Dropping, HasRoom, drops_by}
use Rattle.packet_path.specs.declared.setup.Setup.{Setup}

-- of the flow: its reply tuple and how that was found, the point at which no expectation matched, its master, and the
-- point up to which it was looked for
pub record Placing : Type 0 where
  pub translated : Translated
  pub reply : Tuple
  pub unclaimed : Option ℕ
  pub master : Option ℕ
  pub upto : ℕ

-- The further events are a drop, where the table was full; a Claim, where the packet was expected; and the last ones.
-- At points that do not fall, a flow would begin with the packet, a place was had for it, and it was looked for among
-- the expectations.
pub record HasPlace (setup : Setup) (sizes : Sizes) (log : List Event) (k : ℕ) (packet : FlowPacket) (rest last : List Note)
    (said : Placing) : Type 0 where
  pub dropped : Option Dropping
  pub claims : List Note
  pub own : rest ≡ drops_by packet dropped ++ (claims ++ last)
  pub found_at : ℕ
  pub begun : WouldBegin setup log k packet said.translated said.reply found_at
  pub placed_at : ℕ
  pub room : HasRoom sizes log packet found_at dropped placed_at
  pub claimed : ClaimsIfExpected log packet claims said.unclaimed said.master placed_at said.upto
