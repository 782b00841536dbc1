-- A packet of a flow that had no entry, and would begin with it: its tuple was looked up, and then a reply tuple
-- was found for it, at points that do not fall.
use Rattle.std.specs.Prelude.{ℕ, List, IsSome}
use Rattle.tuple_core.specs.declared.Tuple.{Tuple}
use Rattle.history_book.specs.declared.event.Event.{Event}
use Rattle.history_book.specs.declared.verdict.Translated.{Translated}
use Rattle.nat_setup.specs.Rule.{rule_for}
use Rattle.nat_setup.specs.Translation.{WasTranslated}
use Rattle.proto_rules.specs.Start.{start_of}
use Rattle.packet_path.specs.Absent.{WasAbsent}
use Rattle.packet_path.specs.Packet.{FlowPacket}
use Rattle.packet_path.specs.declared.setup.Setup.{Setup}

-- an entry may begin with the packet; nothing was live under its tuple at some point from k on; and after it, up to
-- this point, this reply tuple was found
pub record WouldBegin (setup : Setup) (log : List Event) (k : ℕ) (packet : FlowPacket) (translated : Translated)
    (reply : Tuple) (upto : ℕ) : Type 0 where
  pub starts : IsSome (start_of packet.segment packet.moment)
  pub absent : WasAbsent log k packet.tuple upto
  pub found : WasTranslated log (rule_for setup.rules.items packet.tuple) packet.tuple absent.at upto translated reply
