-- A packet that would begin a flow, while each number that its rule allows is taken.
use Rattle.std.specs.Prelude.{◌≡◌, ℕ, List, [], IsSome}
use Rattle.history_book.specs.declared.event.Event.{Event}
use Rattle.history_book.specs.declared.event.Note.{Note}
use Rattle.nat_setup.specs.Rule.{rule_for}
use Rattle.nat_setup.specs.Translation.{HadNoNumber}
use Rattle.proto_rules.specs.Start.{start_of}
use Rattle.packet_path.specs.Absent.{WasAbsent}
use Rattle.packet_path.specs.Packet.{FlowPacket}
use Rattle.packet_path.specs.declared.setup.Setup.{Setup}

-- no further event; an entry begins with the packet, and nothing was live under its tuple; then each number that
-- the first rule for the flow allows was taken at a point between these two
pub record FindsNoNumber (setup : Setup) (log : List Event) (k : ℕ) (packet : FlowPacket) (rest : List Note)
    (from to : ℕ) : Type 0 where
  pub own : rest ≡ []
  pub starts : IsSome (start_of packet.segment packet.moment)
  pub absent : WasAbsent log k packet.tuple from
  pub taken : HadNoNumber log (rule_for setup.rules.items packet.tuple) packet.tuple from to
