use Rattle.std.specs.Prelude.{◌≡◌}
use Rattle.packet_path.specs.Internal.Attempt.{GoesOnKilling}
use Rattle.packet_path.specs.Packet.{flow_packet}
use Rattle.packet_path.proofs.handle_into.flow_into.Given as goal

abbrev pub invariant-tries : goal.invariant-tries
invariant-tries g l =
    (goal.iterator-tries g).can_next l.iterator' ×
    (goal.iterator-tries g).is_finite l.iterator' ×
    GoesOnKilling (g.D.Desk.sight l.fn.desk) (g.D.Desk.sight l.desk) (flow_packet l.packet) l.kills l.first ×
    (l.verdicts ≡ l.fn.verdicts)
