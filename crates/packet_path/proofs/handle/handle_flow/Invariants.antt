use Rattle.packet_path.specs.Internal.Attempt.{GoesOnKilling}
use Rattle.packet_path.specs.Packet.{flow_packet}
use Rattle.packet_path.proofs.handle.handle_flow.Given as goal

abbrev pub invariant-attempts : goal.invariant-attempts
invariant-attempts g l =
    (goal.iterator-attempts g).can_next l.iterator' ×
    (goal.iterator-attempts g).is_finite l.iterator' ×
    GoesOnKilling (g.D.Desk.sight l.fn.desk) (g.D.Desk.sight l.desk) (flow_packet l.packet) l.kills l.first
