use Rattle.std.proofs.Common.{length}
use Rattle.packet_path.proofs.Attempts.{attempt_before}
use Rattle.packet_path.specs.Packet.{flow_packet}
use Rattle.packet_path.proofs.attempt.answer_and_leave.Goals as goal

pub returns-clause-says : goal.returns-clause-says
returns-clause-says g c = λ setup.
    let s = g.D.Desk.sight c.args.desk.now in
    attempt_before c.desks_go_on.ensures.states c.desks_go_on.ensures.events c.desks_go_on.ensures.all c.desks_go_on.ensures.twice setup s (g.D.Desk.sight c.meet_entry-attempt.new.desk)
    (g.D.Desk.sight c.give_up.new.desk) (flow_packet c.args.packet.now) c.args.kills (length s.front) c.meet_entry-attempt.result (c.meet_entry-attempt.ensures.says setup) c.give_up.ensures.saw
