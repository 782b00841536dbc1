use Rattle.std.proofs.Common.{length}
use Rattle.packet_path.proofs.Attempts.{attempt_after, attempt_from, starts_longer}
use Rattle.packet_path.specs.Packet.{flow_packet}
use Rattle.packet_path.proofs.attempt.meet_packet.Goals as goal

pub returns-in-Found-clause-says : goal.returns-in-Found-clause-says
returns-in-Found-clause-says g c = λ setup.
    let s = g.D.Desk.sight c.args.desk.now in
    let mid = g.D.Desk.sight c.find.new.self in
    let new = g.D.Desk.sight c.answer_and_leave.new.desk in
    let saw = c.in-Found.ensures.says.0.saw in
    attempt_after c.desks_go_on.ensures.states c.desks_go_on.ensures.events c.desks_go_on.ensures.all c.desks_go_on.ensures.twice setup s mid new (flow_packet c.args.packet.now) c.args.kills (length s.front)
    c.answer_and_leave.result saw
    (attempt_from c.desks_go_on.ensures.states c.desks_go_on.ensures.events c.desks_go_on.ensures.all c.desks_go_on.ensures.twice setup mid new (flow_packet c.args.packet.now) c.args.kills (length s.front)
    (length mid.front) c.answer_and_leave.result (starts_longer mid.front s.front saw.went.front) (c.answer_and_leave.ensures.says setup))
