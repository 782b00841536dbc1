use Rattle.std.proofs.Common.{length}
use Rattle.packet_path.proofs.Attempts.{answers_after, answers_from, attempt_after, attempt_from, starts_longer}
use Rattle.packet_path.specs.Packet.{flow_packet}
use Rattle.packet_path.proofs.attempt.try_packet.Goals as goal

pub returns-in-Absent-clause-says : goal.returns-in-Absent-clause-says
returns-in-Absent-clause-says g c =
    let s = g.D.Desk.sight c.args.desk.now in
    let mid = g.D.Desk.sight c.find.new.self in
    let new = g.D.Desk.sight c.begin_flow.new.desk in
    let looked = c.in-Absent.ensures.says.0 in
    answers_from c.desks_go_on.ensures.states c.desks_go_on.ensures.events c.desks_go_on.ensures.all c.desks_go_on.ensures.twice c.args.setup.now s new (flow_packet c.args.packet.now) c.args.kills (length s.front) c.in-Absent.at
    c.begin_flow.result looked.low
    (answers_after c.desks_go_on.ensures.states c.desks_go_on.ensures.events c.desks_go_on.ensures.all c.desks_go_on.ensures.twice c.args.setup.now s mid new (flow_packet c.args.packet.now) c.args.kills c.in-Absent.at
    c.begin_flow.result looked.saw (c.begin_flow.ensures.answers c.args.kills c.requires.few))

pub returns-in-Found-clause-says : goal.returns-in-Found-clause-says
returns-in-Found-clause-says g c =
    let s = g.D.Desk.sight c.args.desk.now in
    let mid = g.D.Desk.sight c.find.new.self in
    let new = g.D.Desk.sight c.answer_and_leave.new.desk in
    let saw = c.in-Found.ensures.says.0.saw in
    attempt_after c.desks_go_on.ensures.states c.desks_go_on.ensures.events c.desks_go_on.ensures.all c.desks_go_on.ensures.twice c.args.setup.now s mid new (flow_packet c.args.packet.now) c.args.kills (length s.front)
    c.answer_and_leave.result saw
    (attempt_from c.desks_go_on.ensures.states c.desks_go_on.ensures.events c.desks_go_on.ensures.all c.desks_go_on.ensures.twice c.args.setup.now mid new (flow_packet c.args.packet.now) c.args.kills (length s.front)
    (length mid.front) c.answer_and_leave.result (starts_longer mid.front s.front saw.went.front) (c.answer_and_leave.ensures.says c.args.setup.now))
