use Rattle.std.proofs.Common.{length, ap, ◌∙◌}
use Rattle.packet_path.proofs.Accepting.{tried_along}
use Rattle.packet_path.proofs.Attempts.{answers_after, answers_from}
use Rattle.packet_path.specs.Packet.{flow_packet}
use Rattle.packet_path.specs.Taken.{taken_by}
use Rattle.packet_path.proofs.fast.fast_packet.Goals as goal

pub returns-in-Absent-clause-says : goal.returns-in-Absent-clause-says
returns-in-Absent-clause-says g c =
    let s = g.D.Desk.sight c.args.desk.now in
    let mid = g.D.Desk.sight c.find.new.self in
    let new = g.D.Desk.sight c.begin_flow-class.new.desk in
    let looked = c.in-Absent.ensures.says.0 in
    record {
      class = c.begin_flow-class.result;
      answers = answers_from c.desks_go_on.ensures.states c.desks_go_on.ensures.events c.desks_go_on.ensures.all c.desks_go_on.ensures.twice c.args.setup.now s new (flow_packet c.args.packet.now) c.args.kills (length s.front) c.in-Absent.at
          c.begin_flow-class.result looked.low
          (answers_after c.desks_go_on.ensures.states c.desks_go_on.ensures.events c.desks_go_on.ensures.all c.desks_go_on.ensures.twice c.args.setup.now s mid new (flow_packet c.args.packet.now) c.args.kills c.in-Absent.at
          c.begin_flow-class.result looked.saw (c.begin_flow-class.ensures.answers c.args.kills c.requires.few));
      taken = c.begin_flow-class.ensures.taken ∙ ap (taken_by c.begin_flow-class.result) looked.saw.taken;
      appended = c.append.ensures;
    }

pub returns-in-Found-clause-says : goal.returns-in-Found-clause-says
returns-in-Found-clause-says g c =
    let s = g.D.Desk.sight c.args.desk.now in
    let mid = g.D.Desk.sight c.find.new.self in
    let then = g.D.Desk.sight c.touch_entry-tried.new.desk in
    let new = g.D.Desk.sight c.give_up.new.desk in
    tried_along c.desks_go_on.ensures.states c.desks_go_on.ensures.events c.desks_go_on.ensures.all c.desks_go_on.ensures.twice c.args.setup.now s mid then new (flow_packet c.args.packet.now)
    (record { kills = c.args.kills; counting = record { first = c.args.first; base = c.args.base } }) c.args.verdicts.now c.touch_entry-tried.new.verdicts c.touch_entry-tried.result c.in-Found.ensures.says.0.saw
    (c.touch_entry-tried.ensures.says c.args.setup.now) c.give_up.ensures.saw
