use Rattle.std.proofs.Common.{ap, rules, subst, sym}
use Rattle.history_book.specs.Sight.{Sight}
use Rattle.packet_path.proofs.Attempts.{answers_after, placed_went}
use Rattle.packet_path.proofs.Beginnings.{found_before, had_dropped, had_free, no_room}
use Rattle.packet_path.specs.Internal.Attempt.{HadPlace}
use Rattle.packet_path.specs.Packet.{flow_packet}
use Rattle.packet_path.proofs.begin.place_flow.Goals as goal
use Rattle.packet_path.proofs.begin.place_flow.Goals.{in-Taken, in-Full+in-Taken-make_room}

pub returns-in-Full-make_room-clause-answers : goal.returns-in-Full-make_room-clause-answers
returns-in-Full-make_room-clause-answers g c = λ killed few is.
    let s = g.D.Desk.sight c.args.desk.now in
    let mid = g.D.Desk.sight c.take.new.self in
    let new = g.D.Desk.sight c.make_room.new.desk in
    answers_after c.desks_go_on.ensures.states c.desks_go_on.ensures.events c.desks_go_on.ensures.all c.desks_go_on.ensures.twice c.args.setup.now s mid new
    (flow_packet c.args.packet.now) killed c.args.absent_at _ c.in-Full.ensures.says.looked.saw
    (no_room c.desks_go_on.ensures.states c.desks_go_on.ensures.events c.desks_go_on.ensures.all c.args.setup.now mid new (flow_packet c.args.packet.now)
    c.args.found.now killed c.args.absent_at c.in-Full.full_at c.in-Full-make_room.at few
    (found_before c.desks_go_on.ensures.states c.desks_go_on.ensures.events c.args.setup.now s mid (flow_packet c.args.packet.now) c.args.found.now c.args.absent_at
    c.in-Full.full_at c.requires.empty is c.in-Full.ensures.says)
    (search rules) c.in-Full-make_room.ensures.says)

pub returns-clause-answers : goal.returns-clause-answers
returns-clause-answers g c = λ killed few is.
    let s = g.D.Desk.sight c.args.desk.now in
    let mid = g.D.Desk.sight c.take.new.self in
    elim c.match-take.branch [
      | in-Taken w ↦
          c.confirm_flow.ensures.answers s killed few
          (subst (λ (x : Sight). HadPlace c.args.setup.now (flow_packet c.args.packet.now) s x c.args.absent_at c.args.found.now)
          (sym (ap g.D.Desk.sight w.desk-is))
          (had_free c.desks_go_on.ensures.states c.desks_go_on.ensures.events c.args.setup.now s mid (flow_packet c.args.packet.now) c.args.found.now c.args.absent_at
          (placed_went s mid w.in-Taken.place w.in-Taken.ensures.says) is))
      | in-Full+in-Taken-make_room w ↦
          answers_after c.desks_go_on.ensures.states c.desks_go_on.ensures.events c.desks_go_on.ensures.all c.desks_go_on.ensures.twice c.args.setup.now s mid
          (g.D.Desk.sight c.confirm_flow.new.desk) (flow_packet c.args.packet.now) killed c.args.absent_at c.confirm_flow.result
          w.in-Full.ensures.says.looked.saw
          (c.confirm_flow.ensures.answers mid killed few
          (subst (λ (x : Sight). HadPlace c.args.setup.now (flow_packet c.args.packet.now) mid x c.args.absent_at c.args.found.now)
          (sym (ap g.D.Desk.sight w.desk-is))
          (had_dropped c.desks_go_on.ensures.states c.desks_go_on.ensures.events c.desks_go_on.ensures.all c.args.setup.now mid
          (g.D.Desk.sight w.make_room.new.desk) (flow_packet c.args.packet.now) c.args.found.now c.args.absent_at w.in-Full.full_at
          w.in-Taken-make_room.place
          (found_before c.desks_go_on.ensures.states c.desks_go_on.ensures.events c.args.setup.now s mid (flow_packet c.args.packet.now) c.args.found.now
          c.args.absent_at w.in-Full.full_at c.requires.empty is w.in-Full.ensures.says)
          w.in-Taken-make_room.ensures.says)))
    ]
