use Rattle.history_book.specs.Desk.{IsRecord}
use Rattle.conntrack_cmd.proofs.Fronts.{looked_at_one}
use Rattle.conntrack_cmd.proofs.Speaking.{present}
use Rattle.conntrack_cmd.proofs.looks.look_once.Goals as goal

pub returns-in-Seen-clause-says : goal.returns-in-Seen-clause-says
returns-in-Seen-clause-says g c =
    let s = g.D.Desk.sight c.args.desk.now in
    let mid = g.D.Desk.sight c.find.new.self in
    let then = g.D.Desk.sight c.peek.new.self in
    present c.desks_go_on.ensures.all c.desks_go_on.ensures.states c.found_entries_stay.ensures.again s mid then (g.D.Desk.sight c.give_up-in-Seen.new.desk) c.args.t.now
    c.in-Found.place c.in-Found.id c.in-Found.at c.in-Seen.at c.in-Found.direction c.in-Seen.subject c.give_up-in-Seen.ensures.knows
    c.in-Found.ensures.says.0
    (looked_at_one c.found_entries_stay.ensures.hold s mid c.in-Found.place c.in-Found.id c.requires.empty c.in-Found.ensures.says.1 then
    c.in-Seen.at (λ i. IsRecord i c.in-Seen.subject) c.in-Seen.ensures.says.0)
    c.give_up-in-Seen.ensures.saw c.give_up-in-Seen.ensures.empty
