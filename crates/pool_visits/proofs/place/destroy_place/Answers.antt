use Rattle.std.proofs.Common.{◌≡◌, None, subst}
use Rattle.history_book.specs.Desk.{Destroys, IsRecord}
use Rattle.history_book.specs.State.{record_of}
use Rattle.pool_visits.proofs.Places.{is_held_id, killed_row, left_empty, left_failed, left_gone, looked_at_one}
use Rattle.pool_visits.proofs.place.destroy_place.Goals as goal

pub returns-in-Empty-clause-says : goal.returns-in-Empty-clause-says
returns-in-Empty-clause-says g c =
    left_empty c.desks_go_on.ensures.states c.places_tell_their_entry.ensures.keep c.places_tell_their_entry.ensures.name c.places_tell_their_entry.ensures.unused
    (g.D.Desk.sight c.args.desk.now) (g.D.Desk.sight c.hold.new.self) c.hold.ensures.knows c.args.place c.args.why
    c.in-Empty.at c.in-Empty.ensures.says.0

pub returns-in-Killed-clause-says : goal.returns-in-Killed-clause-says
returns-in-Killed-clause-says g c =
    let s = g.D.Desk.sight c.args.desk.now in
    let mid = g.D.Desk.sight c.hold.new.self in
    let then = g.D.Desk.sight c.kill.new.self in
    killed_row c.desks_go_on.ensures.states c.places_tell_their_entry.ensures.keep c.places_tell_their_entry.ensures.name c.places_tell_their_entry.ensures.unused
    s (g.D.Desk.sight c.give_up.new.desk) c.give_up.ensures.knows c.args.place c.destroyed_ids_stay_dead.ensures c.desks_go_on.ensures.events
    c.args.why mid then c.in-Held.at c.in-Killed.number c.in-Held.id c.in-Killed.subject c.in-Held.ensures.says.0
    (subst (λ i. Destroys i c.args.why mid then c.in-Killed.number c.in-Killed.subject)
    (is_held_id c.places_tell_their_entry.ensures.hold s mid c.args.place c.in-Held.id c.requires.empty c.in-Held.ensures.says.1) c.in-Killed.ensures.says)
    c.give_up.ensures.saw c.desks_go_on.ensures.all

pub returns-in-Gone-clause-says : goal.returns-in-Gone-clause-says
returns-in-Gone-clause-says g c =
    let s = g.D.Desk.sight c.args.desk.now in
    let mid = g.D.Desk.sight c.hold.new.self in
    let then = g.D.Desk.sight c.kill.new.self in
    left_gone c.desks_go_on.ensures.states c.places_tell_their_entry.ensures.keep c.places_tell_their_entry.ensures.name c.places_tell_their_entry.ensures.unused
    s (g.D.Desk.sight c.give_up-in-Gone.new.desk) c.give_up-in-Gone.ensures.knows c.args.place c.desks_go_on.ensures.twice c.args.why mid then
    c.in-Held.at c.in-Gone.at c.in-Held.id c.in-Held.ensures.says.0
    (looked_at_one c.places_tell_their_entry.ensures.hold s mid c.args.place c.in-Held.id c.requires.empty c.in-Held.ensures.says.1 then c.in-Gone.at
    (λ i s. record_of i s ≡ None) c.in-Gone.ensures.says.0)
    c.give_up-in-Gone.ensures.saw

pub returns-in-Not-clause-says : goal.returns-in-Not-clause-says
returns-in-Not-clause-says g c =
    let s = g.D.Desk.sight c.args.desk.now in
    let mid = g.D.Desk.sight c.hold.new.self in
    let then = g.D.Desk.sight c.kill.new.self in
    left_failed c.desks_go_on.ensures.states c.places_tell_their_entry.ensures.keep c.places_tell_their_entry.ensures.name c.places_tell_their_entry.ensures.unused
    s (g.D.Desk.sight c.give_up-in-Not.new.desk) c.give_up-in-Not.ensures.knows c.args.place c.desks_go_on.ensures.twice c.args.why mid then
    c.in-Held.at c.in-Not.at c.in-Held.id c.in-Not.subject c.in-Held.ensures.says.0
    (looked_at_one c.places_tell_their_entry.ensures.hold s mid c.args.place c.in-Held.id c.requires.empty c.in-Held.ensures.says.1 then c.in-Not.at
    (λ i. IsRecord i c.in-Not.subject) c.in-Not.ensures.says.0)
    c.give_up-in-Not.ensures.saw c.in-Not.ensures.says.1
