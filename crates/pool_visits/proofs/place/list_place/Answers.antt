use Rattle.history_book.specs.Desk.{IsRecord}
use Rattle.history_book.specs.Filter.{selects}
use Rattle.history_book.specs.State.{record_of}
use Rattle.std.proofs.Common.{◌≡◌, ◌∙◌, None, sym}
use Rattle.pool_visits.proofs.Places.{empty_visited, failed_visited, gone_visited, looked_at_one, row_is, row_placed, row_visited}
use Rattle.pool_visits.proofs.place.list_place.Goals as goal

pub returns-in-Empty-clause-visited : goal.returns-in-Empty-clause-visited
returns-in-Empty-clause-visited g c =
    empty_visited c.desks_go_on.ensures.states c.places_tell_their_entry.ensures.keep c.places_tell_their_entry.ensures.name c.places_tell_their_entry.ensures.unused
    (g.D.Desk.sight c.args.desk.now) (g.D.Desk.sight c.hold.new.self) c.hold.ensures.knows c.args.place (selects c.args.filter.now)
    c.in-Empty.at c.in-Empty.ensures.says.0

pub returns-in-Gone-clause-visited : goal.returns-in-Gone-clause-visited
returns-in-Gone-clause-visited g c =
    let s = g.D.Desk.sight c.args.desk.now in
    let mid = g.D.Desk.sight c.hold.new.self in
    let then = g.D.Desk.sight c.peek.new.self in
    gone_visited c.desks_go_on.ensures.states c.places_tell_their_entry.ensures.keep c.places_tell_their_entry.ensures.name c.places_tell_their_entry.ensures.unused
    s (g.D.Desk.sight c.give_up.new.desk) c.give_up.ensures.knows c.args.place (selects c.args.filter.now) mid then
    c.in-Held.at c.in-Gone.at c.in-Held.id c.in-Held.ensures.says.0
    (looked_at_one c.places_tell_their_entry.ensures.hold s mid c.args.place c.in-Held.id c.requires.empty c.in-Held.ensures.says.1 then c.in-Gone.at
    (λ i s. record_of i s ≡ None) c.in-Gone.ensures.says.0)
    c.give_up.ensures.saw.went.front

pub returns-then-selects-clause-row : goal.returns-then-selects-clause-row
returns-then-selects-clause-row g c =
    let s = g.D.Desk.sight c.args.desk.now in
    let mid = g.D.Desk.sight c.hold.new.self in
    let then = g.D.Desk.sight c.peek.new.self in
    row_is c.desks_go_on.ensures.states c.places_tell_their_entry.ensures.keep c.places_tell_their_entry.ensures.name c.places_tell_their_entry.ensures.unused
    s (g.D.Desk.sight c.give_up-in-Seen.new.desk) c.give_up-in-Seen.ensures.knows c.args.place c.args.filter.now mid then
    c.in-Held.at c.in-Seen.at c.in-Held.id c.in-Seen.subject c.in-Held.ensures.says.0
    (looked_at_one c.places_tell_their_entry.ensures.hold s mid c.args.place c.in-Held.id c.requires.empty c.in-Held.ensures.says.1 then c.in-Seen.at
    (λ i. IsRecord i c.in-Seen.subject) c.in-Seen.ensures.says.0)
    c.give_up-in-Seen.ensures.saw.went.front (sym c.selects.ensures ∙ c.if-selects.true)

pub returns-then-selects-clause-placed : goal.returns-then-selects-clause-placed
returns-then-selects-clause-placed g c =
    let s = g.D.Desk.sight c.args.desk.now in
    let mid = g.D.Desk.sight c.hold.new.self in
    let then = g.D.Desk.sight c.peek.new.self in
    row_placed c.desks_go_on.ensures.states c.places_tell_their_entry.ensures.keep c.places_tell_their_entry.ensures.name c.places_tell_their_entry.ensures.unused
    s (g.D.Desk.sight c.give_up-in-Seen.new.desk) c.give_up-in-Seen.ensures.knows c.args.place mid then
    c.in-Held.at c.in-Seen.at c.in-Held.id c.in-Seen.subject c.in-Held.ensures.says.0
    (looked_at_one c.places_tell_their_entry.ensures.hold s mid c.args.place c.in-Held.id c.requires.empty c.in-Held.ensures.says.1 then c.in-Seen.at
    (λ i. IsRecord i c.in-Seen.subject) c.in-Seen.ensures.says.0)
    c.give_up-in-Seen.ensures.saw.went.front

pub returns-then-selects-clause-visited : goal.returns-then-selects-clause-visited
returns-then-selects-clause-visited g c =
    let s = g.D.Desk.sight c.args.desk.now in
    let mid = g.D.Desk.sight c.hold.new.self in
    let then = g.D.Desk.sight c.peek.new.self in
    row_visited c.desks_go_on.ensures.states c.places_tell_their_entry.ensures.keep c.places_tell_their_entry.ensures.name c.places_tell_their_entry.ensures.unused
    s (g.D.Desk.sight c.give_up-in-Seen.new.desk) c.give_up-in-Seen.ensures.knows c.args.place (selects c.args.filter.now) mid then
    c.in-Held.at c.in-Seen.at c.in-Held.id c.in-Seen.subject c.in-Held.ensures.says.0
    (looked_at_one c.places_tell_their_entry.ensures.hold s mid c.args.place c.in-Held.id c.requires.empty c.in-Held.ensures.says.1 then c.in-Seen.at
    (λ i. IsRecord i c.in-Seen.subject) c.in-Seen.ensures.says.0)
    c.give_up-in-Seen.ensures.saw.went.front

pub returns-else-selects-clause-visited : goal.returns-else-selects-clause-visited
returns-else-selects-clause-visited g c =
    let s = g.D.Desk.sight c.args.desk.now in
    let mid = g.D.Desk.sight c.hold.new.self in
    let then = g.D.Desk.sight c.peek.new.self in
    failed_visited c.desks_go_on.ensures.states c.places_tell_their_entry.ensures.keep c.places_tell_their_entry.ensures.name c.places_tell_their_entry.ensures.unused
    s (g.D.Desk.sight c.give_up-in-Seen.new.desk) c.give_up-in-Seen.ensures.knows c.args.place (selects c.args.filter.now) mid then
    c.in-Held.at c.in-Seen.at c.in-Held.id c.in-Seen.subject c.in-Held.ensures.says.0
    (looked_at_one c.places_tell_their_entry.ensures.hold s mid c.args.place c.in-Held.id c.requires.empty c.in-Held.ensures.says.1 then c.in-Seen.at
    (λ i. IsRecord i c.in-Seen.subject) c.in-Seen.ensures.says.0)
    c.give_up-in-Seen.ensures.saw.went.front (sym c.selects.ensures ∙ c.if-selects.false)
