use Rattle.std.proofs.Common.{◌+◌, [], ◌∷◌, ◌++◌, ℕ, ap, refl, subst, sym, ◌∙◌}
use Rattle.expect_table.specs.declared.expectation.Expectation.{Expectation}
use Rattle.expect_table.specs.declared.table.AddOutcome.TheVariants.{Clash, Full}
use Rattle.history_book.specs.declared.event.Event.{Event}
use Rattle.history_book.specs.declared.event.Event.TheVariants.{Expect}
use Rattle.history_book.specs.Desk.{SamePlaces}
use Rattle.history_book.specs.DeskExpectations.{expectation_at}
use Rattle.history_book.specs.Entry.{zone_of_entry}
use Rattle.history_book.specs.Legality.{helps_in}
use Rattle.history_book.specs.State.{record_of}
use Rattle.history_book.specs.WentOn.{MadeEvent}
use Rattle.book_desk.specs.Fields.{state_in}
use Rattle.book_desk.specs.Internal.Book.{sight_in}
use Rattle.book_desk.proofs.Expectations.{CanExpect, can_expect, made_alone, newest, not_added, promised}
use Rattle.book_desk.proofs.book.Book.expect.Goals as goal

pub promise-requires-clause-newest : goal.promise-requires-clause-newest
promise-requires-clause-newest c =
    newest c.expectations_are_in_order.ensures c.requires.right.0 c.args.self.now c.expectation_at-e.result.id c.requires.right.1
    (ap (λ (x : Expectation). x.id) c.expectation_at-e.ensures)

pub returns-in-Added-clause-stays : goal.returns-in-Added-clause-stays
returns-in-Added-clause-stays c log h =
    let b = c.args.self.now in
    let e = c.expectation_at-e.result in
    let can : CanExpect log b c.args.place c.held_id-id.result c.zone_at-zone.result =
    can_expect c.entries_keep_helper_and_zone.ensures.helper c.entries_keep_helper_and_zone.ensures.zone c.requires.right.0 log b c.as_slice.result.now
    c.as_slice-2.result.now c.as_slice-3.result.now c.args.place c.held_id-id.result c.in-Some.index c.zone_at-zone.result
    c.requires.right.1 h c.as_slice.ensures c.as_slice-2.ensures c.as_slice-3.ensures c.held_id-id.ensures c.in-Some.ensures.found
    c.zone_at-zone.ensures c.requires.right.2 in
    promised c.histories_go_on.ensures.states c.histories_go_on.ensures.legal log b c.promise.new.self e c.in-Added.replaced c.args.moment h
    c.promise.ensures.adds (ap (λ (x : Expectation). x.id) c.expectation_at-e.ensures)
    (ap (λ (x : Expectation). x.deadline) c.expectation_at-e.ensures)
    (ap (λ (x : Expectation). helps_in x.zone (record_of x.master (state_in b))) c.expectation_at-e.ensures ∙ can.helped)
    (sym c.outcome.ensures ∙ c.in-Added.is) c.promise.ensures.records c.promise.ensures.holds c.promise.ensures.expects

pub returns-in-Added-clause-says : goal.returns-in-Added-clause-says
returns-in-Added-clause-says c log spare taken h =
    let b = c.args.self.now in
    let can : CanExpect log b c.args.place c.held_id-id.result c.zone_at-zone.result =
    can_expect c.entries_keep_helper_and_zone.ensures.helper c.entries_keep_helper_and_zone.ensures.zone c.requires.right.0 log b c.as_slice.result.now
    c.as_slice-2.result.now c.as_slice-3.result.now c.args.place c.held_id-id.result c.in-Some.index c.zone_at-zone.result
    c.requires.right.1 h c.as_slice.ensures c.as_slice-2.ensures c.as_slice-3.ensures c.held_id-id.ensures c.in-Some.ensures.found
    c.zone_at-zone.ensures c.requires.right.2 in
    let made : Event = Expect c.expectation_at-e.result c.in-Added.replaced c.args.moment in
    subst (λ (x : Expectation).
    MadeEvent (sight_in log (spare + 1) taken b) (sight_in (log ++ made ∷ []) spare taken c.promise.new.self) b.events (Expect x c.in-Added.replaced c.args.moment)
    × SamePlaces (sight_in log (spare + 1) taken b) (sight_in (log ++ made ∷ []) spare taken c.promise.new.self))
    (c.expectation_at-e.ensures
    ∙ ap (λ (z : ℕ). expectation_at b.events c.held_id-id.result z c.args.want c.args.moment) can.zoned
    ∙ ap (λ (m : ℕ). expectation_at b.events m (zone_of_entry m log) c.args.want c.args.moment) can.given)
    (made_alone log spare taken b c.promise.new.self b.events made h refl c.promise.ensures.adds c.promise.ensures.holds)

pub returns-in-Clash-clause-says : goal.returns-in-Clash-clause-says
returns-in-Clash-clause-says c log spare taken h =
    let b = c.args.self.now in
    let can : CanExpect log b c.args.place c.held_id-id.result c.zone_at-zone.result =
    can_expect c.entries_keep_helper_and_zone.ensures.helper c.entries_keep_helper_and_zone.ensures.zone c.requires.right.0 log b c.as_slice.result.now
    c.as_slice-2.result.now c.as_slice-3.result.now c.args.place c.held_id-id.result c.in-Some.index c.zone_at-zone.result
    c.requires.right.1 h c.as_slice.ensures c.as_slice-2.ensures c.as_slice-3.ensures c.held_id-id.ensures c.in-Some.ensures.found
    c.zone_at-zone.ensures c.requires.right.2 in
    not_added log spare taken b c.args.place b.events c.held_id-id.result c.zone_at-zone.result c.args.want c.args.moment c.expectation_at-e.result
    (Clash c.in-Clash.id) h refl can c.expectation_at-e.ensures (sym c.outcome.ensures ∙ c.in-Clash.is)

pub returns-in-Full-clause-says : goal.returns-in-Full-clause-says
returns-in-Full-clause-says c log spare taken h =
    let b = c.args.self.now in
    let can : CanExpect log b c.args.place c.held_id-id.result c.zone_at-zone.result =
    can_expect c.entries_keep_helper_and_zone.ensures.helper c.entries_keep_helper_and_zone.ensures.zone c.requires.right.0 log b c.as_slice.result.now
    c.as_slice-2.result.now c.as_slice-3.result.now c.args.place c.held_id-id.result c.in-Some.index c.zone_at-zone.result
    c.requires.right.1 h c.as_slice.ensures c.as_slice-2.ensures c.as_slice-3.ensures c.held_id-id.ensures c.in-Some.ensures.found
    c.zone_at-zone.ensures c.requires.right.2 in
    not_added log spare taken b c.args.place b.events c.held_id-id.result c.zone_at-zone.result c.args.want c.args.moment c.expectation_at-e.result
    Full h refl can c.expectation_at-e.ensures (sym c.outcome.ensures ∙ c.in-Full.is)
