use Rattle.std.proofs.Common.{◌≡◌, ◌+◌, [], ◌∷◌, ◌++◌, ℕ, rules, subst, true, ◌∙◌}
use Rattle.history_book.specs.declared.event.Event.{Event}
use Rattle.history_book.specs.declared.event.Event.TheVariants.{Destroy}
use Rattle.history_book.specs.Desk.{Destroys}
use Rattle.history_book.specs.Legality.{is_reason}
use Rattle.book_desk.specs.Internal.Book.{sight_in}
use Rattle.book_desk.proofs.Events.{IsEntryOf, destroyed, destroys, entry_of, held_place}
use Rattle.book_desk.proofs.book.Book.kill.Goals as goal

pub returns-clause-stays : goal.returns-clause-stays
returns-clause-stays c log h =
    let b = c.args.self.now in
    let its : IsEntryOf b c.args.place c.held_id-id.result c.at.result.now =
    entry_of b c.as_slice.result.now c.as_slice-2.result.now c.args.place c.held_id-id.result c.in-Some.index c.at.result.now
    c.as_slice.ensures c.as_slice-2.ensures c.held_id-id.ensures c.in-Some.ensures.found c.at.ensures in
    let reason : is_reason c.args.why c.at.result.now ≡ true = search rules in
    destroyed c.histories_go_on.ensures.states c.histories_go_on.ensures.legal c.records_are_named.ensures.apart c.records_are_named.ensures.ids
    c.destroys_take_one.ensures log b c.destroy.new.self c.in-Some.index c.at.result.now c.args.why h c.destroy.ensures.adds
    c.at.ensures
    (held_place c.live_records_are_confirmed.ensures log b c.args.place c.in-Some.index c.at.result.now h c.requires.held c.at.ensures
    (its.named ∙ its.given))
    reason c.destroy.ensures.records c.destroy.ensures.holds c.destroy.ensures.expects

pub returns-clause-says : goal.returns-clause-says
returns-clause-says c log spare taken h =
    let b = c.args.self.now in
    let its : IsEntryOf b c.args.place c.held_id-id.result c.at.result.now =
    entry_of b c.as_slice.result.now c.as_slice-2.result.now c.args.place c.held_id-id.result c.in-Some.index c.at.result.now
    c.as_slice.ensures c.as_slice-2.ensures c.held_id-id.ensures c.in-Some.ensures.found c.at.ensures in
    let reason : is_reason c.args.why c.at.result.now ≡ true = search rules in
    let e : Event = Destroy c.at.result.now.id c.args.why in
    subst (λ (k : ℕ). Destroys k c.args.why (sight_in log (spare + 1) taken b) (sight_in (log ++ e ∷ []) spare taken c.destroy.new.self)
    b.events c.at.result.now) (its.named ∙ its.given)
    (destroys c.states_stay.ensures c.records_are_named.ensures.apart c.records_are_named.ensures.ids log spare taken b c.destroy.new.self c.in-Some.index
    c.at.result.now c.args.why h c.destroy.ensures.adds c.at.ensures reason c.destroy.ensures.holds)
