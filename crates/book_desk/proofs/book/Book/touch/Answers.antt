use Rattle.std.proofs.Common.{◌≡◌, ◌+◌, [], ◌∷◌, ◌++◌, ℕ, List, ap, subst, sym, true, ◌∙◌}
use Rattle.history_book.specs.declared.event.Event.{Event}
use Rattle.history_book.specs.declared.event.Event.TheVariants.{Touch}
use Rattle.history_book.specs.Desk.{Touches}
use Rattle.history_book.specs.Entry.{is_of_entry}
use Rattle.proto_rules.specs.Protocol.{is_of_protocol}
use Rattle.book_desk.specs.Internal.Book.{sight_in}
use Rattle.book_desk.proofs.Events.{IsEntryOf, entry_of, keeps_protocol, refreshed, touches}
use Rattle.book_desk.proofs.book.Book.touch.Goals as goal

pub step-requires-clause-same : goal.step-requires-clause-same
step-requires-clause-same c =
    let b = c.args.self.now in
    let its : IsEntryOf b c.args.place c.held_id-id.result c.at.result.now =
    entry_of b c.as_slice.result.now c.as_slice-2.result.now c.args.place c.held_id-id.result c.in-Some.index c.at.result.now
    c.as_slice.ensures c.as_slice-2.ensures c.held_id-id.ensures c.in-Some.ensures.found c.at.ensures in
    let log : List Event = c.requires.right.0 in
    keeps_protocol c.entries_keep_their_protocol.ensures log b c.held_id-id.result c.at.result.now c.args.segment c.requires.right.1 its.its
    (ap (λ n. is_of_entry c.args.segment n log) its.given ∙ c.requires.right.2)

pub returns-in-Accept-clause-stays : goal.returns-in-Accept-clause-stays
returns-in-Accept-clause-stays c log h =
    let b = c.args.self.now in
    let its : IsEntryOf b c.args.place c.held_id-id.result c.at.result.now =
    entry_of b c.as_slice.result.now c.as_slice-2.result.now c.args.place c.held_id-id.result c.in-Some.index c.at.result.now
    c.as_slice.ensures c.as_slice-2.ensures c.held_id-id.ensures c.in-Some.ensures.found c.at.ensures in
    let its_log : List Event = c.requires.right.0 in
    let protocol : is_of_protocol c.args.segment c.at.result.now.part.kind ≡ true =
    keeps_protocol c.entries_keep_their_protocol.ensures its_log b c.held_id-id.result c.at.result.now c.args.segment c.requires.right.1 its.its
    (ap (λ n. is_of_entry c.args.segment n its_log) its.given ∙ c.requires.right.2) in
    refreshed c.histories_go_on.ensures.states c.histories_go_on.ensures.legal c.records_are_named.ensures.apart c.records_are_named.ensures.ids
    c.touches_change_one.ensures c.same_part_is_equality.ensures log b c.refresh.new.self c.in-Some.index c.at.result.now
    c.args.direction c.args.segment c.args.moment c.in-Accept.after h c.refresh.ensures.adds c.at.ensures protocol
    (sym c.step.ensures ∙ c.in-Accept.is) c.refresh.ensures.records c.refresh.ensures.holds c.refresh.ensures.expects

pub returns-in-Accept-clause-says : goal.returns-in-Accept-clause-says
returns-in-Accept-clause-says c log spare taken h =
    let b = c.args.self.now in
    let its : IsEntryOf b c.args.place c.held_id-id.result c.at.result.now =
    entry_of b c.as_slice.result.now c.as_slice-2.result.now c.args.place c.held_id-id.result c.in-Some.index c.at.result.now
    c.as_slice.ensures c.as_slice-2.ensures c.held_id-id.ensures c.in-Some.ensures.found c.at.ensures in
    let e : Event = Touch c.at.result.now.id c.args.direction c.args.segment c.args.moment c.in-Accept.after in
    subst (λ (k : ℕ). Touches k c.args.direction c.args.segment c.args.moment
    (sight_in log (spare + 1) taken b) (sight_in (log ++ e ∷ []) spare taken c.refresh.new.self) b.events c.at.result.now) (its.named ∙ its.given)
    (touches c.states_stay.ensures c.records_are_named.ensures.apart c.records_are_named.ensures.ids log spare taken b c.refresh.new.self c.in-Some.index
    c.at.result.now c.args.direction c.args.segment c.args.moment c.in-Accept.after h c.refresh.ensures.adds c.at.ensures
    (sym c.step.ensures ∙ c.in-Accept.is) c.refresh.ensures.holds)
