use Rattle.std.proofs.Common.{◌≡◌, ap, refl, sym, subst, ◌∙◌, not, true, Some, None, ℕ}
use Rattle.std.specs.List.{position}
use Rattle.std.proofs.lemmas.Bool.{eqb-true}
use Rattle.history_book.specs.declared.record.Record.{Record}
use Rattle.history_book.specs.Desk.{HoldsOneMore, IsLiveIn}
use Rattle.history_book.specs.Record.{has_place}
use Rattle.history_book.specs.State.{is_unused}
use Rattle.book_desk.specs.declared.book.Book.{Book}
use Rattle.book_desk.specs.Fields.{IsBook, state_in}
use Rattle.book_desk.specs.Internal.Book.{sight_in}
use Rattle.book_desk.proofs.Histories.{looked}
use Rattle.book_desk.proofs.Positions.{none_at, passes_at}
use Rattle.book_desk.proofs.Steps.{book_hold, live_in}
use Rattle.book_desk.proofs.book.Book.hold.Goals as goal

pub returns-in_default-clause-says : goal.returns-in_default-clause-says
returns-in_default-clause-says c log spare taken h =
    let b = c.args.self.now in
    let none : position (has_place c.args.place) b.records.items ≡ None =
    ap (position (has_place c.args.place)) (sym c.as_slice.ensures) ∙ sym c.place_index.ensures ∙ c.in_default.is in (
      looked log spare taken b b b.events (λ s. is_unused c.args.place s ≡ true) h refl refl
          (ap not (none_at (has_place c.args.place) b.records.items none)),
      record { held = refl; owed = refl },
    )

pub returns-clause-stays : goal.returns-clause-stays
returns-clause-stays c log h =
    subst (IsBook log) (sym c.hold_record-subject.ensures.rest)
    (book_hold c.live_records_are_confirmed.ensures log c.args.self.now c.hold_record-subject.new.self.holds c.in-Some.index
    c.hold_record-subject.result h c.requires.room c.hold_record-subject.ensures.subject c.hold_record-subject.ensures.holds
    c.hold_record-subject.ensures.room)

pub returns-clause-says : goal.returns-clause-says
returns-clause-says c log spare taken h =
    let b : Book = c.args.self.now in
    let new : Book = c.hold_record-subject.new.self in
    let subject : Record = c.hold_record-subject.result in
    let rest : new ≡ record b { holds = new.holds } = c.hold_record-subject.ensures.rest in
    let found : position (has_place c.args.place) b.records.items ≡ Some c.in-Some.index =
    ap (position (has_place c.args.place)) (sym c.as_slice.ensures) ∙ sym c.place_index.ensures ∙ c.in-Some.is in
    let live : IsLiveIn c.args.place subject.id (state_in b) =
    live_in c.records_are_named.ensures.apart c.records_are_named.ensures.ids log b c.args.place c.in-Some.index subject h found
    c.hold_record-subject.ensures.subject in (
      looked log spare taken b new b.events (IsLiveIn c.args.place subject.id) h refl (ap (λ (x : Book). x.sizes) rest) live,
      subst (λ (p : ℕ). HoldsOneMore (sight_in log spare taken b) (sight_in log spare taken new) p (Some subject.id))
          (eqb-true subject.place c.args.place (passes_at (has_place c.args.place) b.records.items c.in-Some.index subject found
          c.hold_record-subject.ensures.subject))
          (record { held = c.hold_record-subject.ensures.holds; owed = ap (λ (x : Book). x.owed.items) rest }),
    )
