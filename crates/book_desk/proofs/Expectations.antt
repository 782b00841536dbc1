-- What an event more on expectations leaves of a right book, and what is told of it.
use Rattle.std.proofs.Common.{◌≡◌, ℕ, ◌+◌, ◌<◌, ◌≤◌, true, not, List, [], ◌∷◌, ◌++◌, length, refl, sym, ap, subst, ◌∙◌, Option, Some, None}
use Rattle.std.specs.List.{find, slice_get, All}
use Rattle.std.proofs.lemmas.Bool.{and_from, eq-eqb, le-ltb}
use Rattle.tuple_core.specs.declared.Tuple.{Tuple}
use Rattle.room_list.specs.Roomed.{Roomed}
use Rattle.expect_table.specs.Expectations.{add_outcome, matching, with_one, without_id}
use Rattle.expect_table.specs.Match.{has_id}
use Rattle.expect_table.specs.declared.expectation.Expectation.{Expectation}
use Rattle.expect_table.specs.declared.expectation.Want.{Want}
use Rattle.expect_table.specs.declared.table.AddOutcome.{AddOutcome}
use Rattle.expect_table.specs.declared.table.AddOutcome.TheVariants.{Added}
use Rattle.history_book.specs.declared.desk.Hold.{Hold}
use Rattle.history_book.specs.declared.event.Event.{Event}
use Rattle.history_book.specs.declared.event.Event.TheVariants.{Claim, Expect, Unexpect}
use Rattle.history_book.specs.declared.record.Record.{Record}
use Rattle.history_book.specs.Desk.{SamePlaces}
use Rattle.history_book.specs.WentOn.{Looked, MadeEvent}
use Rattle.history_book.specs.DeskExpectations.{AddGives, expectation_at}
use Rattle.history_book.specs.Entry.{is_helped_entry, zone_of_entry}
use Rattle.history_book.specs.Find.{IsRecordAt}
use Rattle.history_book.specs.Held.{held_id}
use Rattle.history_book.specs.Laws.{EntriesKeepTheirHelper, EntriesKeepTheirZone, ExpectationsAreInOrder, LegalHistoriesGoOn, StatesFollow}
use Rattle.history_book.specs.Legality.{expected_for, helps_in, is_added, may_claim, may_happen, may_unexpect, same_id}
use Rattle.history_book.specs.State.{State, next, record_of, state_of}
use Rattle.book_desk.specs.declared.book.Book.{Book}
use Rattle.book_desk.specs.Fields.{AreReferences, IsBook, state_in}
use Rattle.book_desk.specs.Uses.{ArePlaces}
use Rattle.book_desk.specs.Internal.Book.{Adds, sight_in}
use Rattle.book_desk.proofs.Events.{book_next, same_state}
use Rattle.book_desk.proofs.Histories.{looked, made}
use Rattle.book_desk.proofs.References.{refs_grow}

-- an option has the same id as itself
same_id_itself : (o : Option ℕ) → same_id o o ≡ true
same_id_itself None = refl
same_id_itself (Some n) = eq-eqb n n refl

-- an event changes what is expected, and no record and no reference
record Changes (old new : Book) (es : List Expectation) : Type 0 where
  pub records : new.records ≡ old.records
  pub holds : new.holds ≡ old.holds
  pub expects : new.expects.items ≡ es

module _ (follow : StatesFollow) (goes_on : LegalHistoriesGoOn) where
  -- a book is right after an event that changes what is expected, if it may happen
  expecting_next : (log : List Event) (old new : Book) (e : Event) (es : List Expectation) → IsBook log old → Adds old new
      → may_happen old.sizes (state_in old) (length log) e ≡ true
      → record { records = old.records.items; expects = es } ≡ next (state_in old) e → Changes old new es → IsBook (log ++ e ∷ []) new
  expecting_next log old new e es h adds may state changes =
      let rs : new.records.items ≡ old.records.items = ap (λ (o : Roomed Record). o.items) changes.records in
      let hs : new.holds.items ≡ old.holds.items = ap (λ (o : Roomed Hold). o.items) changes.holds in
      book_next follow goes_on log old new e h adds may
      (same_state new old.records.items es rs changes.expects ∙ state)
      (subst (λ (x : List Record). ArePlaces old.sizes.entries x new.holds.items old.free.items old.owed.items) (sym rs)
      (subst (λ (x : List Hold). ArePlaces old.sizes.entries old.records.items x old.free.items old.owed.items) (sym hs) h.places))
      (subst (λ (x : List Record). AreReferences (log ++ e ∷ []) x new.holds.items) (sym rs)
      (subst (λ (x : List Hold). AreReferences (log ++ e ∷ []) old.records.items x) (sym hs)
      (refs_grow log (e ∷ []) old.records.items old.holds.items h.references)))
      (ap length hs)

  -- a book is right after an Expect
  pub promised : (log : List Event) (old new : Book) (e : Expectation) (replaced : Option ℕ) (moment : ℕ) → IsBook log old → Adds old new
      → e.id ≡ old.events → e.deadline ≡ moment + expected_for → helps_in e.zone (record_of e.master (state_in old)) ≡ true
      → add_outcome old.expects.room old.expects.items e moment ≡ Added replaced
      → new.records ≡ old.records → new.holds ≡ old.holds → new.expects.items ≡ with_one old.expects.items e
      → IsBook (log ++ Expect e replaced moment ∷ []) new
  promised log old new e replaced moment h adds id deadline helped outcome records holds expects =
      expecting_next log old new (Expect e replaced moment) (with_one old.expects.items e) h adds
      (and_from _ _ (and_from _ _ (and_from _ _
      (eq-eqb e.id (length log) (id ∙ h.events))
      (eq-eqb e.deadline (moment + expected_for) deadline))
      helped)
      (ap (λ (room : ℕ). is_added (add_outcome room old.expects.items e moment) replaced) (sym h.rooms.expects)
      ∙ ap (λ o. is_added o replaced) outcome ∙ same_id_itself replaced))
      refl (record { records = records; holds = holds; expects = expects })

  -- a book is right after a Claim
  pub fulfilled : (log : List Event) (old new : Book) (met : Expectation) (t : Tuple) (moment : ℕ) → IsBook log old → Adds old new
      → matching t moment old.expects.items ≡ Some met
      → new.records ≡ old.records → new.holds ≡ old.holds → new.expects.items ≡ without_id met.id old.expects.items
      → IsBook (log ++ Claim met.id met.master t moment ∷ []) new
  fulfilled log old new met t moment h adds found records holds expects =
      expecting_next log old new (Claim met.id met.master t moment) (without_id met.id old.expects.items) h adds
      (ap (λ o. may_claim o met.id met.master) found
      ∙ and_from _ _ (eq-eqb met.id met.id refl) (eq-eqb met.master met.master refl))
      refl (record { records = records; holds = holds; expects = expects })

  -- a book is right after an Unexpect
  pub dropped : (log : List Event) (old new : Book) (id : ℕ) (e : Expectation) (moment : ℕ) → IsBook log old → Adds old new
      → find (has_id id) old.expects.items ≡ Some e → e.deadline ≤ moment
      → new.records ≡ old.records → new.holds ≡ old.holds → new.expects.items ≡ without_id id old.expects.items
      → IsBook (log ++ Unexpect id moment ∷ []) new
  dropped log old new id e moment h adds found late records holds expects =
      expecting_next log old new (Unexpect id moment) (without_id id old.expects.items) h adds
      (ap (λ o. may_unexpect o moment) found ∙ ap not (le-ltb moment e.deadline late))
      refl (record { records = records; holds = holds; expects = expects })

-- what is told of an event that changes no reference
pub made_alone : (log : List Event) (spare taken : ℕ) (old new : Book) (at : ℕ) (e : Event) → IsBook log old → at ≡ old.events → Adds old new
    → new.holds ≡ old.holds
    → MadeEvent (sight_in log (spare + 1) taken old) (sight_in (log ++ e ∷ []) spare taken new) at e
    × SamePlaces (sight_in log (spare + 1) taken old) (sight_in (log ++ e ∷ []) spare taken new)
made_alone log spare taken old new at e h here adds holds = (
  made log spare taken old new at e h here adds.sizes,
  record { held = ap (λ (o : Roomed Hold). o.items) holds; owed = ap (λ (o : Roomed ℕ). o.items) adds.owed },
)

-- what is expected has ids below the next event's number
pub newest : ExpectationsAreInOrder → (log : List Event) (b : Book) (id : ℕ) → IsBook log b → id ≡ b.events
    → All (λ o. o.id < id) b.expects.items
newest law log b id h here =
    let older : All (λ (o : Expectation). o.id < length log) b.expects.items =
    subst (λ (s : State). All (λ (o : Expectation). o.id < length log) s.expects) (sym h.history.state)
    (law b.sizes log (length log) h.history.legal).1 in
    subst (λ (n : ℕ). All (λ (o : Expectation). o.id < n) b.expects.items) (sym h.events ∙ sym here) older

-- the entry for which the place is held is live, has the helper, and is in the zone, in which it was confirmed
pub record CanExpect (log : List Event) (b : Book) (p id zone : ℕ) : Type 0 where
  pub given : id ≡ held_id p b.holds.items
  pub helped : helps_in zone (record_of id (state_in b)) ≡ true
  pub zoned : zone ≡ zone_of_entry id log

-- a live entry has the helper that its Confirm gave it, and its zone
pub can_expect : EntriesKeepTheirHelper → EntriesKeepTheirZone
    → (front log : List Event) (b : Book) (holds : List Hold) (records others : List Record) (p id i zone : ℕ) → IsBook front b → IsBook log b
    → holds ≡ b.holds.items → records ≡ b.records.items → others ≡ b.records.items → id ≡ held_id p holds → IsRecordAt id (state_of records) i
    → ((r : Record) → slice_get others i ≡ Some r → zone ≡ r.original.zone)
    → is_helped_entry (held_id p b.holds.items) front ≡ true → CanExpect log b p id zone
can_expect law in_zone front log b holds records others p id i zone g h same_holds same_records same_others given found there helper =
    let here : IsRecordAt id (state_of b.records.items) i = subst (λ rs. IsRecordAt id (state_of rs) i) same_records found in
    let its : record_of id (state_in b) ≡ Some here.subject = here.same in
    let kept : is_helped_entry id front ≡ here.subject.helper =
    law b.sizes front (length front) id here.subject g.history.legal (ap (record_of id) (sym g.history.state) ∙ its) in
    let the_id : id ≡ held_id p b.holds.items = given ∙ ap (held_id p) same_holds in
    let zoned : zone ≡ here.subject.original.zone = there here.subject (ap (λ rs. slice_get rs i) same_others ∙ here.item) in
    record {
      given = the_id;
      helped = ap (helps_in zone) its
          ∙ and_from _ _ (sym kept ∙ ap (λ (n : ℕ). is_helped_entry n front) the_id ∙ helper) (eq-eqb here.subject.original.zone zone (sym zoned));
      zoned = zoned
          ∙ sym (in_zone b.sizes log (length log) id here.subject h.history.legal (ap (record_of id) (sym h.history.state) ∙ its));
    }

-- what is told where it was not added
pub not_added : (log : List Event) (spare taken : ℕ) (b : Book) (p at id zone : ℕ) (want : Want) (moment : ℕ) (e : Expectation) (outcome : AddOutcome) → IsBook log b
    → at ≡ b.events → CanExpect log b p id zone → e ≡ expectation_at at id zone want moment
    → add_outcome b.expects.room b.expects.items e moment ≡ outcome
    → Looked (sight_in log spare taken b) (sight_in log spare taken b) at (AddGives b.sizes.expectations at (held_id p b.holds.items) (zone_of_entry (held_id p b.holds.items) log) want moment outcome)
    × SamePlaces (sight_in log spare taken b) (sight_in log spare taken b)
not_added log spare taken b p at id zone want moment e outcome h here can is gives =
    let fact : AddGives b.sizes.expectations at id zone want moment outcome (state_in b) = record {
      live = can.helped;
      gives = ap (λ (room : ℕ). add_outcome room b.expects.items (expectation_at at id zone want moment) moment) (sym h.rooms.expects)
          ∙ ap (λ (x : Expectation). add_outcome b.expects.room b.expects.items x moment) (sym is) ∙ gives;
    } in (
      looked log spare taken b b at
          (AddGives b.sizes.expectations at (held_id p b.holds.items) (zone_of_entry (held_id p b.holds.items) log) want moment outcome) h here refl
          (subst (λ (m : ℕ). AddGives b.sizes.expectations at m (zone_of_entry m log) want moment outcome (state_in b)) can.given
          (subst (λ (z : ℕ). AddGives b.sizes.expectations at id z want moment outcome (state_in b)) can.zoned fact)),
      record { held = refl; owed = refl },
    )
