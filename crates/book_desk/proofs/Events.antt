-- What an event more leaves of a right book, and what is told of it.
use Rattle.std.proofs.Common.{◌≡◌, ◌≢◌, ℕ, ◌+◌, ◌<◌, true, false, not, cond, List, [], ◌∷◌, ◌++◌, length, refl, sym, ap, subst, ◌∙◌, ⊎_elim, arith, Option, Some, None, length-append}
use Rattle.std.specs.List.{AllByRecursion, find, remove, slice_get}
use Rattle.std.specs.Prelude.{◌&&◌, ◌||◌, Bool, is_none, is_some, slice_set, unwrap_or}
use Rattle.std.proofs.lemmas.Bool.{and_from, and_parts, cond_both, eq-eqb, eqb-true, lt-ltb, or_cases, or_left, or_right}
use Rattle.std.proofs.lemmas.List.{length-map}
use Rattle.std.proofs.lemmas.Option.{same_Some}
use Rattle.tuple_core.specs.declared.Direction.{Direction}
use Rattle.tuple_core.specs.declared.Segment.{Segment}
use Rattle.room_list.specs.Roomed.{Roomed}
use Rattle.proto_rules.specs.declared.Outcome.TheVariants.{Accept}
use Rattle.proto_rules.specs.declared.Part.{Part}
use Rattle.proto_rules.specs.Laws.{SamePartIsEquality}
use Rattle.proto_rules.specs.Protocol.{is_of_protocol}
use Rattle.proto_rules.specs.Step.{step_of}
use Rattle.expect_table.specs.Expectations.{without_master}
use Rattle.expect_table.specs.declared.expectation.Expectation.{Expectation}
use Rattle.history_book.specs.declared.desk.Hold.{Hold}
use Rattle.history_book.specs.declared.event.Event.{Event}
use Rattle.history_book.specs.declared.event.Event.TheVariants.{Confirm, Destroy, Touch}
use Rattle.history_book.specs.declared.event.Why.{Why}
use Rattle.history_book.specs.declared.find.FoundAt.{FoundAt}
use Rattle.history_book.specs.declared.record.Flow.{Flow}
use Rattle.history_book.specs.declared.record.Record.{Record}
use Rattle.history_book.specs.declared.sizes.Sizes.{Sizes}
use Rattle.history_book.specs.Desk.{Destroys, IsRecord, IsWinner, Touches}
use Rattle.history_book.specs.Entry.{is_of_entry}
use Rattle.history_book.specs.Find.{IsRecordAt}
use Rattle.history_book.specs.Held.{for_entry, held_for, held_id, id_of, is_at, is_held, is_held_for_entry, is_taken}
use Rattle.history_book.specs.Laws.{EntriesKeepTheirProtocol, IsConfirmed, LegalHistoriesGoOn, LiveRecordsAreConfirmed, RecordsAreApart, StatesFollow, StatesStay}
use Rattle.history_book.specs.Legality.{accepts, is_of_one_flow, is_reason, may_destroy, may_happen, may_touch}
use Rattle.history_book.specs.Record.{has_id, has_original, has_place, has_reply}
use Rattle.history_book.specs.Sight.{IsForEntryOf, IsForOne, WasConfirmedIn}
use Rattle.history_book.specs.Sizes.{AreWithinLimits}
use Rattle.history_book.specs.State.{State, is_unused, live_under, next, record_of, state_of}
use Rattle.history_book.specs.StateLaws.{DestroysTakeOne, FreeIsAbsent, IdsNameRecords, TouchesChangeOne}
use Rattle.book_desk.specs.declared.book.Book.{Book}
use Rattle.book_desk.specs.Fields.{Agree, AreReferences, IsBook, IsForRecord, IsHistory, state_in}
use Rattle.book_desk.specs.Uses.{ArePlaces, tally}
use Rattle.book_desk.specs.Internal.Book.{Adds, WinsAt, sight_in}
use Rattle.book_desk.proofs.Counting.{none_counted}
use Rattle.book_desk.proofs.Histories.{at_before, history_next, made}
use Rattle.book_desk.proofs.Lists.{each_at, each_map, none_of, tally_some}
use Rattle.book_desk.proofs.Pool.{fewer_records, place_below, places_confirm, places_kill, places_touch}
use Rattle.book_desk.proofs.Positions.{find_passes}
use Rattle.book_desk.proofs.References.{refs_confirm, refs_grow, refs_remove, refs_set}
use Rattle.book_desk.proofs.Steps.{apart_of, confirmed_record}

-- the state that the fields have, by its two parts
pub same_state : (b : Book) (rs : List Record) (es : List Expectation) → b.records.items ≡ rs → b.expects.items ≡ es
    → state_in b ≡ record { records = rs; expects = es }
same_state b rs es records expects = λ i. record { records = records i; expects = expects i }

module _ (follow : StatesFollow) (goes_on : LegalHistoriesGoOn) where
  -- a book is right after an event that may happen, if its places and references are
  pub book_next : (log : List Event) (old new : Book) (e : Event) → IsBook log old → Adds old new
      → may_happen old.sizes (state_in old) (length log) e ≡ true
      → state_in new ≡ next (state_in old) e
      → ArePlaces old.sizes.entries new.records.items new.holds.items old.free.items old.owed.items
      → AreReferences (log ++ e ∷ []) new.records.items new.holds.items
      → length new.holds.items ≡ length old.holds.items → IsBook (log ++ e ∷ []) new
  book_next log old new e h adds may state places refs same =
      let entries : new.sizes.entries ≡ old.sizes.entries = ap (λ (z : Sizes). z.entries) adds.sizes in
      let passes : new.sizes.passes ≡ old.sizes.passes = ap (λ (z : Sizes). z.passes) adds.sizes in
      record {
        limits = subst AreWithinLimits (sym adds.sizes) h.limits;
        events = adds.events ∙ ap (λ (n : ℕ). n + 1) h.events ∙ sym (length-append log (e ∷ []));
        history = subst (λ (z : Sizes). IsHistory z (log ++ e ∷ []) (state_in new)) (sym adds.sizes)
            (history_next follow goes_on old.sizes log (state_in old) (state_in new) e h.history may state);
        places = subst (λ (z : Sizes). ArePlaces z.entries new.records.items new.holds.items new.free.items new.owed.items) (sym adds.sizes)
            (subst (λ (f : Roomed ℕ). ArePlaces old.sizes.entries new.records.items new.holds.items f.items new.owed.items) (sym adds.free)
            (subst (λ (o : Roomed ℕ). ArePlaces old.sizes.entries new.records.items new.holds.items old.free.items o.items) (sym adds.owed)
            places));
        references = refs;
        few = omega (arith, h.few, same, passes, ap (λ (o : Roomed ℕ). length o.items) adds.owed);
        rooms = record {
          records = omega (arith, h.rooms.records, adds.records_room, entries);
          free = omega (arith, h.rooms.free, ap (λ (f : Roomed ℕ). f.room) adds.free, entries);
          holds = omega (arith, h.rooms.holds, adds.holds_room, passes);
          owed = omega (arith, h.rooms.owed, ap (λ (o : Roomed ℕ). o.room) adds.owed, passes);
          expects = adds.expects_room ∙ h.rooms.expects ∙ sym (ap (λ (z : Sizes). z.expectations) adds.sizes);
        };
      }

-- what has the test of none is none
is_none_is : (o : Option ℕ) → is_none o ≡ true → o ≡ None
is_none_is None h = refl
is_none_is (Some n) h = cc

-- a place that was taken is no record's
taken_nobodys : (p : ℕ) (rs : List Record) (held : List Hold) → is_taken p held ≡ true
    → AllByRecursion (λ h. AllByRecursion (IsForRecord h) rs) held → AllByRecursion (λ (s : Record). s.place ≢ p) rs
taken_nobodys p rs [] taken current = cc
taken_nobodys p rs (h ∷ hs) taken (current, rest) =
    ⊎_elim
    (λ e.
    let parts = and_parts (is_at p h) (is_none h.id) e in
    each_map (IsForRecord h) (λ (s : Record). s.place ≢ p) rs
    (λ s own same.
    let some : h.id ≡ Some s.id = own (eqb-true h.place p parts.0 ∙ sym same) in
    let none : h.id ≡ None = is_none_is h.id parts.1 in cc)
    current)
    (λ e. taken_nobodys p rs hs e rest)
    (or_cases (is_at p h && is_none h.id) (is_taken p hs) taken)

-- a place that was taken is held
taken_held : (p : ℕ) (held : List Hold) → is_taken p held ≡ true → is_held p held ≡ true
taken_held p [] taken = cc
taken_held p (h ∷ hs) taken =
    ⊎_elim
    (λ e. or_left (is_at p h) (is_held p hs) (and_parts (is_at p h) (is_none h.id) e).0)
    (λ e. or_right (is_at p h) (is_held p hs) (taken_held p hs e))
    (or_cases (is_at p h && is_none h.id) (is_taken p hs) taken)

-- no record counts in a place that was taken
nobodys : (log : List Event) (b : Book) (p : ℕ) → IsBook log b → is_taken p b.holds.items ≡ true → tally (has_place p) b.records.items ≡ 0
nobodys log b p h taken =
    none_counted (λ (s : Record). s.place) p b.records.items (taken_nobodys p b.records.items b.holds.items taken h.references.current)

-- a place that was taken is no live record's
pub taken_unused : (log : List Event) (b : Book) (p : ℕ) → IsBook log b → is_taken p b.holds.items ≡ true → is_unused p (state_in b) ≡ true
taken_unused log b p h taken = ap not (none_of (has_place p) b.records.items (nobodys log b p h taken))

-- a place that was taken is one of the pool
taken_below : (log : List Event) (b : Book) (p : ℕ) → IsBook log b → is_taken p b.holds.items ≡ true → p < b.sizes.entries
taken_below log b p h taken =
    place_below b.sizes.entries b.records.items b.holds.items b.free.items b.owed.items p h.places
    (omega (arith, tally_some (is_at p) b.holds.items (taken_held p b.holds.items taken)))

-- there is room for a record in a place that was taken
pub enter_room : (log : List Event) (b : Book) (p : ℕ) → IsBook log b → is_taken p b.holds.items ≡ true → length b.records.items < b.records.room
enter_room log b p h taken =
    omega (
      arith,
      h.rooms.records,
      fewer_records b.sizes.entries b.records.items b.holds.items b.free.items b.owed.items h.places p (taken_below log b p h taken) (nobodys log b p h taken),
    )

-- a book is right after a Confirm
pub entered : StatesFollow → LegalHistoriesGoOn → FreeIsAbsent → (log : List Event) (old new : Book) (r : Record) → IsBook log old → Adds old new
    → is_taken r.place old.holds.items ≡ true → r.id ≡ old.events → is_of_one_flow r ≡ true
    → live_under r.original (state_in old) ≡ None → live_under r.reply (state_in old) ≡ None
    → new.records.items ≡ old.records.items ++ r ∷ [] → new.holds.items ≡ held_for r.place r.id old.holds.items → new.expects ≡ old.expects
    → IsBook (log ++ Confirm r ∷ []) new
entered follow goes_on free_absent log old new r h adds taken id protocol original reply records holds expects =
    let s : State = state_in old in
    let none : tally (has_place r.place) old.records.items ≡ 0 = nobodys log old r.place h taken in
    let held : is_held r.place old.holds.items ≡ true = taken_held r.place old.holds.items taken in
    let front : r.id ≡ length log = id ∙ h.events in
    book_next follow goes_on log old new (Confirm r) h adds
    (and_from _ _ (and_from _ _ (and_from _ _ (and_from _ _
    (eq-eqb r.id (length log) front)
    protocol)
    (and_from _ _ (lt-ltb r.place old.sizes.entries (taken_below log old r.place h taken))
    (ap not (none_of (has_place r.place) old.records.items none))))
    ((free_absent r.original s).0 original))
    ((free_absent r.reply s).0 reply))
    (same_state new (old.records.items ++ r ∷ []) old.expects.items records (ap (λ (o : Roomed Expectation). o.items) expects))
    (subst (λ rs. ArePlaces old.sizes.entries rs new.holds.items old.free.items old.owed.items) (sym records)
    (subst (λ hs. ArePlaces old.sizes.entries (old.records.items ++ r ∷ []) hs old.free.items old.owed.items) (sym holds)
    (places_confirm old.sizes.entries old.records.items old.holds.items old.free.items old.owed.items h.places r held none)))
    (subst (λ rs. AreReferences (log ++ Confirm r ∷ []) rs new.holds.items) (sym records)
    (subst (λ hs. AreReferences (log ++ Confirm r ∷ []) (old.records.items ++ r ∷ []) hs) (sym holds)
    (refs_confirm log old.records.items old.holds.items r h.references front
    (taken_nobodys r.place old.records.items old.holds.items taken h.references.current))))
    (ap length holds ∙ length-map old.holds.items (for_entry r.place r.id))

module _ (follow : StatesFollow) (goes_on : LegalHistoriesGoOn) (apart : RecordsAreApart) (ids : IdsNameRecords) where
  pub refreshed : TouchesChangeOne → SamePartIsEquality → (log : List Event) (old new : Book) (i : ℕ) (r : Record) (direction : Direction) (segment : Segment)
      (moment : ℕ) (after : Part) → IsBook log old → Adds old new
      → slice_get old.records.items i ≡ Some r → is_of_protocol segment r.part.kind ≡ true
      → step_of r.part direction segment moment ≡ Accept after
      → new.records.items ≡ slice_set old.records.items i (record r { part = after }) → new.holds ≡ old.holds → new.expects ≡ old.expects
      → IsBook (log ++ Touch r.id direction segment moment after ∷ []) new
  refreshed changes same_part log old new i r direction segment moment after h adds item protocol step written holds expects =
      let s : State = state_in old in
      let one : Record = record r { part = after } in
      let e : Event = Touch r.id direction segment moment after in
      let refs : AreReferences (log ++ e ∷ []) (slice_set old.records.items i one) old.holds.items =
      refs_grow log (e ∷ []) (slice_set old.records.items i one) old.holds.items
      (refs_set log old.records.items old.holds.items i r one h.references
      (each_map (λ k. AllByRecursion (IsForRecord k) old.records.items) (λ k. IsForRecord k r) old.holds.items
      (λ k all. each_at (IsForRecord k) old.records.items i r all item) h.references.current) refl refl) in
      book_next follow goes_on log old new e h adds
      (ap (λ o. may_touch o direction segment moment after) (ids s i r (apart_of apart log old h) item)
      ∙ and_from _ _ protocol (ap (λ o. accepts o after) step ∙ (same_part after after).1 refl))
      (same_state new (next s e).records old.expects.items (written ∙ sym (changes s i r direction segment moment after (apart_of apart log old h) item))
      (ap (λ (o : Roomed Expectation). o.items) expects))
      (subst (λ rs. ArePlaces old.sizes.entries rs new.holds.items old.free.items old.owed.items) (sym written)
      (subst (λ (hs : Roomed Hold). ArePlaces old.sizes.entries (slice_set old.records.items i one) hs.items old.free.items old.owed.items) (sym holds)
      (places_touch old.sizes.entries old.records.items old.holds.items old.free.items old.owed.items h.places i r one item refl)))
      (subst (λ rs. AreReferences (log ++ e ∷ []) rs new.holds.items) (sym written)
      (subst (λ (hs : Roomed Hold). AreReferences (log ++ e ∷ []) (slice_set old.records.items i one) hs.items) (sym holds) refs))
      (ap (λ (hs : Roomed Hold). length hs.items) holds)

  pub destroyed : DestroysTakeOne → (log : List Event) (old new : Book) (i : ℕ) (r : Record) (why : Why) → IsBook log old → Adds old new
      → slice_get old.records.items i ≡ Some r → is_held r.place old.holds.items ≡ true → is_reason why r ≡ true
      → new.records.items ≡ remove old.records.items i → new.holds ≡ old.holds
      → new.expects.items ≡ without_master r.id old.expects.items → IsBook (log ++ Destroy r.id why ∷ []) new
  destroyed takes log old new i r why h adds item held reason removed holds expects =
      let s : State = state_in old in
      let e : Event = Destroy r.id why in
      let refs : AreReferences (log ++ e ∷ []) (remove old.records.items i) old.holds.items =
      refs_grow log (e ∷ []) (remove old.records.items i) old.holds.items
      (refs_remove log old.records.items old.holds.items i h.references) in
      book_next follow goes_on log old new e h adds
      (ap (λ o. may_destroy o why) (ids s i r (apart_of apart log old h) item) ∙ reason)
      (same_state new (next s e).records (without_master r.id old.expects.items) (removed ∙ sym (takes s i r why (apart_of apart log old h) item)) expects)
      (subst (λ rs. ArePlaces old.sizes.entries rs new.holds.items old.free.items old.owed.items) (sym removed)
      (subst (λ (hs : Roomed Hold). ArePlaces old.sizes.entries (remove old.records.items i) hs.items old.free.items old.owed.items) (sym holds)
      (places_kill old.sizes.entries old.records.items old.holds.items old.free.items old.owed.items h.places i r item held)))
      (subst (λ rs. AreReferences (log ++ e ∷ []) rs new.holds.items) (sym removed)
      (subst (λ (hs : Roomed Hold). AreReferences (log ++ e ∷ []) (remove old.records.items i) hs.items) (sym holds) refs))
      (ap (λ (hs : Roomed Hold). length hs.items) holds)

module _ (stay : StatesStay) (apart : RecordsAreApart) (ids : IdsNameRecords) where
  pub touches : (log : List Event) (spare taken : ℕ) (old new : Book) (i : ℕ) (r : Record) (direction : Direction) (segment : Segment) (moment : ℕ) (after : Part)
      → IsBook log old → Adds old new → slice_get old.records.items i ≡ Some r
      → step_of r.part direction segment moment ≡ Accept after → new.holds ≡ old.holds
      → Touches r.id direction segment moment (sight_in log (spare + 1) taken old)
      (sight_in (log ++ Touch r.id direction segment moment after ∷ []) spare taken new) old.events r
  touches log spare taken old new i r direction segment moment after h adds item step holds =
      let e : Event = Touch r.id direction segment moment after in
      record {
        after = after;
        made = made log spare taken old new old.events e h refl adds.sizes;
        found = at_before stay log old old.events e (IsRecord r.id r) h refl
            (ids (state_in old) i r (apart_of apart log old h) item);
        step = step;
        same = record { held = ap (λ (hs : Roomed Hold). hs.items) holds; owed = ap (λ (o : Roomed ℕ). o.items) adds.owed };
      }

  pub destroys : (log : List Event) (spare taken : ℕ) (old new : Book) (i : ℕ) (r : Record) (why : Why) → IsBook log old → Adds old new
      → slice_get old.records.items i ≡ Some r → is_reason why r ≡ true → new.holds ≡ old.holds
      → Destroys r.id why (sight_in log (spare + 1) taken old) (sight_in (log ++ Destroy r.id why ∷ []) spare taken new) old.events r
  destroys log spare taken old new i r why h adds item reason holds =
      let e : Event = Destroy r.id why in
      record {
        made = made log spare taken old new old.events e h refl adds.sizes;
        found = at_before stay log old old.events e (IsRecord r.id r) h refl
            (ids (state_in old) i r (apart_of apart log old h) item);
        reason = reason;
        same = record { held = ap (λ (hs : Roomed Hold). hs.items) holds; owed = ap (λ (o : Roomed ℕ). o.items) adds.owed };
      }

-- the first reference to a place that is held for an entry is for it
pub record IsFirstFor (p : ℕ) (held : List Hold) : Type 0 where
  pub hold : Hold
  pub first : find (is_at p) held ≡ Some hold
  pub for_it : is_some hold.id ≡ true

-- a reference is for an entry where another to its place is
some_by_others : (p : ℕ) (h : Hold) (hs : List Hold) → h.place ≡ p → AllByRecursion (IsForOne h) hs → is_held_for_entry p hs ≡ true
    → is_some h.id ≡ true
some_by_others p h [] same one held = cc
some_by_others p h (g ∷ gs) same (one, ones) held =
    ⊎_elim
    (λ e. one.entry (same ∙ sym (eqb-true g.place p (and_parts (is_at p g) (is_some g.id) e).0)))
    (λ e. some_by_others p h gs same ones e)
    (or_cases (is_at p g && is_some g.id) (is_held_for_entry p gs) held)

-- the first reference is for the entry
first_for : (p : ℕ) (held : List Hold) → Agree held → is_held_for_entry p held ≡ true → IsFirstFor p held
first_for p [] agree held = cc
first_for p (h ∷ hs) (one, rest) held =
    elim (is_at p h) as (λ b. is_at p h ≡ b → ((b && is_some h.id) || is_held_for_entry p hs) ≡ true → IsFirstFor p (h ∷ hs)) [
      | true ↦ λ here some. record {
        hold = h;
        first = ap (λ b. cond b (Some h) (find (is_at p) hs)) here;
        for_it = ⊎_elim (λ e. e) (λ e. some_by_others p h hs (eqb-true h.place p here) one e) (or_cases (is_some h.id) (is_held_for_entry p hs) some);
      }
      | false ↦ λ here some.
          let later : IsFirstFor p hs = first_for p hs rest some in
          record {
            hold = later.hold;
            first = ap (λ b. cond b (Some h) (find (is_at p) hs)) here ∙ later.first;
            for_it = later.for_it;
          }
    ] refl held

-- a place that is held for an entry is held
held_at_all : (p : ℕ) (held : List Hold) → is_held_for_entry p held ≡ true → is_held p held ≡ true
held_at_all p [] h = cc
held_at_all p (g ∷ gs) h =
    ⊎_elim
    (λ e. or_left (is_at p g) (is_held p gs) (and_parts (is_at p g) (is_some g.id) e).0)
    (λ e. or_right (is_at p g) (is_held p gs) (held_at_all p gs e))
    (or_cases (is_at p g && is_some g.id) (is_held_for_entry p gs) h)

-- what is some is its value
some_is : (o : Option ℕ) → is_some o ≡ true → o ≡ Some (unwrap_or o 0)
some_is None h = cc
some_is (Some n) h = refl

-- what is so of each reference is so of the one that is found
each_found : (P : Hold → Type 0) (q : Hold → Bool) (held : List Hold) (h : Hold) → AllByRecursion P held → find q held ≡ Some h → P h
each_found P q [] h all found = cc
each_found P q (g ∷ gs) h (all, alls) found =
    cond_both (q g) (Some g) (find q gs) (λ o. o ≡ Some h → P h)
    (λ e same. let here : g ≡ h = cc in subst P here all)
    (λ e same. each_found P q gs h alls same) found

-- the place that is held for an entry is that of its record
pub held_place : LiveRecordsAreConfirmed → (log : List Event) (b : Book) (p i : ℕ) (r : Record) → IsBook log b → is_held_for_entry p b.holds.items ≡ true
    → slice_get b.records.items i ≡ Some r → r.id ≡ held_id p b.holds.items → is_held r.place b.holds.items ≡ true
held_place law log b p i r h held item id =
    let first : IsFirstFor p b.holds.items = first_for p b.holds.items h.references.agreed held in
    let there : first.hold.place ≡ p = eqb-true first.hold.place p (find_passes (is_at p) b.holds.items first.hold first.first) in
    let its : first.hold.id ≡ Some r.id = some_is first.hold.id first.for_it ∙ ap Some (sym (id ∙ ap id_of first.first)) in
    let entry : WasConfirmedIn log first.hold.place r.id =
    subst (IsForEntryOf log first.hold.place) its
    (each_found (λ (k : Hold). IsForEntryOf log k.place k.id) (is_at p) b.holds.items first.hold h.references.confirmed first.first) in
    let live : IsConfirmed log r = confirmed_record law log b i r h item in
    let same : Some (Confirm live.subject) ≡ Some (Confirm entry.subject) = sym live.event ∙ entry.event in
    let one : live.subject ≡ entry.subject = cc in
    let place : r.place ≡ p = live.same.place ∙ ap (λ (s : Record). s.place) one ∙ entry.placed ∙ there in
    subst (λ (q : ℕ). is_held q b.holds.items ≡ true) (sym place) (held_at_all p b.holds.items held)

-- the record that was found by its id
pub found_record : (b : Book) (id i : ℕ) (r : Record) → IsRecordAt id (state_of b.records.items) i → slice_get b.records.items i ≡ Some r
    → (record_of id (state_in b) ≡ Some r) × (r.id ≡ id)
found_record b id i r found item =
    let one : found.subject ≡ r = same_Some found.subject r (sym found.item ∙ item) in
    let its : record_of id (state_in b) ≡ Some r = found.same ∙ ap Some one in
    (its, eqb-true r.id id (find_passes (has_id id) b.records.items r its))

-- a packet of the protocol of the Confirm is of that of the record
pub keeps_protocol : EntriesKeepTheirProtocol → (log : List Event) (b : Book) (id : ℕ) (r : Record) (segment : Segment) → IsBook log b
    → record_of id (state_in b) ≡ Some r → is_of_entry segment id log ≡ true
    → is_of_protocol segment r.part.kind ≡ true
keeps_protocol law log b id r segment h its protocol =
    sym (law b.sizes log (length log) id r segment h.history.legal (ap (record_of id) (sym h.history.state) ∙ its)) ∙ protocol

-- the record that a new flow meets
pub winner_is : (b : Book) (flow : Flow) (found : FoundAt) (r : Record) (both : Bool)
    → WinsAt flow.original flow.reply (state_of b.records.items) found → slice_get b.records.items found.index ≡ Some r
    → both ≡ (has_original flow.original r && has_reply flow.reply r)
    → IsWinner flow r.id found.direction both (state_in b)
winner_is b flow found r both w item same =
    let one : w.subject ≡ r = same_Some w.subject r (sym w.item ∙ item) in
    record {
      found = record { subject = r; direction = found.direction };
      wins = w.wins ∙ ap (λ (s : Record). Some (record { subject = s; direction = found.direction })) one;
      named = refl;
      directed = refl;
      same = same;
    }

-- the record is that of the entry for which the place is held
pub record IsEntryOf (b : Book) (p id : ℕ) (r : Record) : Type 0 where
  pub given : id ≡ held_id p b.holds.items
  pub its : record_of id (state_in b) ≡ Some r
  pub named : r.id ≡ id

-- the record that was found for the reference
pub entry_of : (b : Book) (holds : List Hold) (records : List Record) (p id i : ℕ) (r : Record) → holds ≡ b.holds.items
    → records ≡ b.records.items → id ≡ held_id p holds → IsRecordAt id (state_of records) i → slice_get b.records.items i ≡ Some r
    → IsEntryOf b p id r
entry_of b holds records p id i r same_holds same_records given found item =
    let its = found_record b id i r (subst (λ rs. IsRecordAt id (state_of rs) i) same_records found) item in
    record { given = given ∙ ap (held_id p) same_holds; its = its.0; named = its.1 }
