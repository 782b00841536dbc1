-- The events of a zone, counted from 0, are a legal history.
use Rattle.std.proofs.Common.{◌≡◌, ℕ, ◌+◌, ◌-◌, ◌<◌, ◌≤◌, zero, suc, Bool, true, false, cond, List, [], ◌∷◌, ◌++◌, length, refl, sym, ap, subst, ◌∙◌, ⊎_elim, inl, inr, append-nil, length-append, Option, Some, None, arith}
use Rattle.std.specs.List.{slice_get}
use Rattle.std.specs.Prelude.{map, ◌==◌, ◌⊎◌, ◌↔◌}
use Rattle.std.proofs.lemmas.Bool.{eq-eqb, eqb-true}
use Rattle.std.proofs.lemmas.List.{length-map, map-append}
use Rattle.history_book.specs.declared.event.Event.{Event}
use Rattle.history_book.specs.declared.event.Note.{Note}
use Rattle.history_book.specs.declared.sizes.Sizes.{Sizes}
use Rattle.history_book.specs.History.{after, is_legal, run}
use Rattle.history_book.specs.Laws.{EventsMayHappen, LegalHistoriesGoOn}
use Rattle.history_book.specs.Legality.{may_happen}
use Rattle.history_book.specs.State.{State, empty_state, next}
use Rattle.history_book.specs.Zones.{event_zone, is_zone, note_of_zone, number_in_zone, renamed, renamed_state, zone_events, zone_history, zone_part}
use Rattle.history_book.specs.ZoneLaws.{IsEventOfZone}
use Rattle.history_book.proofs.Histories.{after-whole, run-append}
use Rattle.history_book.proofs.Points.{get_append}
use Rattle.history_book.proofs.ZoneNames.{AreEvents, may_named, next_events, next_named}
use Rattle.history_book.proofs.ZoneParts.{IsZoned, bool_iff, may_part, other_zone, own_zone}
use Rattle.history_book.proofs.ZoneRuns.{after_event, after_none, after_start, may_room, zone_is, zone_is_not}

compared : (i j : ℕ) → (i < j) ⊎ ((j < i) ⊎ (i ≡ j))
compared zero zero = inr (inr refl)
compared zero (suc j) = inl (omega arith)
compared (suc i) zero = inr (inl (omega arith))
compared (suc i) (suc j) =
    ⊎_elim (λ h. inl (omega (arith, h)))
    (λ h. ⊎_elim (λ k. inr (inl (omega (arith, k)))) (λ k. inr (inr (ap suc k))) h) (compared i j)

-- event n is counted: the next number is one higher
abbrev IsCounted : (ℕ → ℕ) → ℕ → Type 0
IsCounted f n = f (suc n) ≡ suc (f n)

-- numbers that never fall
module _ (f : ℕ → ℕ) (grows : (n : ℕ) → f n ≤ f (suc n)) where
  rises : (i j d : ℕ) → j ≡ i + d → f i ≤ f j
  rises i j zero h =
      let same : i ≡ j = omega (arith, h) in
      subst (λ k. f i ≤ f k) same (omega arith)
  rises i j (suc d) h =
      let same : suc (i + d) ≡ j = omega (arith, h) in
      let before : f i ≤ f (i + d) = rises i (i + d) d refl in
      subst (λ k. f i ≤ f k) same (omega (arith, before, grows (i + d)))

  below : (i j : ℕ) → i < j → IsCounted f i → f i < f j
  below i j h counted =
      let far : j ≡ suc i + (j - suc i) = omega (arith, h) in
      omega (arith, counted, rises (suc i) j (j - suc i) far)

  one_number : (i j : ℕ) → IsCounted f i → IsCounted f j → f i ≡ f j → i ≡ j
  one_number i j a b same =
      ⊎_elim (λ h. absurd (omega (arith, same, below i j h a)))
      (λ h. ⊎_elim (λ k. absurd (omega (arith, same, below j i k b))) (λ k. k) h) (compared i j)

  counted_apart : (i j : ℕ) → IsCounted f i → IsCounted f j → (f i == f j) ≡ (i == j)
  counted_apart i j a b =
      bool_iff (f i == f j) (i == j) (λ h. eq-eqb i j (one_number i j a b (eqb-true (f i) (f j) h)))
      (λ h. eq-eqb (f i) (f j) (ap f (eqb-true i j h)))

number_grows : (zone : ℕ) (log : List Event) (n : ℕ) → number_in_zone zone log n ≤ number_in_zone zone log (suc n)
number_grows zone log n = omega (arith, length-append (zone_events zone log n) (note_of_zone zone (after log n) n (slice_get log n)))

-- an event of the zone is one more of its events
note_own : (zone : ℕ) (log : List Event) (p : ℕ) (e : Event) → slice_get log p ≡ Some e → is_zone zone (event_zone (after log p) e) ≡ true
    → zone_events zone log (suc p) ≡ zone_events zone log p ++ record { number = p; event = e } ∷ []
note_own zone log p e at own =
    ap (λ notes. zone_events zone log p ++ notes)
    (ap (note_of_zone zone (after log p) p) at ∙ ap (λ b. cond b (record { number = p; event = e } ∷ []) []) own)

note_other : (zone : ℕ) (log : List Event) (p : ℕ) (e : Event) → slice_get log p ≡ Some e → is_zone zone (event_zone (after log p) e) ≡ false
    → zone_events zone log (suc p) ≡ zone_events zone log p
note_other zone log p e at own =
    ap (λ notes. zone_events zone log p ++ notes)
    (ap (note_of_zone zone (after log p) p) at ∙ ap (λ b. cond b (record { number = p; event = e } ∷ []) []) own)
    ∙ append-nil (zone_events zone log p)

note_none : (zone : ℕ) (log : List Event) (p : ℕ) → slice_get log p ≡ None → zone_events zone log (suc p) ≡ zone_events zone log p
note_none zone log p at =
    ap (λ notes. zone_events zone log p ++ notes) (ap (note_of_zone zone (after log p) p) at) ∙ append-nil (zone_events zone log p)

length_last : (notes : List Note) (note : Note) → length (notes ++ note ∷ []) ≡ suc (length notes)
length_last [] note = refl
length_last (n ∷ notes) note = ap suc (length_last notes note)

is_counted : (zone : ℕ) (log : List Event) (p : ℕ) (note : Note) → zone_events zone log (suc p) ≡ zone_events zone log p ++ note ∷ []
    → IsCounted (number_in_zone zone log) p
is_counted zone log p note more = ap length more ∙ length_last (zone_events zone log p) note

get_last : (notes : List Note) (last note : Note) (k : ℕ) → slice_get (notes ++ last ∷ []) k ≡ Some note
    → (slice_get notes k ≡ Some note) ⊎ ((k ≡ length notes) × (last ≡ note))
get_last [] last note zero h = inr (refl, cc)
get_last [] last note (suc k) h = cc
get_last (n ∷ notes) last note zero h = inl h
get_last (n ∷ notes) last note (suc k) h =
    ⊎_elim (λ e. inl e) (λ e. inr (ap suc e.0, e.1)) (get_last notes last note k h)

get_end : (notes : List Note) (last : Note) → slice_get (notes ++ last ∷ []) (length notes) ≡ Some last
get_end [] last = refl
get_end (n ∷ notes) last = get_end notes last

event_later : (zone : ℕ) (log : List Event) (p k : ℕ) (note : Note) → IsEventOfZone zone log p k note → IsEventOfZone zone log (suc p) k note
event_later zone log p k note h =
    record { before = omega (arith, h.before); happened = h.happened; zoned = h.zoned; counted = h.counted }

event_here : (zone : ℕ) (log : List Event) (p k : ℕ) (e : Event) (note : Note) → slice_get log p ≡ Some e
    → event_zone (after log p) e ≡ Some zone → (k ≡ number_in_zone zone log p) × (record { number = p; event = e } ≡ note)
    → IsEventOfZone zone log (suc p) k note
event_here zone log p k e note at own (index, same) =
    subst (IsEventOfZone zone log (suc p) k) same (record { before = omega arith; happened = at; zoned = own; counted = sym index })

counted_step : (zone : ℕ) (log : List Event) (p k : ℕ) (note : Note) (e : Event) (b : Bool) → slice_get log p ≡ Some e
    → is_zone zone (event_zone (after log p) e) ≡ b → slice_get (zone_events zone log (suc p)) k ≡ Some note
    → (slice_get (zone_events zone log p) k ≡ Some note → IsEventOfZone zone log p k note) → IsEventOfZone zone log (suc p) k note
counted_step zone log p k note e true at own found rest =
    ⊎_elim (λ h. event_later zone log p k note (rest h))
    (event_here zone log p k e note at (zone_is zone (event_zone (after log p) e) own))
    (get_last (zone_events zone log p) (record { number = p; event = e }) note k
    (ap (λ (notes : List Note). slice_get notes k) (sym (note_own zone log p e at own)) ∙ found))
counted_step zone log p k note e false at own found rest =
    event_later zone log p k note
    (rest (ap (λ (notes : List Note). slice_get notes k) (sym (note_other zone log p e at own)) ∙ found))

counted_at : (zone : ℕ) (log : List Event) (p k : ℕ) (note : Note) (o : Option Event) → slice_get log p ≡ o
    → slice_get (zone_events zone log (suc p)) k ≡ Some note
    → (slice_get (zone_events zone log p) k ≡ Some note → IsEventOfZone zone log p k note) → IsEventOfZone zone log (suc p) k note
counted_at zone log p k note None at found rest =
    event_later zone log p k note
    (rest (ap (λ (notes : List Note). slice_get notes k) (sym (note_none zone log p at)) ∙ found))
counted_at zone log p k note (Some e) at found rest =
    counted_step zone log p k note e (is_zone zone (event_zone (after log p) e)) at refl found rest

-- what stands among the events of a zone is one
pub counted_event : (zone : ℕ) (log : List Event) (p k : ℕ) (note : Note) → slice_get (zone_events zone log p) k ≡ Some note
    → IsEventOfZone zone log p k note
counted_event zone log zero k note found = cc
counted_event zone log (suc p) k note found =
    counted_at zone log p k note (slice_get log p) refl found (counted_event zone log p k note)

get_own : (zone : ℕ) (log : List Event) (p : ℕ) (note : Note) → note.number ≡ p → slice_get log note.number ≡ Some note.event
    → event_zone (after log note.number) note.event ≡ Some zone
    → slice_get (zone_events zone log (suc p)) (number_in_zone zone log note.number) ≡ Some note
get_own zone log p note here at own =
    subst (λ q. slice_get (zone_events zone log (suc q)) (number_in_zone zone log note.number) ≡ Some note) here
    (ap (λ (notes : List Note). slice_get notes (number_in_zone zone log note.number))
    (note_own zone log note.number note.event at (ap (is_zone zone) own ∙ eq-eqb zone zone refl))
    ∙ get_end (zone_events zone log note.number) note)

-- an event of a zone stands among them
pub event_counted : (zone : ℕ) (log : List Event) (p : ℕ) (note : Note) → note.number < p → slice_get log note.number ≡ Some note.event
    → event_zone (after log note.number) note.event ≡ Some zone
    → slice_get (zone_events zone log p) (number_in_zone zone log note.number) ≡ Some note
event_counted zone log zero note before at own = absurd (omega (arith, before))
event_counted zone log (suc p) note before at own =
    ⊎_elim
    (λ h. get_append (zone_events zone log p) (note_of_zone zone (after log p) p (slice_get log p)) (number_in_zone zone log note.number)
    note (event_counted zone log p note h at own))
    (λ h. ⊎_elim (λ k. absurd (omega (arith, before, k))) (λ k. get_own zone log p note k at own) h)
    (compared note.number p)

pub counts : (log : List Event) (p k zone : ℕ) (note : Note)
    → slice_get (zone_events zone log p) k ≡ Some note ↔ IsEventOfZone zone log p k note
counts log p k zone note = (
  counted_event zone log p k note,
  λ h. ap (slice_get (zone_events zone log p)) (sym h.counted) ∙ event_counted zone log p note h.before h.happened h.zoned,
)

none_legal : (sizes : Sizes) → is_legal sizes [] ≡ true
unfolding is_legal
none_legal sizes = refl

-- a history, and what it leaves, under the numbers of the zone
record IsHistory (f : ℕ → ℕ) (sizes : Sizes) (notes : List Note) (s : State) : Type 0 where
  legal : is_legal sizes (map (λ (note : Note). renamed f note.event) notes) ≡ true
  leaves : run empty_state (map (λ (note : Note). renamed f note.event) notes) ≡ renamed_state f s
  events : AreEvents (IsCounted f) s

module _ (go_on : LegalHistoriesGoOn) (f : ℕ → ℕ) (apart : (i j : ℕ) → IsCounted f i → IsCounted f j → (f i == f j) ≡ (i == j)) where
  one_more : (sizes : Sizes) (notes : List Note) (s : State) (n : ℕ) (e : Event) → f n ≡ length notes → IsCounted f n
      → may_happen sizes s n e ≡ true → IsHistory f sizes notes s
      → IsHistory f sizes (notes ++ record { number = n; event = e } ∷ []) (next s e)
  one_more sizes notes s n e counts counted may h =
      let log = map (λ (note : Note). renamed f note.event) notes in
      let whole : after log (length log) ≡ renamed_state f s = after-whole log ∙ h.leaves in
      let number : length log ≡ f n = length-map notes (λ (note : Note). renamed f note.event) ∙ sym counts in
      let now : may_happen sizes (after log (length log)) (length log) (renamed f e) ≡ true =
      ap (λ t. may_happen sizes t (length log) (renamed f e)) whole
      ∙ ap (λ k. may_happen sizes (renamed_state f s) k (renamed f e)) number
      ∙ may_named f (IsCounted f) apart sizes s n e h.events may in
      let more : map (λ (note : Note). renamed f note.event) (notes ++ record { number = n; event = e } ∷ []) ≡ log ++ renamed f e ∷ [] =
      map-append (λ (note : Note). renamed f note.event) notes (record { number = n; event = e } ∷ []) in
      record {
        legal = ap (is_legal sizes) more ∙ go_on sizes log (renamed f e) h.legal now;
        leaves = ap (run empty_state) more ∙ run-append empty_state log (renamed f e ∷ []) ∙ ap (λ t. next t (renamed f e)) h.leaves
            ∙ next_named f (IsCounted f) apart sizes s n e h.events may;
        events = next_events f (IsCounted f) apart sizes s n e counted h.events may;
      }

module _ (go_on : LegalHistoriesGoOn) (happen : EventsMayHappen) (zoned : (sizes : Sizes) (log : List Event) (p : ℕ) → is_legal sizes log ≡ true → IsZoned (after log p)) where
  history_event : (sizes : Sizes) (log : List Event) (p zone : ℕ) (e : Event) (b : Bool) → is_legal sizes log ≡ true → slice_get log p ≡ Some e
      → is_zone zone (event_zone (after log p) e) ≡ b
      → IsHistory (number_in_zone zone log) sizes (zone_events zone log p) (zone_part (after log p) zone)
      → IsHistory (number_in_zone zone log) sizes (zone_events zone log (suc p)) (zone_part (next (after log p) e) zone)
  history_event sizes log p zone e true legal at own h =
      let s = after log p in
      let f = number_in_zone zone log in
      let is = zone_is zone (event_zone s e) own in
      let may = happen sizes log p e legal at in
      let its = may_part sizes s p zone e (zoned sizes log p legal) is (may_room sizes s p e may) ∙ may in
      let note = note_own zone log p e at own in
      let more = one_more go_on f (counted_apart f (number_grows zone log)) sizes (zone_events zone log p) (zone_part s zone) p e refl
      (is_counted zone log p (record { number = p; event = e }) note) its h in
      subst (λ (notes : List Note). IsHistory f sizes notes (zone_part (next s e) zone)) (sym note)
      (subst (IsHistory f sizes (zone_events zone log p ++ record { number = p; event = e } ∷ [])) (sym (own_zone s e zone is)) more)
  history_event sizes log p zone e false legal at own h =
      let s = after log p in
      let f = number_in_zone zone log in
      let same = other_zone sizes s p zone e (zoned sizes log p legal) (happen sizes log p e legal at) (zone_is_not zone (event_zone s e) own) in
      subst (λ (notes : List Note). IsHistory f sizes notes (zone_part (next s e) zone)) (sym (note_other zone log p e at own))
      (subst (IsHistory f sizes (zone_events zone log p)) (sym same) h)

  history_step : (sizes : Sizes) (log : List Event) (p zone : ℕ) (o : Option Event) → is_legal sizes log ≡ true → slice_get log p ≡ o
      → IsHistory (number_in_zone zone log) sizes (zone_events zone log p) (zone_part (after log p) zone)
      → IsHistory (number_in_zone zone log) sizes (zone_events zone log (suc p)) (zone_part (after log (suc p)) zone)
  history_step sizes log p zone None legal at h =
      subst (λ (s : State). IsHistory (number_in_zone zone log) sizes (zone_events zone log (suc p)) (zone_part s zone)) (sym (after_none log p at))
      (subst (λ (notes : List Note). IsHistory (number_in_zone zone log) sizes notes (zone_part (after log p) zone))
      (sym (note_none zone log p at)) h)
  history_step sizes log p zone (Some e) legal at h =
      subst (λ (s : State). IsHistory (number_in_zone zone log) sizes (zone_events zone log (suc p)) (zone_part s zone)) (sym (after_event log p e at))
      (history_event sizes log p zone e (is_zone zone (event_zone (after log p) e)) legal at refl h)

  history_of : (sizes : Sizes) (log : List Event) (p zone : ℕ) → is_legal sizes log ≡ true
      → IsHistory (number_in_zone zone log) sizes (zone_events zone log p) (zone_part (after log p) zone)
  history_of sizes log zero zone legal =
      subst (λ (s : State). IsHistory (number_in_zone zone log) sizes [] (zone_part s zone)) (sym (after_start log))
      (record { legal = none_legal sizes; leaves = refl; events = record { records = tt; expects = tt; masters = tt } })
  history_of sizes log (suc p) zone legal = history_step sizes log p zone (slice_get log p) legal refl (history_of sizes log p zone legal)

  pub zone_has_history : (sizes : Sizes) (log : List Event) (p zone : ℕ) → is_legal sizes log ≡ true
      → (is_legal sizes (zone_history zone log p) ≡ true)
      × (run empty_state (zone_history zone log p) ≡ renamed_state (number_in_zone zone log) (zone_part (after log p) zone))
  zone_has_history sizes log p zone legal = let h = history_of sizes log p zone legal in (h.legal, h.leaves)
