-- What a look at one place leaves: facts of the calls, carried to the last front.
use Rattle.std.proofs.Common.{◌≡◌, ℕ, ◌+◌, ◌≤◌, Bool, true, false, cond, List, [], ◌∷◌, ◌++◌, length, refl, sym, ap, subst, ◌∙◌, ◌⊎◌, inl, inr, Some, None, arith, append_assoc, length-append}
use Rattle.std.specs.List.{find}
use Rattle.std.proofs.lemmas.Bool.{eqb-true}
use Rattle.std.proofs.lemmas.List.{append-nil}
use Rattle.history_book.specs.declared.answer.Row.{Row}
use Rattle.history_book.specs.declared.event.Event.{Event}
use Rattle.history_book.specs.declared.event.Event.TheVariants.{Destroy}
use Rattle.history_book.specs.declared.event.Why.{Why}
use Rattle.history_book.specs.declared.filter.Filter.{Filter}
use Rattle.history_book.specs.declared.record.Record.{Record}
use Rattle.history_book.specs.declared.desk.Hold.{Hold}
use Rattle.history_book.specs.Desk.{Destroys, HoldsOneMore, IsLiveIn, IsRecord}
use Rattle.history_book.specs.SightLaws.{GoingOnAddsUp, SeeingAddsUp}
use Rattle.history_book.specs.WentOn.{Looked, MadeEvent, Saw}
use Rattle.history_book.specs.Held.{held_id}
use Rattle.history_book.specs.Places.{HoldsNothing, HoldsOne, OneHoldHasItsId}
use Rattle.history_book.specs.Filter.{selects}
use Rattle.history_book.specs.History.{after}
use Rattle.history_book.specs.Laws.{DestroyedIdsStayDead, EntriesKeepTheirPlace, EventsStay, PlacesNameEntries, StatesStay}
use Rattle.history_book.specs.Legality.{is_reason}
use Rattle.history_book.specs.Point.{At, StartsWith}
use Rattle.history_book.specs.Record.{has_id}
use Rattle.history_book.specs.Sight.{IsKnown, Sight, WasConfirmedIn}
use Rattle.history_book.specs.State.{State, is_unused, record_of}
use Rattle.history_book.specs.StateLaws.{UnusedPlacesAreNobodys}
use Rattle.pool_visits.specs.Row.{IsRow, has_row}
use Rattle.pool_visits.specs.Visit.{DestroysRow, LeavesPlace, Missed, Visited, is_live_and}
use Rattle.pool_visits.proofs.Visits.{gone_from, own_row, visited_held, visited_unused}

-- a fact at a point stays as the history goes on
pub at_grows : StatesStay → (longer log : List Event) (p : ℕ) (F : State → Type 0) → StartsWith longer log
    → At log p F → At longer p F
at_grows stay longer log p F starts fact =
    let same = stay longer log p starts fact.within in
    record { within = same.0; fact = subst F (sym same.1) fact.fact }

pub starts_refl : (l : List Event) → StartsWith l l
starts_refl l = ([], sym (append-nil l))

pub starts_trans : (c b a : List Event) → StartsWith c b → StartsWith b a → StartsWith c a
starts_trans c b a (r, e) (q, f) = (q ++ r, e ∙ ap (λ (l : List Event). l ++ r) f ∙ append_assoc a q r)

pub starts_longer : (b a : List Event) → StartsWith b a → length a ≤ length b
starts_longer b a (r, e) = omega (arith, ap length e, length-append a r)

-- what is found passes the test
pub found_has : {X : Type 0} (p : X → Bool) (xs : List X) (y : X) → find p xs ≡ Some y → p y ≡ true
found_has p [] y h = cc
found_has p (x ∷ xs) y h = first_has p x y xs (p x) refl h (found_has p xs y)
  where
    first_has : {X : Type 0} (p : X → Bool) (x y : X) (xs : List X) (b : Bool) → p x ≡ b
        → cond b (Some x) (find p xs) ≡ Some y → (find p xs ≡ Some y → p y ≡ true) → p y ≡ true
    first_has p x y xs true e h rest = cc
    first_has p x y xs false e h rest = rest h

-- a record that is found by its id has it
pub has_id_of : (id : ℕ) (s : State) (r : Record) → record_of id s ≡ Some r → r.id ≡ id
has_id_of id s r h = eqb-true r.id id (found_has (has_id id) s.records r h)

module _ (states : StatesStay) (keep : EntriesKeepTheirPlace) (name : PlacesNameEntries) (nobodys : UnusedPlacesAreNobodys)
    (old new : Sight) (known : IsKnown new) (place : ℕ) where
  -- no entry was live in the place
  empty_upto : (test : Record → Bool) (at : ℕ) → Looked old new at (λ s. is_unused place s ≡ true)
      → Visited new.front test place (length old.front) at []
  empty_upto test at looked =
      visited_unused keep name nobodys new.sizes new.front known.legal test place (length old.front) at at []
      looked.low (omega arith) looked.fact.fact

  -- one entry was live in the place, and has a row or was missed
  held_visited : (test : Record → Bool) (mid : Sight) (at to id : ℕ) (rows : List Row) → Looked old mid at (IsLiveIn place id)
      → StartsWith new.front mid.front → at ≤ to → (has_row id rows ≡ true) ⊎ Missed new.front test (length old.front) to id
      → Visited new.front test place (length old.front) to rows
  held_visited test mid at to id rows looked starts high own =
      let grown : At new.front at (IsLiveIn place id) = at_grows states new.front mid.front at (IsLiveIn place id) starts looked.fact in
      visited_held keep name nobodys new.sizes new.front known.legal test place (length old.front) to at id rows
      looked.low high grown.fact own

  -- a later look missed the entry
  missed_at : (test : Record → Bool) (mid then : Sight) (at id : ℕ) (F : State → Type 0) → StartsWith mid.front old.front
      → Looked mid then at F → StartsWith new.front then.front
      → ((s : State) → F s → is_live_and test (record_of id s) ≡ false)
      → Missed new.front test (length old.front) at id
  missed_at test mid then at id F first looked starts none =
      let grown : At new.front at F = at_grows states new.front then.front at F starts looked.fact in
      record {
        at = at;
        low = omega (arith, starts_longer mid.front old.front first, looked.low);
        high = omega arith;
        missed = none (after new.front at) grown.fact;
      }

  -- so it was missed up to the later look
  missed_upto : (test : Record → Bool) (mid then : Sight) (at seen id : ℕ) (F : State → Type 0) → Looked old mid at (IsLiveIn place id)
      → Looked mid then seen F → StartsWith new.front then.front → ((s : State) → F s → is_live_and test (record_of id s) ≡ false)
      → Visited new.front test place (length old.front) seen []
  missed_upto test mid then at seen id F held looked starts none =
      held_visited test mid at seen id [] held (starts_trans new.front then.front mid.front starts looked.saw.went.front)
      (omega (arith, held.fact.within, looked.low))
      (inr (missed_at test mid then seen id F held.saw.went.front looked starts none))

  gone_upto : (test : Record → Bool) (mid then : Sight) (at gone id : ℕ) → Looked old mid at (IsLiveIn place id)
      → Looked mid then gone (λ s. record_of id s ≡ None) → StartsWith new.front then.front
      → Visited new.front test place (length old.front) gone []
  gone_upto test mid then at gone id held looked starts =
      missed_upto test mid then at gone id (λ s. record_of id s ≡ None) held looked starts (λ s e. ap (is_live_and test) e)

  failed_upto : (test : Record → Bool) (mid then : Sight) (at seen id : ℕ) (r : Record) → Looked old mid at (IsLiveIn place id)
      → Looked mid then seen (IsRecord id r) → StartsWith new.front then.front → test r ≡ false
      → Visited new.front test place (length old.front) seen []
  failed_upto test mid then at seen id r held looked starts fails =
      missed_upto test mid then at seen id (IsRecord id r) held looked starts (λ s e. ap (is_live_and test) e ∙ fails)

  -- what was missed up to a point was so up to the end
  to_the_end : (test : Record → Bool) (at : ℕ) → at ≤ length new.front → Visited new.front test place (length old.front) at []
      → Visited new.front test place (length old.front) (length new.front) []
  to_the_end test at within visited id was = by_visit (visited id was)
    where
      by_visit : (has_row id [] ≡ true) ⊎ Missed new.front test (length old.front) at id
          → (has_row id [] ≡ true) ⊎ Missed new.front test (length old.front) (length new.front) id
      by_visit (inl h) = inl h
      by_visit (inr m) = inr (record { at = m.at; low = m.low; high = omega (arith, m.high, within); missed = m.missed })

  pub empty_visited : (test : Record → Bool) (at : ℕ) → Looked old new at (λ s. is_unused place s ≡ true)
      → Visited new.front test place (length old.front) (length new.front) []
  empty_visited test at looked = to_the_end test at looked.fact.within (empty_upto test at looked)

  pub gone_visited : (test : Record → Bool) (mid then : Sight) (at gone id : ℕ) → Looked old mid at (IsLiveIn place id)
      → Looked mid then gone (λ s. record_of id s ≡ None) → StartsWith new.front then.front
      → Visited new.front test place (length old.front) (length new.front) []
  gone_visited test mid then at gone id held looked starts =
      to_the_end test gone (omega (arith, looked.fact.within, starts_longer new.front then.front starts))
      (gone_upto test mid then at gone id held looked starts)

  pub failed_visited : (test : Record → Bool) (mid then : Sight) (at seen id : ℕ) (r : Record) → Looked old mid at (IsLiveIn place id)
      → Looked mid then seen (IsRecord id r) → StartsWith new.front then.front → test r ≡ false
      → Visited new.front test place (length old.front) (length new.front) []
  failed_visited test mid then at seen id r held looked starts fails =
      to_the_end test seen (omega (arith, looked.fact.within, starts_longer new.front then.front starts))
      (failed_upto test mid then at seen id r held looked starts fails)

  -- a place in which no entry was live is left, and so is one whose entry was gone, or failed the test
  pub left_empty : (why : Why) (at : ℕ) → Looked old new at (λ s. is_unused place s ≡ true) → LeavesPlace why place old new at
  left_empty why at looked = record {
    saw = looked.saw;
    low = looked.low;
    within = looked.fact.within;
    visited = empty_upto (is_reason why) at looked;
  }

  pub left_gone : SeeingAddsUp → (why : Why) (mid then : Sight) (at gone id : ℕ) → Looked old mid at (IsLiveIn place id)
      → Looked mid then gone (λ s. record_of id s ≡ None) → Saw then new → LeavesPlace why place old new gone
  left_gone twice why mid then at gone id held looked saw = record {
    saw = twice old then new (twice old mid then held.saw looked.saw) saw;
    low = omega (arith, held.low, held.fact.within, looked.low);
    within = omega (arith, looked.fact.within, starts_longer new.front then.front saw.went.front);
    visited = gone_upto (is_reason why) mid then at gone id held looked saw.went.front;
  }

  pub left_failed : SeeingAddsUp → (why : Why) (mid then : Sight) (at seen id : ℕ) (r : Record) → Looked old mid at (IsLiveIn place id)
      → Looked mid then seen (IsRecord id r) → Saw then new → is_reason why r ≡ false → LeavesPlace why place old new seen
  left_failed twice why mid then at seen id r held looked saw fails = record {
    saw = twice old then new (twice old mid then held.saw looked.saw) saw;
    low = omega (arith, held.low, held.fact.within, looked.low);
    within = omega (arith, looked.fact.within, starts_longer new.front then.front saw.went.front);
    visited = failed_upto (is_reason why) mid then at seen id r held looked saw.went.front fails;
  }

  pub row_visited : (test : Record → Bool) (mid then : Sight) (at seen id : ℕ) (r : Record) → Looked old mid at (IsLiveIn place id)
      → Looked mid then seen (IsRecord id r) → StartsWith new.front then.front
      → Visited new.front test place (length old.front) (length new.front) (record { subject = r; at = seen } ∷ [])
  row_visited test mid then at seen id r held looked starts =
      held_visited test mid at (length new.front) id (record { subject = r; at = seen } ∷ []) held
      (starts_trans new.front then.front mid.front starts looked.saw.went.front)
      (omega (arith, held.fact.within, looked.low, looked.fact.within, starts_longer new.front then.front starts))
      (inl (own_row id (record { subject = r; at = seen }) (has_id_of id (after then.front seen) r looked.fact.fact)))

  -- the record that was seen has the place
  placed_at : (mid : Sight) (at p id : ℕ) (r : Record) → Looked old mid at (IsLiveIn place id) → StartsWith new.front mid.front
      → At new.front p (IsRecord id r) → r.place ≡ place
  placed_at mid at p id r held starts seen =
      let grown : At new.front at (IsLiveIn place id) = at_grows states new.front mid.front at (IsLiveIn place id) starts held.fact in
      let was : WasConfirmedIn new.front grown.fact.subject.place id =
      (keep new.sizes new.front at id grown.fact.subject known.legal grown.fact.is).0 in
      (keep new.sizes new.front p id r known.legal seen.fact).1 grown.fact.subject.place was ∙ grown.fact.placed

  pub row_placed : (mid then : Sight) (at seen id : ℕ) (r : Record) → Looked old mid at (IsLiveIn place id)
      → Looked mid then seen (IsRecord id r) → StartsWith new.front then.front → r.place ≡ place
  row_placed mid then at seen id r held looked starts =
      placed_at mid at seen id r held (starts_trans new.front then.front mid.front starts looked.saw.went.front)
      (at_grows states new.front then.front seen (IsRecord id r) starts looked.fact)

  pub row_is : (filter : Filter) (mid then : Sight) (at seen id : ℕ) (r : Record) → Looked old mid at (IsLiveIn place id)
      → Looked mid then seen (IsRecord id r) → StartsWith new.front then.front → selects filter r ≡ true
      → IsRow new.front filter (length old.front) (length new.front) (record { subject = r; at = seen })
  row_is filter mid then at seen id r held looked starts passed =
      let grown : At new.front seen (IsRecord id r) = at_grows states new.front then.front seen (IsRecord id r) starts looked.fact in
      record {
        low = omega (arith, starts_longer mid.front old.front held.saw.went.front, looked.low);
        high = grown.within;
        live = subst (λ i. At new.front seen (IsRecord i r)) (sym (has_id_of id (after then.front seen) r looked.fact.fact)) grown;
        selects = passed;
      }

  module _ (dead : DestroyedIdsStayDead) (events : EventsStay) (why : Why) (mid then : Sight) (at number id : ℕ) (r : Record)
      (held : Looked old mid at (IsLiveIn place id)) (d : Destroys id why mid then number r) (saw : Saw then new) where
    found : At new.front number (IsRecord id r)
    found = at_grows states new.front then.front number (IsRecord id r) saw.went.front d.found

    starts : StartsWith new.front mid.front
    starts = starts_trans new.front then.front mid.front saw.went.front d.made.went.front

    same : r.id ≡ id
    same = has_id_of id (after new.front number) r found.fact

    killed_placed : r.place ≡ place
    killed_placed = placed_at mid at number id r held starts found

    killed_visited : (test : Record → Bool) → Visited new.front test place (length old.front) (length new.front) []
    killed_visited test =
        let longer : length then.front ≤ length new.front = starts_longer new.front then.front saw.went.front in
        let none : record_of id (after new.front (number + 1)) ≡ None =
        gone_from id (after new.front (number + 1))
        (dead new.sizes new.front number (number + 1) id why known.legal
        (events new.front then.front number (Destroy id why) saw.went.front d.made.happened) (omega arith) (omega (arith, longer, d.made.high))) in
        held_visited test mid at (length new.front) id [] held starts
        (omega (arith, held.fact.within, starts_longer new.front mid.front starts))
        (inr (record {
          at = number + 1;
          low = omega (arith, starts_longer mid.front old.front held.saw.went.front, d.made.low);
          high = omega (arith, longer, d.made.high);
          missed = ap (is_live_and test) none;
        }))

    pub killed_row : GoingOnAddsUp → DestroysRow why place old new (record { subject = r; at = number })
    killed_row going = record {
      made = subst (λ (i : ℕ). MadeEvent old new number (Destroy i why)) (sym same)
          ((going.event old then new number (Destroy id why)).1
          ((going.event old mid then number (Destroy id why)).0 held.saw d.made) saw);
      destroyed = record {
        event = refl;
        number = refl;
        found = subst (λ i. At new.front number (IsRecord i r)) (sym same) found;
      };
      placed = killed_placed;
      visited = killed_visited (is_reason why);
    }

-- the only place that is held is held for the entry
pub holds_one : (old mid : Sight) (place id : ℕ) → HoldsNothing old → HoldsOneMore old mid place (Some id)
    → HoldsOne (record { place = place; id = Some id }) mid
holds_one old mid place id empty more = record {
  held = more.held ∙ ap (λ (l : List Hold). record { place = place; id = Some id } ∷ l) empty.held;
  owed = more.owed ∙ empty.owed;
}

module _ (one : OneHoldHasItsId) (old mid : Sight) (place id : ℕ) (empty : HoldsNothing old) (more : HoldsOneMore old mid place (Some id)) where
  pub is_held_id : held_id place mid.held ≡ id
  is_held_id = one place id mid (holds_one old mid place id empty more)

  pub looked_at_one : (then : Sight) (at : ℕ) (F : ℕ → State → Type 0) → Looked mid then at (F (held_id place mid.held)) → Looked mid then at (F id)
  looked_at_one then at F looked = subst (λ i. Looked mid then at (F i)) is_held_id looked
