-- What looking at one place says of each entry that was confirmed in it.
use Rattle.std.proofs.Common.{◌≡◌, ℕ, ◌≤◌, Bool, true, false, cond, List, [], ◌∷◌, refl, sym, ap, subst, ◌∙◌, ◌⊎◌, inr, Option, Some, None}
use Rattle.std.specs.List.{AllByRecursion, All, find}
use Rattle.std.specs.Prelude.{◌==◌, ◌≢◌, option_to_list}
use Rattle.std.proofs.lemmas.Bool.{eq-eqb, eqb-false, eqb-true, ne_eqb}
use Rattle.std.proofs.lemmas.List.Elements.{recursion_from_All}
use Rattle.history_book.specs.declared.answer.Row.{Row}
use Rattle.history_book.specs.declared.event.Event.{Event}
use Rattle.history_book.specs.declared.record.Record.{Record}
use Rattle.history_book.specs.declared.sizes.Sizes.{Sizes}
use Rattle.history_book.specs.Desk.{IsLiveIn}
use Rattle.history_book.specs.History.{after, is_legal}
use Rattle.history_book.specs.Laws.{EntriesKeepTheirPlace, PlacesNameEntries}
use Rattle.history_book.specs.Record.{has_id}
use Rattle.history_book.specs.Sight.{WasConfirmedIn}
use Rattle.history_book.specs.State.{State, is_unused, record_of}
use Rattle.history_book.specs.StateLaws.{UnusedPlacesAreNobodys}
use Rattle.pool_visits.specs.Row.{has_row}
use Rattle.pool_visits.specs.Visit.{Missed, Visited, is_live_and}

-- no record of the id is among these
none_of : (id : ℕ) (rs : List Record) → AllByRecursion (λ r. r.id ≢ id) rs → find (has_id id) rs ≡ None
none_of id [] h = refl
none_of id (r ∷ rs) (h, hs) = ap (λ b. cond b (Some r) (find (has_id id) rs)) (ne_eqb r.id id h) ∙ none_of id rs hs

pub gone_from : (id : ℕ) (s : State) → All (λ (r : Record). r.id ≢ id) s.records → record_of id s ≡ None
gone_from id s h = none_of id s.records (recursion_from_All (λ (r : Record). r.id ≢ id) s.records h)

module _ (keep : EntriesKeepTheirPlace) (name : PlacesNameEntries) (nobodys : UnusedPlacesAreNobodys)
    (sizes : Sizes) (log : List Event) (legal : is_legal sizes log ≡ true) (test : Record → Bool) (place from to : ℕ) where
  -- no entry of the place is live at the point
  pub visited_unused : (at : ℕ) (rows : List Row) → from ≤ at → at ≤ to → is_unused place (after log at) ≡ true
      → Visited log test place from to rows
  visited_unused at rows low high unused id was =
      inr (record { at = at; low = low; high = high; missed = none_live (record_of id (after log at)) refl })
    where
      none_live : (o : Option Record) → record_of id (after log at) ≡ o → is_live_and test (record_of id (after log at)) ≡ false
      none_live None e = ap (is_live_and test) e
      none_live (Some r) e = absurd (nobodys (after log at) place id r unused e ((keep sizes log at id r legal e).1 place was))

  -- the entry of the place that is live at the point is another one
  missed_other : (at id other : ℕ) (q : Record) → from ≤ at → at ≤ to → record_of other (after log at) ≡ Some q → q.place ≡ place
      → WasConfirmedIn log place id → id ≢ other → Missed log test from to id
  missed_other at id other q low high there placed was differs =
      record { at = at; low = low; high = high; missed = none_live (record_of id (after log at)) refl }
    where
      none_live : (o : Option Record) → record_of id (after log at) ≡ o → is_live_and test (record_of id (after log at)) ≡ false
      none_live None e = ap (is_live_and test) e
      none_live (Some r) e =
          absurd (differs (name sizes log at id other r q legal e there ((keep sizes log at id r legal e).1 place was ∙ sym placed)))

  -- one entry is live in the place at the point, and has a row or was missed
  pub visited_held : (at other : ℕ) (rows : List Row) → from ≤ at → at ≤ to → IsLiveIn place other (after log at)
      → (has_row other rows ≡ true) ⊎ Missed log test from to other → Visited log test place from to rows
  visited_held at other rows low high live own id was = by_same (id == other) refl
    where
      by_same : (b : Bool) → (id == other) ≡ b → (has_row id rows ≡ true) ⊎ Missed log test from to id
      by_same true e = subst (λ i. (has_row i rows ≡ true) ⊎ Missed log test from to i) (sym (eqb-true id other e)) own
      by_same false e = inr (missed_other at id other live.subject low high live.is live.placed was (eqb-false id other e))

-- the one row is of the entry
pub own_row : (id : ℕ) (row : Row) → row.subject.id ≡ id → has_row id (row ∷ []) ≡ true
own_row id row same = ap (λ b. Rattle.std.specs.Prelude.◌||◌ b false) (eq-eqb row.subject.id id same)
