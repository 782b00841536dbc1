-- Looks at places, one after the other.
use Rattle.std.proofs.Common.{◌≡◌, ℕ, ◌≤◌, Bool, true, false, List, ◌++◌, length, refl, sym, ap, subst, ◌∙◌, ◌⊎◌, inl, inr, Option, Some, None, arith}
use Rattle.std.specs.Prelude.{◌==◌, ◌||◌}
use Rattle.std.proofs.lemmas.Bool.{eqb-false, eqb-true}
use Rattle.std.proofs.lemmas.List.Folds.{list_any-append}
use Rattle.history_book.specs.declared.answer.Row.{Row}
use Rattle.history_book.specs.declared.event.Event.{Event}
use Rattle.history_book.specs.declared.record.Record.{Record}
use Rattle.history_book.specs.declared.sizes.Sizes.{Sizes}
use Rattle.history_book.specs.History.{after, is_legal}
use Rattle.history_book.specs.Laws.{EntriesKeepTheirPlace, StatesStay}
use Rattle.history_book.specs.Point.{StartsWith}
use Rattle.history_book.specs.Sight.{WasConfirmedIn}
use Rattle.history_book.specs.State.{State, record_of}
use Rattle.pool_visits.specs.Laws.{AllVisitsStay, LivedHaveRows, VisitsAddUp}
use Rattle.pool_visits.specs.Row.{has_row}
use Rattle.pool_visits.specs.Visit.{AreVisited, Missed, Visited, is_live_and}
use Rattle.pool_visits.proofs.Places.{starts_refl}

any_left : (id : ℕ) (rows more : List Row) → has_row id rows ≡ true → has_row id (rows ++ more) ≡ true
any_left id rows more h = list_any-append (λ (r : Row). r.subject.id == id) rows more ∙ ap (λ b. b || has_row id more) h

any_right : (id : ℕ) (rows more : List Row) → has_row id more ≡ true → has_row id (rows ++ more) ≡ true
any_right id rows more h = list_any-append (λ (r : Row). r.subject.id == id) rows more ∙ either (has_row id rows) (has_row id more) h
  where
    either : (a b : Bool) → b ≡ true → (a || b) ≡ true
    either true b e = refl
    either false b e = e

module _ (states : StatesStay) (keep : EntriesKeepTheirPlace) where
  module _ (sizes : Sizes) (longer log : List Event) (starts : StartsWith longer log) (legal : is_legal sizes longer ≡ true)
      (was_legal : is_legal sizes log ≡ true) (test : Record → Bool) where
    missed_grows : (from to first last id : ℕ) → first ≤ from → to ≤ last → to ≤ length log → Missed log test from to id
        → Missed longer test first last id
    missed_grows from to first last id low high within m = record {
      at = m.at;
      low = omega (arith, low, m.low);
      high = omega (arith, high, m.high);
      missed = ap (λ (s : State). is_live_and test (record_of id s)) (states longer log m.at starts (omega (arith, m.high, within))).1 ∙ m.missed;
    }

    -- what was looked at between two points was so between others that lie further apart, in a longer history
    pub visited_grows : (place from to first last : ℕ) (rows all : List Row) → first ≤ from → from ≤ to → to ≤ last → to ≤ length log
        → ((id : ℕ) → has_row id rows ≡ true → has_row id all ≡ true) → Visited log test place from to rows
        → Visited longer test place first last all
    visited_grows place from to first last rows all low order high within more visited id was = by_first (record_of id (after longer first)) refl
      where
        by_visit : (has_row id rows ≡ true) ⊎ Missed log test from to id → (has_row id all ≡ true) ⊎ Missed longer test first last id
        by_visit (inl h) = inl (more id h)
        by_visit (inr m) = inr (missed_grows from to first last id low high within m)

        by_first : (o : Option Record) → record_of id (after longer first) ≡ o → (has_row id all ≡ true) ⊎ Missed longer test first last id
        by_first None e = inr (record { at = first; low = omega arith; high = omega (arith, low, order, high); missed = ap (is_live_and test) e })
        by_first (Some r) e =
            let was_there : record_of id (after log first) ≡ Some r =
            ap (λ (s : State). record_of id s) (sym (states longer log first starts (omega (arith, low, order, within))).1) ∙ e in
            let placed : r.place ≡ place = (keep sizes longer first id r legal e).1 place was in
            by_visit (visited id (subst (λ p. WasConfirmedIn log p id) placed (keep sizes log first id r was_legal was_there).0))

    pub all_visited_grow : (count from to first last : ℕ) (rows all : List Row) → first ≤ from → from ≤ to → to ≤ last → to ≤ length log
        → ((id : ℕ) → has_row id rows ≡ true → has_row id all ≡ true) → AreVisited log test count from to rows
        → AreVisited longer test count first last all
    all_visited_grow count from to first last rows all low order high within more visited place below =
        visited_grows place from to first last rows all low order high within more (visited place below)

  pub stays : AllVisitsStay
  stays sizes longer log test count from to first last rows both low order high within visited =
      all_visited_grow sizes longer log both.starts both.longer_legal both.legal test count from to first last rows rows low order high within
      (λ id h. h) visited

  pub adds_up : VisitsAddUp
  adds_up sizes longer log test count from upto low high last rows more both p earlier visit place below =
      by_place (place == count) refl
    where
      by_place : (b : Bool) → (place == count) ≡ b → Visited longer test place from last (rows ++ more)
      by_place true e =
          visited_grows sizes longer longer (starts_refl longer) both.longer_legal both.longer_legal test place
          low high from last more (rows ++ more) (omega (arith, p.first, p.next)) p.between p.behind p.inside
          (λ id. any_right id rows more)
          (subst (λ q. Visited longer test q low high more) (sym (eqb-true place count e)) visit)
      by_place false e =
          visited_grows sizes longer log both.starts both.longer_legal both.legal test place
          from upto from last rows (rows ++ more) (omega arith) p.first (omega (arith, p.next, p.between, p.behind)) p.within
          (λ id. any_left id rows more)
          (earlier place (omega (arith, below, eqb-false place count e)))

pub have_rows : EntriesKeepTheirPlace → LivedHaveRows
have_rows keep sizes log test count from to p id r rows legal visited lived live below =
    by_visit (visited r.place below id (keep sizes log p id r legal live).0)
  where
    differ : true ≡ false → ⊥
    differ e = cc

    by_visit : (has_row id rows ≡ true) ⊎ Missed log test from to id → has_row id rows ≡ true
    by_visit (inl h) = h
    by_visit (inr m) = absurd (differ (sym (lived m.at m.low m.high) ∙ m.missed))
