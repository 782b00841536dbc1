-- A place of the pool that no live record has leaves room: the places of the records are others, and no two are the same.
use Rattle.std.proofs.Common.{◌≡◌, ℕ, ◌<◌, ◌≤◌, true, false, List, [], ◌∷◌, length, sym, arith, ⊎_elim}
use Rattle.std.specs.List.{AllByRecursion, IsDistinct, list_any}
use Rattle.std.specs.Prelude.{map, ◌==◌}
use Rattle.std.proofs.lemmas.Bool.{eqb-true, eqb-false, ne_eqb, not-true, or_cases}
use Rattle.std.proofs.lemmas.List.{length-map}
use Rattle.std.proofs.lemmas.Map.Steps.{length-le_from_distinct_below}
use Rattle.history_book.specs.declared.event.Event.{Event}
use Rattle.history_book.specs.declared.record.Record.{Record}
use Rattle.history_book.specs.declared.sizes.Sizes.{Sizes}
use Rattle.history_book.specs.History.{after, is_legal}
use Rattle.history_book.specs.Laws.{AreApart}
use Rattle.history_book.specs.Record.{has_place}
use Rattle.history_book.specs.State.{is_unused}
use Rattle.history_book.proofs.Entries.{each_fails}
use Rattle.history_book.proofs.Gone.{places_after}
use Rattle.history_book.proofs.Pairs.{Pairs}
use Rattle.history_book.proofs.Sound.{sound_after}

abbrev places_of : List Record → List ℕ
places_of rs = map (λ (r : Record). r.place) rs

-- a place below a bound that is above each
below : (n : ℕ) (rs : List Record) (q : ℕ) → AllByRecursion (λ r. r.place < n) rs → list_any (λ p. q == p) (places_of rs) ≡ true → q < n
below n [] q all there = cc
below n (r ∷ rs) q (low, all) there =
    ⊎_elim (λ (e : (q == r.place) ≡ true). omega (arith, low, eqb-true q r.place e))
    (λ (e : list_any (λ p. q == p) (places_of rs) ≡ true). below n rs q all e)
    (or_cases (q == r.place) (list_any (λ p. q == p) (places_of rs)) there)

-- a place that no record has is none of theirs
others : (q : ℕ) (rs : List Record) → AllByRecursion (λ r. has_place q r ≡ false) rs → AllByRecursion (λ p. (q == p) ≡ false) (places_of rs)
others q [] all = tt
others q (r ∷ rs) (other, all) = (ne_eqb q r.place (λ e. eqb-false r.place q other (sym e)), others q rs all)

apart_places : (r : Record) (rs : List Record) → AllByRecursion (AreApart r) rs → AllByRecursion (λ p. (r.place == p) ≡ false) (places_of rs)
apart_places r [] all = tt
apart_places r (s ∷ rs) (apart, all) = (ne_eqb r.place s.place apart.places, apart_places r rs all)

distinct : (rs : List Record) → Pairs rs → IsDistinct (λ p q. p == q) (places_of rs)
unfolding IsDistinct
distinct [] h = tt
distinct (r ∷ rs) (apart, h) = (apart_places r rs apart, distinct rs h)

one_more : (q : ℕ) (rs : List Record) → AllByRecursion (λ r. has_place q r ≡ false) rs → Pairs rs
    → IsDistinct (λ p p'. p == p') (q ∷ places_of rs)
unfolding IsDistinct
one_more q rs other apart = (others q rs other, distinct rs apart)

-- fewer records than the bound on their places, below which one is nobody's
pub fewer_than : (n q : ℕ) (rs : List Record) → q < n → AllByRecursion (λ r. r.place < n) rs → AllByRecursion (λ r. has_place q r ≡ false) rs
    → Pairs rs → length rs < n
fewer_than n q rs low all other apart =
    omega (
      arith,
      length-map rs (λ (r : Record). r.place),
      length-le_from_distinct_below (q ∷ places_of rs) n (one_more q rs other apart) (λ p there.
          ⊎_elim (λ (e : (p == q) ≡ true). omega (arith, low, eqb-true p q e))
          (λ (e : list_any (λ p'. p == p') (places_of rs) ≡ true). below n rs p all e)
          (or_cases (p == q) (list_any (λ p'. p == p') (places_of rs)) there)),
    )

-- no more records than the bound on their places
pub no_more_than : (n : ℕ) (rs : List Record) → AllByRecursion (λ r. r.place < n) rs → Pairs rs → length rs ≤ n
no_more_than n rs all apart =
    omega (
      arith,
      length-map rs (λ (r : Record). r.place),
      length-le_from_distinct_below (places_of rs) n (distinct rs apart) (λ p there. below n rs p all there),
    )

pub room_beside : (sizes : Sizes) (log : List Event) (p place : ℕ) → is_legal sizes log ≡ true → place < sizes.entries
    → is_unused place (after log p) ≡ true → length (after log p).records < sizes.entries
room_beside sizes log p place legal low unused =
    fewer_than sizes.entries place (after log p).records low (places_after sizes log p legal)
    (each_fails (has_place place) (after log p).records (not-true _ unused)) (sound_after sizes p log legal).apart
