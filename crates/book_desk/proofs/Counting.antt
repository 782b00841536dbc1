-- Places by numbers: how many there can be, and how many there are at least.
use Rattle.std.proofs.Common.{◌≡◌, ◌≢◌, ℕ, ◌+◌, ◌<◌, ◌≤◌, zero, suc, List, [], ◌∷◌, length, refl, sym, ◌∙◌, ⊎_elim, arith}
use Rattle.std.specs.List.{AllByRecursion, AllPairs}
use Rattle.std.proofs.lemmas.List.Elements.{All-from_recursion}
use Rattle.std.proofs.lemmas.List.Kept.{AllPairs-cons}
use Rattle.std.specs.Prelude.{◌==◌}
use Rattle.std.proofs.lemmas.Bool.{cases_eq, cases_lt}
use Rattle.book_desk.specs.Uses.{bit, tally}
use Rattle.book_desk.proofs.Lists.{each_map, other_bit, same_bit}

-- the sum of g over the numbers below n
abbrev pub total : (ℕ → ℕ) → ℕ → ℕ
total g zero = 0
total g (suc n) = g n + total g n

-- sums keep the order of their terms
pub total_le : (g h : ℕ → ℕ) (n : ℕ) → ((p : ℕ) → p < n → g p ≤ h p) → total g n ≤ total h n
total_le g h zero f = omega arith
total_le g h (suc n) f = omega (arith, f n (omega arith), total_le g h n (λ p below. f p (omega (arith, below))))

-- the sum of sums
pub total_add : (g h : ℕ → ℕ) (n : ℕ) → total (λ p. g p + h p) n ≡ total g n + total h n
total_add g h zero = omega arith
total_add g h (suc n) = omega (arith, total_add g h n)

-- n ones
pub total_ones : (n : ℕ) → total (λ p. 1) n ≡ n
total_ones zero = refl
total_ones (suc n) = omega (arith, total_ones n)

-- n zeros
pub total_zeros : (n : ℕ) → total (λ p. 0) n ≡ 0
total_zeros zero = refl
total_zeros (suc n) = omega (arith, total_zeros n)

-- a number that is not below n is none of those
total_miss : (a n : ℕ) → n ≤ a → total (λ p. bit (a == p)) n ≡ 0
total_miss a zero h = refl
total_miss a (suc n) h = omega (arith, other_bit a n (λ e. omega (arith, e, h)), total_miss a n (omega (arith, h)))

-- a number below n is one of those
pub total_hit : (a n : ℕ) → a < n → total (λ p. bit (a == p)) n ≡ 1
total_hit a zero h = absurd (omega (arith, h))
total_hit a (suc n) h =
    ⊎_elim
    (λ (e : a ≡ n). omega (arith, same_bit a n e, total_miss a n (omega (arith, e))))
    (λ (e : a ≡ n → ⊥). omega (arith, other_bit a n e, total_hit a n (omega (arith, e, h))))
    (cases_eq a n)

-- a number is at most one of those
total_bit : (a n : ℕ) → total (λ p. bit (a == p)) n ≤ 1
total_bit a n =
    ⊎_elim (λ (e : a < n). omega (arith, total_hit a n e)) (λ (e : n ≤ a). omega (arith, total_miss a n e)) (cases_lt a n)

module _ {X : Type 0} (f : X → ℕ) where
  -- items with places below n are counted once each
  pub total_tally : (n : ℕ) (xs : List X) → AllByRecursion (λ x. f x < n) xs
      → total (λ p. tally (λ x. f x == p) xs) n ≡ length xs
  total_tally n [] h = total_zeros n
  total_tally n (x ∷ xs) (h, hs) =
      total_add (λ p. bit (f x == p)) (λ p. tally (λ y. f y == p) xs) n
      ∙ (omega (arith, total_hit (f x) n h, total_tally n xs hs))

  -- no item is counted twice
  pub total_tally_le : (n : ℕ) (xs : List X) → total (λ p. tally (λ x. f x == p) xs) n ≤ length xs
  total_tally_le n [] = omega (arith, total_zeros n)
  total_tally_le n (x ∷ xs) =
      omega (arith, total_add (λ p. bit (f x == p)) (λ p. tally (λ y. f y == p) xs) n, total_bit (f x) n, total_tally_le n xs)

  -- where no item has a place from n on, each has one below n
  pub all_below : (n : ℕ) (xs : List X) → ((p : ℕ) → n ≤ p → tally (λ x. f x == p) xs ≡ 0) → AllByRecursion (λ x. f x < n) xs
  all_below n [] h = tt
  all_below n (x ∷ xs) h = (
    ⊎_elim (λ (e : f x < n). e) (λ (e : n ≤ f x). absurd (omega (arith, h (f x) e, same_bit (f x) (f x) refl))) (cases_lt (f x) n),
    all_below n xs (λ p above. omega (arith, h p above)),
  )

-- no item has a place that is not counted
pub none_has : {X : Type 0} (f : X → ℕ) (p : ℕ) (xs : List X) → tally (λ x. f x == p) xs ≡ 0 → AllByRecursion (λ x. f x ≢ p) xs
none_has f p [] h = tt
none_has f p (x ∷ xs) h = ((λ e. omega (arith, h, same_bit (f x) p e)), none_has f p xs (omega (arith, h)))

-- what is so of each place that is counted is so of each item's
pub each_counted : {X : Type 0} (f : X → ℕ) (P : ℕ → Type 0) (xs : List X) → ((p : ℕ) → 1 ≤ tally (λ x. f x == p) xs → P p)
    → AllByRecursion (λ x. P (f x)) xs
each_counted f P [] h = tt
each_counted f P (x ∷ xs) h =
    (h (f x) (omega (arith, same_bit (f x) (f x) refl)), each_counted f P xs (λ p e. h p (omega (arith, e))))

-- places that are each counted once are distinct
pub apart_once : (ps : List ℕ) → ((p : ℕ) → tally (λ q. q == p) ps ≤ 1) → AllPairs (λ p q. p ≢ q) ps
apart_once [] h = λ i j d below short. absurd (omega (arith, short))
apart_once (p ∷ ps) h =
    AllPairs-cons (λ p q. p ≢ q) p ps
    (All-from_recursion (λ q. p ≢ q) ps
    (each_map (λ q. q ≢ p) (λ q. p ≢ q) ps (λ q e f. e (sym f))
    (none_has (λ q. q) p ps (omega (arith, h p, same_bit p p refl)))))
    (apart_once ps (λ q. omega (arith, h q)))

-- a place that no item has is not counted
pub none_counted : {X : Type 0} (f : X → ℕ) (p : ℕ) (xs : List X) → AllByRecursion (λ x. f x ≢ p) xs → tally (λ x. f x == p) xs ≡ 0
none_counted f p [] h = refl
none_counted f p (x ∷ xs) (h, hs) = omega (arith, other_bit (f x) p h, none_counted f p xs hs)
