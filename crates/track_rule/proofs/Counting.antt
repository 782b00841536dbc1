-- Places by numbers: how many there can be.
use Rattle.std.proofs.Common.{◌≡◌, ℕ, ◌+◌, ◌<◌, ◌≤◌, zero, suc, List, [], ◌∷◌, length, refl, ⊎_elim, arith}
use Rattle.std.specs.Prelude.{◌==◌}
use Rattle.std.proofs.lemmas.Bool.{cases_eq, cases_lt}
use Rattle.track_rule.specs.Sums.{bit, times, total}
use Rattle.track_rule.proofs.Lists.{other_bit, same_bit}

-- the sum of g over the numbers below n
abbrev pub below : (ℕ → ℕ) → ℕ → ℕ
below g zero = 0
below g (suc n) = g n + below g n

pub below_le : (g h : ℕ → ℕ) (n : ℕ) → ((p : ℕ) → p < n → g p ≤ h p) → below g n ≤ below h n
below_le g h zero f = omega arith
below_le g h (suc n) f = omega (arith, f n (omega arith), below_le g h n (λ p low. f p (omega (arith, low))))

pub below_add : (g h : ℕ → ℕ) (n : ℕ) → below (λ p. g p + h p) n ≡ below g n + below h n
below_add g h zero = omega arith
below_add g h (suc n) = omega (arith, below_add g h n)

pub below_ones : (n : ℕ) → below (λ p. 1) n ≡ n
below_ones zero = refl
below_ones (suc n) = omega (arith, below_ones n)

below_zeros : (n : ℕ) → below (λ p. 0) n ≡ 0
below_zeros zero = refl
below_zeros (suc n) = omega (arith, below_zeros n)

below_miss : (a n : ℕ) → n ≤ a → below (λ p. bit (a == p)) n ≡ 0
below_miss a zero h = refl
below_miss a (suc n) h = omega (arith, other_bit a n (λ e. omega (arith, e, h)), below_miss a n (omega (arith, h)))

below_hit : (a n : ℕ) → a < n → below (λ p. bit (a == p)) n ≡ 1
below_hit a zero h = absurd (omega (arith, h))
below_hit a (suc n) h =
    ⊎_elim
    (λ (e : a ≡ n). omega (arith, same_bit a n e, below_miss a n (omega (arith, e))))
    (λ (e : a ≡ n → ⊥). omega (arith, other_bit a n e, below_hit a n (omega (arith, e, h))))
    (cases_eq a n)

below_bit : (a n : ℕ) → below (λ p. bit (a == p)) n ≤ 1
below_bit a n =
    ⊎_elim (λ (e : a < n). omega (arith, below_hit a n e)) (λ (e : n ≤ a). omega (arith, below_miss a n e)) (cases_lt a n)

-- items that have one number each count no more than there are
pub below_items : {X : Type 0} (number : X → ℕ) (xs : List X) (n : ℕ) → below (λ p. total (λ x. bit (number x == p)) xs) n ≤ length xs
below_items number [] n = omega (arith, below_zeros n)
below_items number (x ∷ xs) n =
    omega (
      arith,
      below_add (λ p. bit (number x == p)) (λ p. total (λ y. bit (number y == p)) xs) n,
      below_bit (number x) n,
      below_items number xs n,
    )

-- the sum over items may be taken first, or that over numbers
pub below_total : {X : Type 0} (g : ℕ → X → ℕ) (xs : List X) (n : ℕ) → below (λ p. total (g p) xs) n ≡ total (λ x. below (λ p. g p x) n) xs
below_total g [] n = below_zeros n
below_total g (x ∷ xs) n = omega (arith, below_add (λ p. g p x) (λ p. total (g p) xs) n, below_total g xs n)

-- the places of a list, which are below n, are counted once each
below_times : (n : ℕ) (xs : List ℕ) → ((p : ℕ) → n ≤ p → times p xs ≡ 0) → below (λ p. times p xs) n ≡ length xs
below_times n [] h = below_zeros n
below_times n (x ∷ xs) h =
    let low : x < n = ⊎_elim (λ (e : x < n). e) (λ (e : n ≤ x). absurd (omega (arith, h x e, same_bit x x refl))) (cases_lt x n) in
    omega (
      arith,
      below_add (λ p. bit (x == p)) (λ p. times p xs) n,
      below_hit x n low,
      below_times n xs (λ p above. omega (arith, h p above)),
    )

-- two lists in which each place below n stands once at most, and no other
pub few_places : (n : ℕ) (xs ys : List ℕ) → ((p : ℕ) → p < n → times p xs + times p ys ≤ 1) → ((p : ℕ) → n ≤ p → times p xs + times p ys ≡ 0)
    → length xs + length ys ≤ n
few_places n xs ys once beyond =
    omega (
      arith,
      below_times n xs (λ p above. omega (arith, beyond p above)),
      below_times n ys (λ p above. omega (arith, beyond p above)),
      below_add (λ p. times p xs) (λ p. times p ys) n,
      below_ones n,
      below_le (λ p. times p xs + times p ys) (λ p. 1) n once,
    )
