-- Sums over passes, and one pass among them.
use Rattle.std.proofs.Common.{◌≡◌, ◌≢◌, ℕ, ◌+◌, ◌*◌, ◌≤◌, zero, suc, List, [], ◌∷◌, ◌++◌, length, map, refl, sym, ap, subst, ⊎_elim, arith, set}
use mathlib.Core.Option.{some, some-injective, some-ne-none}
use lib.ListN.{get_elem?}
use Rattle.atomic_table.proofs.Lists.{at_set, at_snoc}
use Rattle.track_rule.specs.Sums.{Each, total}

-- what changed items count
pub total_map : {X Y : Type 0} (f : Y → ℕ) (g : X → Y) (xs : List X) → total f (map g xs) ≡ total (λ x. f (g x)) xs
total_map f g [] = refl
total_map f g (x ∷ xs) = omega (arith, total_map f g xs)

module _ {X : Type 0} where
  -- after a change of one item
  pub total_set : (f : X → ℕ) (xs : List X) (i : ℕ) (x y : X) → get_elem? xs i ≡ some x → total f (set xs i y) + f x ≡ total f xs + f y
  total_set f [] i x y at = absurd (some-ne-none x (sym at))
  total_set f (z ∷ zs) zero x y at = let same : f z ≡ f x = ap f (some-injective z x at) in omega (arith, same)
  total_set f (z ∷ zs) (suc i) x y at = omega (arith, total_set f zs i x y at)

  -- after a change of one item that does not count
  pub total_same : (f : X → ℕ) (xs : List X) (i : ℕ) (x y : X) → get_elem? xs i ≡ some x → f y ≡ f x → total f (set xs i y) ≡ total f xs
  total_same f xs i x y at same = omega (arith, total_set f xs i x y at, same)

  -- one item counts at most as much as all
  pub total_term : (f : X → ℕ) (xs : List X) (i : ℕ) (x : X) → get_elem? xs i ≡ some x → f x ≤ total f xs
  total_term f [] i x at = absurd (some-ne-none x (sym at))
  total_term f (z ∷ zs) zero x at = let same : f z ≡ f x = ap f (some-injective z x at) in omega (arith, same)
  total_term f (z ∷ zs) (suc i) x at = omega (arith, total_term f zs i x at)

  -- and so do two
  pub total_two : (f : X → ℕ) (xs : List X) (i j : ℕ) (x y : X) → get_elem? xs i ≡ some x → get_elem? xs j ≡ some y → j ≢ i → f x + f y ≤ total f xs
  total_two f [] i j x y at at' apart = absurd (some-ne-none x (sym at))
  total_two f (z ∷ zs) zero zero x y at at' apart = absurd (apart refl)
  total_two f (z ∷ zs) zero (suc j) x y at at' apart = let same : f z ≡ f x = ap f (some-injective z x at) in omega (arith, same, total_term f zs j y at')
  total_two f (z ∷ zs) (suc i) zero x y at at' apart = let same : f z ≡ f y = ap f (some-injective z y at') in omega (arith, same, total_term f zs i x at)
  total_two f (z ∷ zs) (suc i) (suc j) x y at at' apart = omega (arith, total_two f zs i j x y at at' (λ e. apart (ap suc e)))

  pub total_append : (f : X → ℕ) (xs ys : List X) → total f (xs ++ ys) ≡ total f xs + total f ys
  total_append f [] ys = omega arith
  total_append f (x ∷ xs) ys = omega (arith, total_append f xs ys)

  pub total_add : (f g : X → ℕ) (xs : List X) → total (λ x. f x + g x) xs ≡ total f xs + total g xs
  total_add f g [] = omega arith
  total_add f g (x ∷ xs) = omega (arith, total_add f g xs)

  pub total_times : (k : ℕ) (f : X → ℕ) (xs : List X) → total (λ x. k * f x) xs ≡ k * total f xs
  total_times k f [] = omega arith
  total_times k f (x ∷ xs) = omega (arith, total_times k f xs)

  -- items that count no more each count no more
  pub total_le : (f g : X → ℕ) (xs : List X) → Each (λ x. f x ≤ g x) xs → total f xs ≤ total g xs
  total_le f g [] le = omega arith
  total_le f g (x ∷ xs) le = omega (arith, le 0 x refl, total_le f g xs (λ i y at. le (suc i) y at))

  -- and where one counts less, so do all
  pub total_gap : (f g : X → ℕ) (xs : List X) (i : ℕ) (x : X) → get_elem? xs i ≡ some x → Each (λ y. f y ≤ g y) xs → total f xs + g x ≤ total g xs + f x
  total_gap f g [] i x at le = absurd (some-ne-none x (sym at))
  total_gap f g (z ∷ zs) zero x at le =
      let same : z ≡ x = some-injective z x at in omega (arith, ap f same, ap g same, total_le f g zs (λ i y at'. le (suc i) y at'))
  total_gap f g (z ∷ zs) (suc i) x at le = omega (arith, le 0 z refl, total_gap f g zs i x at (λ j y at'. le (suc j) y at'))

  -- the others count nothing where one counts for all
  pub total_only : (f g : X → ℕ) (xs : List X) (i : ℕ) (x : X) → get_elem? xs i ≡ some x → total g xs ≡ g x
      → Each (λ y. g y ≡ 0 → f y ≡ 0) xs → total f xs ≡ f x
  total_only f g [] i x at all none = absurd (some-ne-none x (sym at))
  total_only f g (z ∷ zs) zero x at all none =
      let same : z ≡ x = some-injective z x at in
      let rest : total g zs ≡ 0 = omega (arith, all, ap g same) in
      omega (arith, ap f same, total_none f g zs rest (λ i y at'. none (suc i) y at'))
    where
      total_none : (f g : X → ℕ) (xs : List X) → total g xs ≡ 0 → Each (λ y. g y ≡ 0 → f y ≡ 0) xs → total f xs ≡ 0
      total_none f g [] all none = refl
      total_none f g (x ∷ xs) all none = omega (arith, none 0 x refl (omega (arith, all)), total_none f g xs (omega (arith, all)) (λ i y at. none (suc i) y at))
  total_only f g (z ∷ zs) (suc i) x at all none =
      let term = total_term g zs i x at in
      let here : g z ≡ 0 = omega (arith, all, term) in
      omega (arith, none 0 z refl here, total_only f g zs i x at (omega (arith, all, here)) (λ j y at'. none (suc j) y at'))

  -- items that count alike
  pub total_alike : (f g : X → ℕ) (xs : List X) → Each (λ x. f x ≡ g x) xs → total f xs ≡ total g xs
  total_alike f g [] same = refl
  total_alike f g (x ∷ xs) same = omega (arith, same 0 x refl, total_alike f g xs (λ i y at. same (suc i) y at))

  -- and all but one
  pub total_but : (f g : X → ℕ) (xs : List X) (i : ℕ) (x : X) → get_elem? xs i ≡ some x
      → ((j : ℕ) (y : X) → j ≢ i → get_elem? xs j ≡ some y → f y ≡ g y) → total f xs + g x ≡ total g xs + f x
  total_but f g [] i x at same = absurd (some-ne-none x (sym at))
  total_but f g (z ∷ zs) zero x at same =
      let here : z ≡ x = some-injective z x at in
      omega (arith, ap f here, ap g here, total_alike f g zs (λ j y at'. same (suc j) y (λ e. omega (arith, e)) at'))
  total_but f g (z ∷ zs) (suc i) x at same =
      omega (arith, same 0 z (λ e. omega (arith, e)) refl, total_but f g zs i x at (λ j y other at'. same (suc j) y (λ e. other (omega (arith, e))) at'))

  -- one more
  pub length_total : (xs : List X) → total (λ x. 1) xs ≡ length xs
  length_total [] = refl
  length_total (x ∷ xs) = omega (arith, length_total xs)

  -- what is so of each is so after a change of one, if it is so of that
  pub each_put : (F : X → Type 0) (xs : List X) (i : ℕ) (y : X) → Each F xs → F y → Each F (set xs i y)
  each_put F xs i y all one j z at =
      ⊎_elim (λ (t : (j ≡ i) × (y ≡ z)). subst F t.1 one) (λ (t : (j ≢ i) × (get_elem? xs j ≡ some z)). all j z t.1) (at_set xs i j y z at)

  -- the others are as they were
  pub each_other : (F : X → Type 0) (xs : List X) (i : ℕ) (y : X) → ((j : ℕ) (z : X) → j ≢ i → get_elem? xs j ≡ some z → F z) → F y → Each F (set xs i y)
  each_other F xs i y others one j z at =
      ⊎_elim (λ (t : (j ≡ i) × (y ≡ z)). subst F t.1 one) (λ (t : (j ≢ i) × (get_elem? xs j ≡ some z)). others j z t.0 t.1) (at_set xs i j y z at)

  pub each_more : (F : X → Type 0) (xs : List X) (y : X) → Each F xs → F y → Each F (xs ++ y ∷ [])
  each_more F xs y all one j z at =
      ⊎_elim (λ (t : get_elem? xs j ≡ some z). all j z t) (λ (t : y ≡ z). subst F t one) (at_snoc xs y z j at)
