-- How many items of a list pass a test, and facts of each item.
use Rattle.std.proofs.Common.{◌≡◌, ◌≢◌, ℕ, ◌+◌, ◌-◌, ◌<◌, ◌≤◌, zero, suc, Bool, true, false, cond, List, [], ◌∷◌, ◌++◌, length, refl, sym, ap, subst, ◌∙◌, arith, Some, ⊎_elim}
use Rattle.std.specs.List.{AllByRecursion, list_any, remove, slice_get}
use Rattle.std.specs.Prelude.{slice_set, ◌==◌, ◌||◌}
use Rattle.std.proofs.lemmas.Bool.{cases_Bool, cases_eq, cond_both, eq-eqb, ne_eqb}
use Rattle.book_desk.specs.Uses.{bit, tally}
use Rattle.book_desk.specs.Internal.Book.{AreBelow}

-- the items of two lists count together
pub tally-append : {X : Type 0} (p : X → Bool) (xs ys : List X) → tally p (xs ++ ys) ≡ tally p xs + tally p ys
tally-append p [] ys = omega arith
tally-append p (x ∷ xs) ys = omega (arith, tally-append p xs ys)

-- one item more counts by its test
pub tally-push : {X : Type 0} (p : X → Bool) (xs : List X) (x : X) → tally p (xs ++ x ∷ []) ≡ tally p xs + bit (p x)
tally-push p xs x = omega (arith, tally-append p xs (x ∷ []))

-- an item that is taken out counts no more
pub tally-remove : {X : Type 0} (p : X → Bool) (xs : List X) (i : ℕ) (x : X) → slice_get xs i ≡ Some x
    → tally p (remove xs i) + bit (p x) ≡ tally p xs
tally-remove p [] i x at = cc
tally-remove p (y ∷ ys) zero x at = let same : y ≡ x = cc in rw (sym same) (omega arith)
tally-remove p (y ∷ ys) (suc i) x at = omega (arith, tally-remove p ys i x at)

-- an item that is written counts in place of the one before it
pub tally-set : {X : Type 0} (p : X → Bool) (xs : List X) (i : ℕ) (x y : X) → slice_get xs i ≡ Some x → p x ≡ p y
    → tally p (slice_set xs i y) ≡ tally p xs
tally-set p [] i x y at same = cc
tally-set p (z ∷ zs) zero x y at same =
    let here : z ≡ x = cc in ap (λ b. bit b + tally p zs) (sym same ∙ ap p (sym here))
tally-set p (z ∷ zs) (suc i) x y at same = omega (arith, tally-set p zs i x y at same)

-- what passes is somewhere
pub tally_some : {X : Type 0} (p : X → Bool) (xs : List X) → list_any p xs ≡ true → 1 ≤ tally p xs
tally_some p [] h = cc
tally_some p (x ∷ xs) h =
    elim (p x) as (λ b. (b || list_any p xs) ≡ true → 1 ≤ bit b + tally p xs) [
      | true ↦ λ e. omega arith
      | false ↦ λ e. omega (arith, tally_some p xs e)
    ] h

-- where none passes, none counts
pub tally_none : {X : Type 0} (p : X → Bool) (xs : List X) → list_any p xs ≡ false → tally p xs ≡ 0
tally_none p [] h = refl
tally_none p (x ∷ xs) h =
    elim (p x) as (λ b. (b || list_any p xs) ≡ false → bit b + tally p xs ≡ 0) [
      | true ↦ λ e. cc
      | false ↦ λ e. omega (arith, tally_none p xs e)
    ] h

-- what counts nothing is nowhere
pub none_of : {X : Type 0} (p : X → Bool) (xs : List X) → tally p xs ≡ 0 → list_any p xs ≡ false
none_of p xs h =
    ⊎_elim (λ e. absurd (omega (arith, h, tally_some p xs e))) (λ e. e) (cases_Bool (list_any p xs))

-- a number is itself, and counts one
pub same_bit : (p q : ℕ) → p ≡ q → bit (p == q) ≡ 1
same_bit p q e = ap bit (eq-eqb p q e)

-- two numbers that differ count nothing
pub other_bit : (p q : ℕ) → p ≢ q → bit (p == q) ≡ 0
other_bit p q e = ap bit (ne_eqb p q e)

-- one place more below those that are there
pub below_more : (n from : ℕ) (places : List ℕ) → AreBelow n (from + 1) places → from < n
    → AreBelow n from (places ++ from ∷ [])
below_more n from places h below = record {
  low = λ p under. omega (arith, tally-push (λ q. q == p) places from, h.low p (omega arith), other_bit from p (λ e. omega (arith, e)));
  each = λ p above under. ⊎_elim
      (λ (e : from ≡ p). omega (arith, tally-push (λ q. q == p) places from, h.low p (omega (arith, e)), same_bit from p e))
      (λ (e : from ≡ p → ⊥). omega (arith, tally-push (λ q. q == p) places from, h.each p (omega (arith, e)) under, other_bit from p e))
      (cases_eq from p);
  high = λ p above. omega (arith, tally-push (λ q. q == p) places from, h.high p above, other_bit from p (λ e. omega (arith, e)));
}

-- the same, as the loop counts
pub below_pushed : (n count : ℕ) (places more : List ℕ) → AreBelow n (n - count) places → count < n
    → more ≡ places ++ (n - 1 - count) ∷ [] → AreBelow n (n - (count + 1)) more
below_pushed n count places more h within e =
    let here : n - 1 - count ≡ n - (count + 1) = omega arith in
    let above : n - count ≡ n - (count + 1) + 1 = omega (arith, within) in
    subst (AreBelow n (n - (count + 1))) (sym (e ∙ ap (λ k. places ++ k ∷ []) here))
    (below_more n (n - (count + 1)) places (subst (λ (k : ℕ). AreBelow n k places) above h) (omega (arith, within)))

-- a list without its first item that passes
module _ {X : Type 0} (p : X → Bool) (rest : List X → List X)
    (step : (x : X) (xs : List X) → rest (x ∷ xs) ≡ cond (p x) xs (x ∷ rest xs)) where
  -- what passes counts c, and the count falls by it
  pub tally-rest : (q : X → Bool) (c : ℕ) → ((x : X) → p x ≡ true → bit (q x) ≡ c) → (xs : List X) → list_any p xs ≡ true
      → tally q (rest xs) + c ≡ tally q xs
  tally-rest q c one [] h = cc
  tally-rest q c one (x ∷ xs) h =
      ap (λ ys. tally q ys + c) (step x xs)
      ∙ cond_both (p x) xs (x ∷ rest xs) (λ ys. tally q ys + c ≡ bit (q x) + tally q xs)
      (λ e. omega (arith, one x e))
      (λ e. omega (arith, tally-rest q c one xs (sym (ap (λ b. b || list_any p xs) e) ∙ h)))

  -- the list is one shorter
  pub length-rest : (xs : List X) → list_any p xs ≡ true → length (rest xs) + 1 ≡ length xs
  length-rest [] h = cc
  length-rest (x ∷ xs) h =
      ap (λ ys. length ys + 1) (step x xs)
      ∙ cond_both (p x) xs (x ∷ rest xs) (λ ys. length ys + 1 ≡ suc (length xs))
      (λ e. omega arith)
      (λ e. omega (arith, length-rest xs (sym (ap (λ b. b || list_any p xs) e) ∙ h)))

  pub each_rest : (P : X → Type 0) (xs : List X) → rest [] ≡ [] → AllByRecursion P xs → AllByRecursion P (rest xs)
  each_rest P [] none h = subst (AllByRecursion P) (sym none) tt
  each_rest P (x ∷ xs) none (h, hs) =
      subst (AllByRecursion P) (sym (step x xs))
      (cond_both (p x) xs (x ∷ rest xs) (AllByRecursion P) (λ e. hs) (λ e. (h, each_rest P xs none hs)))

-- what is so of each item is so of the one at an index
pub each_at : {X : Type 0} (P : X → Type 0) (xs : List X) (i : ℕ) (x : X) → AllByRecursion P xs → slice_get xs i ≡ Some x → P x
each_at P [] i x h at = cc
each_at P (y ∷ ys) zero x (h, hs) at = let same : y ≡ x = cc in subst P same h
each_at P (y ∷ ys) (suc i) x (h, hs) at = each_at P ys i x hs at

-- a fact of each item stays when one is written that has it, when one is taken out, and when one is added
pub each_set : {X : Type 0} (P : X → Type 0) (xs : List X) (i : ℕ) (x : X) → AllByRecursion P xs → P x
    → AllByRecursion P (slice_set xs i x)
each_set P [] i x h one = tt
each_set P (y ∷ ys) zero x (h, hs) one = (one, hs)
each_set P (y ∷ ys) (suc i) x (h, hs) one = (h, each_set P ys i x hs one)

-- and when one is taken out
pub each_remove : {X : Type 0} (P : X → Type 0) (xs : List X) (i : ℕ) → AllByRecursion P xs → AllByRecursion P (remove xs i)
each_remove P [] zero h = tt
each_remove P [] (suc i) h = tt
each_remove P (y ∷ ys) zero (h, hs) = hs
each_remove P (y ∷ ys) (suc i) (h, hs) = (h, each_remove P ys i hs)

-- and when one is added that has it
pub each_push : {X : Type 0} (P : X → Type 0) (xs : List X) (x : X) → AllByRecursion P xs → P x → AllByRecursion P (xs ++ x ∷ [])
each_push P [] x h one = (one, tt)
each_push P (y ∷ ys) x (h, hs) one = (h, each_push P ys x hs one)

-- what follows from a fact of each item holds of each
pub each_map : {X : Type 0} (P Q : X → Type 0) (xs : List X) → ((x : X) → P x → Q x) → AllByRecursion P xs → AllByRecursion Q xs
each_map P Q [] f h = tt
each_map P Q (x ∷ xs) f (h, hs) = (f x h, each_map P Q xs f hs)

-- what follows from two facts of each item holds of each
pub each_two : {X : Type 0} (P Q R : X → Type 0) (xs : List X) → ((x : X) → P x → Q x → R x) → AllByRecursion P xs
    → AllByRecursion Q xs → AllByRecursion R xs
each_two P Q R [] f h k = tt
each_two P Q R (x ∷ xs) f (h, hs) (k, ks) = (f x h k, each_two P Q R xs f hs ks)
