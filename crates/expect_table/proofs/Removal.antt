-- Where at most one item passes a test, taking out the first that does leaves those that do not.
use Rattle.std.proofs.Common.{◌≡◌, ℕ, ◌+◌, ◌<◌, suc, Bool, true, false, not, cond, List, [], ◌∷◌, length, find, filter, position, refl, sym, ap, ◌∙◌, ⊎_elim, arith, Some, None}
use Rattle.std.specs.List.{list_any, position_or_len, remove, slice_get}
use Rattle.std.specs.Prelude.{◌||◌, nat_lt}
use Rattle.std.proofs.lemmas.Bool.{cases_Bool, lt-ltb, ltb-true, true≢false}
use Rattle.std.proofs.lemmas.Option.{cond_some}
use Rattle.std.proofs.lemmas.List.Folds.{find_at}

module _ {X : Type 0} (p : X → Bool) where
  -- at most one item passes
  unfoldable pub IsAlone : List X → Type 0
  IsAlone [] = Unit {0}
  IsAlone (x ∷ xs) = (p x ≡ true → list_any p xs ≡ false) × IsAlone xs

  -- where none passes, none is taken out
  pub none_out : (xs : List X) → list_any p xs ≡ false → filter (λ x. not (p x)) xs ≡ xs
  none_out [] h = refl
  none_out (x ∷ xs) h =
      elim (p x) as (λ b. (b || list_any p xs) ≡ false → cond (not b) (x ∷ filter (λ y. not (p y)) xs) (filter (λ y. not (p y)) xs) ≡ x ∷ xs) [
        | true ↦ λ e. absurd (true≢false e)
        | false ↦ λ e. ap (λ ys. x ∷ ys) (none_out xs e)
      ] h

  -- where one passes, the first is within the list
  below_any : (xs : List X) → list_any p xs ≡ true → position_or_len p xs < length xs
  below_any [] h = cc
  below_any (x ∷ xs) h =
      elim (p x) as (λ b. (b || list_any p xs) ≡ true → cond (not b) (1 + position_or_len p xs) 0 < suc (length xs)) [
        | true ↦ λ e. omega arith
        | false ↦ λ e. omega (arith, below_any xs e)
      ] h

  -- where none was found, none passes
  pub none_at : (xs : List X) → position p xs ≡ None → list_any p xs ≡ false
  none_at xs h =
      ⊎_elim
      (λ e. let some : position p xs ≡ Some (position_or_len p xs) =
      ap (λ b. cond b (Some (position_or_len p xs)) None) (lt-ltb (position_or_len p xs) (length xs) (below_any xs e)) in cc)
      (λ e. e) (cases_Bool (list_any p xs))

  found_at : (xs : List X) (i : ℕ) → position p xs ≡ Some i → (position_or_len p xs < length xs) × (position_or_len p xs ≡ i)
  found_at xs i h =
      let parts = cond_some (nat_lt (position_or_len p xs) (length xs)) (position_or_len p xs) i h in
      (ltb-true (position_or_len p xs) (length xs) parts.0, parts.1)

  pub found_within : (xs : List X) (i : ℕ) → position p xs ≡ Some i → i < length xs
  found_within xs i h = let at = found_at xs i h in omega (arith, at.0, at.1)

  any_below : (xs : List X) → position_or_len p xs < length xs → list_any p xs ≡ true
  any_below [] h = absurd (omega (arith, h))
  any_below (x ∷ xs) h =
      elim (p x) as (λ b. cond (not b) (1 + position_or_len p xs) 0 < suc (length xs) → (b || list_any p xs) ≡ true) [
        | true ↦ λ e. refl
        | false ↦ λ e. any_below xs (omega (arith, e))
      ] h

  -- where one was found, one passes
  pub any_at : (xs : List X) (i : ℕ) → position p xs ≡ Some i → list_any p xs ≡ true
  any_at xs i h = any_below xs (found_at xs i h).0

  first_out : (xs : List X) → IsAlone xs → position_or_len p xs < length xs
      → remove xs (position_or_len p xs) ≡ filter (λ x. not (p x)) xs
  unfolding IsAlone
  first_out [] alone h = absurd (omega (arith, h))
  first_out (x ∷ xs) (one, others) h =
      elim (p x) as (λ b. (b ≡ true → list_any p xs ≡ false) → cond (not b) (1 + position_or_len p xs) 0 < suc (length xs)
      → remove (x ∷ xs) (cond (not b) (1 + position_or_len p xs) 0) ≡ cond (not b) (x ∷ filter (λ y. not (p y)) xs) (filter (λ y. not (p y)) xs)) [
        | true ↦ λ none e. sym (none_out xs (none refl))
        | false ↦ λ none e.
            let more : 1 + position_or_len p xs ≡ suc (position_or_len p xs) = omega arith in
            ap (remove (x ∷ xs)) more ∙ ap (λ ys. x ∷ ys) (first_out xs others (omega (arith, e)))
      ] one h

  -- to take out the one that was found is to keep those that do not pass
  pub one_out : (xs : List X) (i : ℕ) → IsAlone xs → position p xs ≡ Some i → remove xs i ≡ filter (λ x. not (p x)) xs
  one_out xs i alone h =
      let at = found_at xs i h in
      ap (remove xs) (sym at.1) ∙ first_out xs alone at.0

  -- the first that passes stands where it was found
  pub first_at : (xs : List X) (i : ℕ) (x : X) → position p xs ≡ Some i → slice_get xs i ≡ Some x → find p xs ≡ Some x
  first_at xs i x h at = find_at p xs ∙ ap (slice_get xs) (found_at xs i h).1 ∙ at

  pub none_found : (xs : List X) → position p xs ≡ None → find p xs ≡ None
  none_found xs h = not_any xs (none_at xs h)
    where
      not_any : (ys : List X) → list_any p ys ≡ false → find p ys ≡ None
      not_any [] e = refl
      not_any (y ∷ ys) e =
          elim (p y) as (λ b. (b || list_any p ys) ≡ false → cond b (Some y) (find p ys) ≡ None) [
            | true ↦ λ e. absurd (true≢false e)
            | false ↦ λ e. not_any ys e
          ] e
