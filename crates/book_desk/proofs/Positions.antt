-- The first item that passes a test, by its index.
use Rattle.std.proofs.Common.{◌≡◌, ℕ, ◌+◌, ◌<◌, suc, Bool, true, false, not, cond, List, [], ◌∷◌, length, get_or, refl, sym, ap, ◌∙◌, ⊎_elim, arith, Some, None}
use Rattle.std.specs.List.{find, list_any, position, position_or_len, remove, slice_get}
use Rattle.std.specs.Prelude.{◌||◌, ◌==◌, nat_lt, unwrap_or}
use Rattle.std.proofs.lemmas.Bool.{cases_Bool, cond_both, lt-ltb, ltb-true}
use Rattle.std.proofs.lemmas.Option.{cond_some, same_Some, slice_get-get_or}
use Rattle.history_book.specs.declared.desk.Hold.{Hold}
use Rattle.history_book.specs.Held.{held_id, id_of, is_at, paid, without}

-- where an item passes, the first is within the list
below_any : {X : Type 0} (p : X → Bool) (xs : List X) → list_any p xs ≡ true → position_or_len p xs < length xs
below_any p [] h = cc
below_any p (x ∷ xs) h =
    elim (p x) as (λ b. (b || list_any p xs) ≡ true → cond (not b) (1 + position_or_len p xs) 0 < suc (length xs)) [
      | true ↦ λ e. omega arith
      | false ↦ λ e. omega (arith, below_any p xs e)
    ] h

-- where an item passes, an index is found
position_any : {X : Type 0} (p : X → Bool) (xs : List X) → list_any p xs ≡ true → position p xs ≡ Some (position_or_len p xs)
position_any p xs h =
    ap (λ b. cond b (Some (position_or_len p xs)) None) (lt-ltb (position_or_len p xs) (length xs) (below_any p xs h))

-- where none was found, none passes
pub none_at : {X : Type 0} (p : X → Bool) (xs : List X) → position p xs ≡ None → list_any p xs ≡ false
none_at p xs h =
    ⊎_elim (λ e. let some = position_any p xs e in cc) (λ e. e) (cases_Bool (list_any p xs))

-- the index that was found
found_at : {X : Type 0} (p : X → Bool) (xs : List X) (i : ℕ) → position p xs ≡ Some i
    → (position_or_len p xs < length xs) × (position_or_len p xs ≡ i)
found_at p xs i h =
    let parts = cond_some (nat_lt (position_or_len p xs) (length xs)) (position_or_len p xs) i h in
    (ltb-true (position_or_len p xs) (length xs) parts.0, parts.1)

-- the index that was found is within the list
pub found_within : {X : Type 0} (p : X → Bool) (xs : List X) (i : ℕ) → position p xs ≡ Some i → i < length xs
found_within p xs i h = let at = found_at p xs i h in omega (arith, at.0, at.1)

module _ {X : Type 0} (p : X → Bool) (rest : List X → List X)
    (step : (x : X) (xs : List X) → rest (x ∷ xs) ≡ cond (p x) xs (x ∷ rest xs)) where
  -- to take out the first item that passes is to take out that at its index
  first_removed : (xs : List X) → position_or_len p xs < length xs → remove xs (position_or_len p xs) ≡ rest xs
  first_removed [] h = absurd (omega (arith, h))
  first_removed (x ∷ xs) h =
      (elim (p x) as (λ b. cond (not b) (1 + position_or_len p xs) 0 < suc (length xs)
      → remove (x ∷ xs) (cond (not b) (1 + position_or_len p xs) 0) ≡ cond b xs (x ∷ rest xs)) [
        | true ↦ λ e. refl
        | false ↦ λ e.
            let more : 1 + position_or_len p xs ≡ suc (position_or_len p xs) = omega arith in
            ap (remove (x ∷ xs)) more ∙ ap (λ ys. x ∷ ys) (first_removed xs (omega (arith, e)))
      ] h) ∙ sym (step x xs)

  pub removed_at : (xs : List X) (i : ℕ) → position p xs ≡ Some i → remove xs i ≡ rest xs
  removed_at xs i h =
      let at = found_at p xs i h in
      ap (remove xs) (sym at.1) ∙ first_removed xs at.0

-- the first item that passes stands at its index
first_found : {X : Type 0} (p : X → Bool) (xs : List X) → position_or_len p xs < length xs
    → slice_get xs (position_or_len p xs) ≡ find p xs
first_found p [] h = absurd (omega (arith, h))
first_found p (x ∷ xs) h =
    elim (p x) as (λ b. cond (not b) (1 + position_or_len p xs) 0 < suc (length xs)
    → slice_get (x ∷ xs) (cond (not b) (1 + position_or_len p xs) 0) ≡ cond b (Some x) (find p xs)) [
      | true ↦ λ e. refl
      | false ↦ λ e.
          let more : 1 + position_or_len p xs ≡ suc (position_or_len p xs) = omega arith in
          ap (slice_get (x ∷ xs)) more ∙ first_found p xs (omega (arith, e))
    ] h

-- the item at the index is the first that passes
pub item_at : {X : Type 0} (p : X → Bool) (xs : List X) (i : ℕ) → position p xs ≡ Some i → slice_get xs i ≡ find p xs
item_at p xs i h =
    let at = found_at p xs i h in
    ap (slice_get xs) (sym at.1) ∙ first_found p xs at.0

-- the references without the one at the index
pub without_at : (place : ℕ) (held : List Hold) (i : ℕ) → position (is_at place) held ≡ Some i → remove held i ≡ without place held
without_at place held i h = removed_at (is_at place) (without place) (λ x xs. refl) held i h

-- the owed places without the one at the index
pub paid_at : (place : ℕ) (owed : List ℕ) (i : ℕ) → position (λ p. p == place) owed ≡ Some i → remove owed i ≡ paid place owed
paid_at place owed i h = removed_at (λ p. p == place) (paid place) (λ x xs. refl) owed i h

-- where none passes, none is found
none_found : {X : Type 0} (p : X → Bool) (xs : List X) → list_any p xs ≡ false → find p xs ≡ None
none_found p [] h = refl
none_found p (x ∷ xs) h =
    elim (p x) as (λ b. (b || list_any p xs) ≡ false → cond b (Some x) (find p xs) ≡ None) [
      | true ↦ λ e. cc
      | false ↦ λ e. none_found p xs e
    ] h

-- where no index was found, no item is
pub find_none : {X : Type 0} (p : X → Bool) (xs : List X) → position p xs ≡ None → find p xs ≡ None
find_none p xs h = none_found p xs (none_at p xs h)

-- what passes is found
pub some_at : {X : Type 0} (p : X → Bool) (xs : List X) → list_any p xs ≡ true → position p xs ≡ None → ⊥
some_at p xs h e = let some = position_any p xs h in cc

-- a place that no reference is to has the id 0
pub held_id_none : (place : ℕ) (held : List Hold) → position (is_at place) held ≡ None → held_id place held ≡ 0
held_id_none place held h = ap id_of (find_none (is_at place) held h)

-- the id of the reference at the index
pub held_id_at : (place : ℕ) (held : List Hold) (i : ℕ) (d : Hold) → position (is_at place) held ≡ Some i
    → held_id place held ≡ unwrap_or (get_or held i d).id 0
held_id_at place held i d h =
    ap id_of (sym (item_at (is_at place) held i h) ∙ slice_get-get_or held i d (found_within (is_at place) held i h))

-- what is found passes
pub find_passes : {X : Type 0} (p : X → Bool) (xs : List X) (x : X) → find p xs ≡ Some x → p x ≡ true
find_passes p [] x h = cc
find_passes p (y ∷ ys) x h =
    cond_both (p y) (Some y) (find p ys) (λ o. o ≡ Some x → p x ≡ true)
    (λ e same. let here : y ≡ x = same_Some y x same in ap p (sym here) ∙ e)
    (λ e same. find_passes p ys x same) h

-- what stands at the index passes
pub passes_at : {X : Type 0} (p : X → Bool) (xs : List X) (i : ℕ) (x : X) → position p xs ≡ Some i → slice_get xs i ≡ Some x → p x ≡ true
passes_at p xs i x found at = find_passes p xs x (sym (item_at p xs i found) ∙ at)
