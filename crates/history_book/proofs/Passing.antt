-- Tests of the items of a list that no item passes.
use Rattle.std.proofs.Common.{◌≡◌, Bool, true, false, cond, List, [], ◌∷◌, refl, subst, Some, None}
use Rattle.std.specs.List.{AllByRecursion, find, list_any}
use Rattle.std.specs.Prelude.{◌||◌}
use Rattle.std.proofs.lemmas.Bool.{or_from}

-- a test that passes only where nothing can be fails
pub fails_by : (b : Bool) → (b ≡ true → ⊥) → b ≡ false
fails_by true h = absurd (h refl)
fails_by false h = refl

none_first : {X : Type 0} (p : X → Bool) (x : X) (xs : List X) (b : Bool) → p x ≡ b
    → cond b (Some x) (find p xs) ≡ None → (find p xs ≡ None → list_any p xs ≡ false) → (p x || list_any p xs) ≡ false
none_first p x xs true e h rest = cc
none_first p x xs false e h rest = or_from (p x) (list_any p xs) e (rest h)

-- where no item is found none passes
pub none_found : {X : Type 0} (p : X → Bool) (xs : List X) → find p xs ≡ None → list_any p xs ≡ false
none_found p [] h = refl
none_found p (x ∷ xs) h = none_first p x xs (p x) refl h (none_found p xs)

found_first : {X : Type 0} (p : X → Bool) (x y : X) (xs : List X) (b : Bool) → p x ≡ b
    → cond b (Some x) (find p xs) ≡ Some y → (find p xs ≡ Some y → p y ≡ true) → p y ≡ true
found_first p x y xs true e h rest = cc
found_first p x y xs false e h rest = rest h

-- the item that is found passes
pub found_passes : {X : Type 0} (p : X → Bool) (xs : List X) (y : X) → find p xs ≡ Some y → p y ≡ true
found_passes p [] y h = cc
found_passes p (x ∷ xs) y h = found_first p x y xs (p x) refl h (found_passes p xs y)

held_first : {X : Type 0} (P : X → Type 0) (p : X → Bool) (x y : X) (xs : List X) (b : Bool)
    → cond b (Some x) (find p xs) ≡ Some y → P x → (find p xs ≡ Some y → P y) → P y
held_first P p x y xs true h one rest = let same : x ≡ y = cc in subst P same one
held_first P p x y xs false h one rest = rest h

-- what holds of each item holds of the one that is found
pub found_holds : {X : Type 0} (P : X → Type 0) (p : X → Bool) (xs : List X) (y : X) → AllByRecursion P xs
    → find p xs ≡ Some y → P y
found_holds P p [] y h at = cc
found_holds P p (x ∷ xs) y (h, hs) at = held_first P p x y xs (p x) at h (found_holds P p xs y hs)
