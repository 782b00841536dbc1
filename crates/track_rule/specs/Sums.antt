-- Sums over all passes, and over the items of a list.
use Rattle.std.specs.Prelude.{◌≡◌, ℕ, ◌+◌, ◌==◌, Bool, if◌then◌else◌, List, [], ◌∷◌}
use mathlib.Core.Option.{some}
use lib.ListN.{get_elem?}

-- f of each item, added up
abbrev pub total : {X : Type 0} → (X → ℕ) → List X → ℕ
total f [] = 0
total f (x ∷ xs) = f x + total f xs

-- the same is so of each of them
abbrev pub Each : {X : Type 0} → (X → Type 0) → List X → Type 0
Each F xs = (i : ℕ) (x : _) → get_elem? xs i ≡ some x → F x

abbrev pub bit : Bool → ℕ
bit b = (if b then 1 else 0)

-- how often a place stands in a list
abbrev pub times : ℕ → List ℕ → ℕ
times place places = total (λ p. bit (p == place)) places
