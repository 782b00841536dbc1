-- Texts of a list.
use Rattle.std.specs.Prelude.{ℕ, ◌+◌, List, [], ◌∷◌, ◌++◌}

-- the texts of a list's items one after the other; a text may tell its item's index, and the first
-- item's is `from`
abbrev pub texts_from : {X : Type 0} → (ℕ → X → List ℕ) → ℕ → List X → List ℕ
texts_from text from [] = []
texts_from text from (x ∷ xs) = text from x ++ texts_from text (from + 1) xs
