-- Texts of a list that are the same one by one.
use Rattle.std.proofs.Common.{◌≡◌, ℕ, ◌+◌, List, [], ◌∷◌, ◌++◌, refl, ap₂}
use Rattle.report_text.specs.Texts.{texts_from}

pub texts_from-same : {X : Type 0} (f g : ℕ → X → List ℕ) → ((i : ℕ) (x : X) → f i x ≡ g i x) →
    (from : ℕ) (xs : List X) → texts_from f from xs ≡ texts_from g from xs
texts_from-same f g same from [] = refl
texts_from-same f g same from (x ∷ xs) =
    ap₂ (λ (a b : List ℕ). a ++ b) (same from x) (texts_from-same f g same (from + 1) xs)
