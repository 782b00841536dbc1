-- How pieces that are written one after another go together.
use Rattle.std.proofs.Common.{◌≡◌, ℕ, ◌+◌, List, ◌++◌, Option, None, Some, take, drop, refl, sym, ap, append_assoc, ◌∙◌}
use Rattle.std.proofs.Math.Seq.{take-add}
use Rattle.std.proofs.lemmas.List.{append-nil}
use Rattle.ct_io.specs.Writing.{Appended}

-- the first bytes of a piece, and then the first of its rest
pub appended_twice : (before : Option (List ℕ)) (piece : List ℕ) (n m : ℕ) →
    Appended (Appended before n piece) m (drop n piece) ≡ Appended before (n + m) piece
appended_twice None piece n m = refl
appended_twice (Some before) piece n m = ap Some (append_assoc before (take n piece) (take m (drop n piece)) ∙ ap (λ x. before ++ x) (sym (take-add n m piece)))

-- nothing of a piece
pub appended_nothing : (before : Option (List ℕ)) (piece : List ℕ) → Appended before 0 piece ≡ before
appended_nothing None piece = refl
appended_nothing (Some before) piece = ap Some (append-nil before)
