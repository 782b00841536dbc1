-- What holds of each item of a list holds of its last one and of those before it.
use Rattle.std.proofs.Common.{List, [], ◌∷◌, ◌++◌, length, arith, length-append, subst}
use Rattle.std.specs.Prelude.{All}
use Rattle.std.proofs.Math.ListN.{get_or-append}
use Rattle.std.proofs.Math.Seq.{get_or-append_seam}

pub all_front : {X : Type 0} (P : X → Type 0) (xs : List X) (x : X) → All P (xs ++ x ∷ []) → All P xs
all_front P xs x h = λ i d below. subst P (get_or-append xs (x ∷ []) d i below) (h i d (omega (arith, below, length-append xs (x ∷ []))))

pub all_end : {X : Type 0} (P : X → Type 0) (xs : List X) (x : X) → All P (xs ++ x ∷ []) → P x
all_end P xs x h = subst P (get_or-append_seam xs x [] x) (h (length xs) x (omega (arith, length-append xs (x ∷ []))))
