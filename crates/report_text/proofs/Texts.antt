-- The texts of a list's items, in two parts.
use Rattle.std.proofs.Common.{◌≡◌, ℕ, ◌+◌, ◌<◌, ◌≤◌, List, [], ◌∷◌, ◌++◌, length, get_or, take, drop, arith, append_assoc, append-nil}
use Rattle.std.proofs.lemmas.List.{take-append-drop, take_more}
use Rattle.std.proofs.lemmas.Grind.{common_steps}
use Rattle.report_text.specs.Texts.{texts_from}

pub texts_from-append : {X : Type 0} (text : ℕ → X → List ℕ) (from : ℕ) (xs ys : List X) →
    texts_from text from (xs ++ ys)
    ≡ texts_from text from xs ++ texts_from text (from + length xs) ys
texts_from-append text from [] ys = grind arith
texts_from-append text from (x ∷ xs) ys =
    grind (arith, texts_from-append text (from + 1) xs ys, append_assoc)

-- the texts of the first items, and those of the others
pub texts_from-split : {X : Type 0} (text : ℕ → X → List ℕ) (xs : List X) (i : ℕ) → i ≤ length xs →
    texts_from text 0 xs ≡ texts_from text 0 (take i xs) ++ texts_from text i (drop i xs)
texts_from-split text xs i within =
    grind (
      arith,
      texts_from-append text 0 (take i xs) (drop i xs),
      take-append-drop i xs,
      common_steps,
    )

-- one item more
pub texts_from-more : {X : Type 0} (text : ℕ → X → List ℕ) (xs : List X) (i : ℕ) (d : X) →
    i < length xs →
    texts_from text 0 (take (i + 1) xs) ≡ texts_from text 0 (take i xs) ++ text i (get_or xs i d)
texts_from-more text xs i d within =
    grind (
      arith,
      take_more xs i d within,
      texts_from-append text 0 (take i xs) (get_or xs i d ∷ []),
      append-nil,
      common_steps,
    )
