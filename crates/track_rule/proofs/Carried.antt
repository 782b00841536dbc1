-- A part of each view, when one view changes, a view is cut in two, or two are joined: sums over the part stay, and what is
-- so of each part stays so.
use Rattle.std.proofs.Common.{◌≡◌, ℕ, List, [], ◌∷◌, ◌++◌, sym, ap, subst, arith, set}
use mathlib.Core.Option.{some}
use lib.ListN.{get_elem?}
use Rattle.track_rule.specs.Sums.{Each, total}
use Rattle.track_rule.proofs.Sums.{each_more, each_put, total_append, total_same, total_set}

module _ {V X : Type 0} where
  -- `empty` is the part of a view that has nothing
  pub record Carries (g : V → X) (empty : X) (vs vs' : List V) : Type 1 where
    pub sums : (f : X → ℕ) → f empty ≡ 0 → total (λ v. f (g v)) vs' ≡ total (λ v. f (g v)) vs
    pub each : (P : X → Type 0) → P empty → Each (λ v. P (g v)) vs → Each (λ v. P (g v)) vs'

  pub carries_set : (g : V → X) (empty : X) (vs : List V) (i : ℕ) (v w : V) → get_elem? vs i ≡ some v → g w ≡ g v → Carries g empty vs (set vs i w)
  carries_set g empty vs i v w at same = record {
    sums = λ f none. total_same (λ u. f (g u)) vs i v w at (ap f same);
    each = λ P none all. each_put (λ u. P (g u)) vs i w all (subst P (sym same) (all i v at));
  }

  pub carries_cut : (g : V → X) (empty : X) (vs : List V) (i : ℕ) (v left right : V) → get_elem? vs i ≡ some v → g left ≡ g v → g right ≡ empty
      → Carries g empty vs (set vs i left ++ right ∷ [])
  carries_cut g empty vs i v left right at same none = record {
    sums = λ f zero. omega (
      arith,
      total_append (λ u. f (g u)) (set vs i left) (right ∷ []),
      total_same (λ u. f (g u)) vs i v left at (ap f same),
      ap f none,
      zero,
    );
    each = λ P base all. each_more (λ u. P (g u)) (set vs i left) right (each_put (λ u. P (g u)) vs i left all (subst P (sym same) (all i v at)))
        (subst P (sym none) base);
  }

  pub carries_join : (g : V → X) (empty : X) (vs : List V) (i j : ℕ) (v other both spent : V) → get_elem? vs i ≡ some v
      → get_elem? (set vs i both) j ≡ some other → g both ≡ g v → g other ≡ empty → g spent ≡ empty → Carries g empty vs (set (set vs i both) j spent)
  carries_join g empty vs i j v other both spent at at' same none none' = record {
    sums = λ f zero. omega (
      arith,
      total_set (λ u. f (g u)) (set vs i both) j other spent at',
      total_same (λ u. f (g u)) vs i v both at (ap f same),
      ap f none,
      ap f none',
    );
    each = λ P base all. each_put (λ u. P (g u)) (set vs i both) j spent (each_put (λ u. P (g u)) vs i both all (subst P (sym same) (all i v at)))
        (subst P (sym none') base);
  }
