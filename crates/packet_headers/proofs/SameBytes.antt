-- Two places from which on so many bytes are the same.
use Rattle.std.proofs.Common.{◌≡◌, ℕ, ◌+◌, ◌*◌, ◌<◌, ◌≤◌, Bool, true, false, cond, List, take, drop, refl, sym, ◌∙◌, subst, arith}
use Rattle.std.proofs.lemmas.List.{get_or-take, get_or-drop}
use Rattle.std.specs.Prelude.{slice_index}
use Rattle.packet_headers.specs.ByteOrder.{big_u16_at, big_u32_at}

pub record Same (bytes other : List ℕ) (at place count : ℕ) : Type 0 where
  pub each : (i j k : ℕ) → i ≡ at + k → j ≡ place + k → k < count → slice_index bytes i ≡ slice_index other j

-- further on, as far as they reach
pub same_behind : (bytes other : List ℕ) (at place count : ℕ) → Same bytes other at place count
    → (i j k rest : ℕ) → i ≡ at + k → j ≡ place + k → k + rest ≤ count → Same bytes other i j rest
same_behind bytes other at place count same i j k rest here there fits = record {
  each = λ x y n from to below. same.each x y (k + n) (omega arith) (omega arith) (omega arith);
}

-- the two bytes at a place are the same number
pub u16_same : (bytes other : List ℕ) (at place count : ℕ) → Same bytes other at place count
    → (k : ℕ) → k + 2 ≤ count → big_u16_at bytes (at + k) ≡ big_u16_at other (place + k)
u16_same bytes other at place count same k fits =
    let high = same.each (at + k) (place + k) k refl refl (omega arith) in
    let low = same.each (at + k + 1) (place + k + 1) (k + 1) (omega arith) (omega arith) (omega arith) in
    λ i. 256 * high i + low i

-- and so are four bytes
pub u32_same : (bytes other : List ℕ) (at place count : ℕ) → Same bytes other at place count
    → (k : ℕ) → k + 4 ≤ count → big_u32_at bytes (at + k) ≡ big_u32_at other (place + k)
u32_same bytes other at place count same k fits =
    let high = u16_same bytes other at place count same k (omega arith) in
    let rest = same_behind bytes other at place count same (at + k) (place + k) k 4 refl refl (omega arith) in
    let low = u16_same bytes other (at + k) (place + k) 4 rest 2 (omega arith) in
    λ i. 65536 * high i + low i

-- a part of a list begins at its place in the list
pub same_part : (bytes : List ℕ) (start count : ℕ) → Same bytes (take count (drop start bytes)) start 0 count
same_part bytes start count = record {
  each = λ i j k from to below.
      let at : j ≡ k = omega arith in
      subst (λ (x : ℕ). slice_index bytes x ≡ slice_index (take count (drop start bytes)) j) (sym from)
      (subst (λ (x : ℕ). slice_index bytes (start + k) ≡ slice_index (take count (drop start bytes)) x) (sym at)
      (sym (get_or-take count (drop start bytes) k 0 below ∙ get_or-drop start bytes k 0)));
}

-- what one test chooses on both sides, where the other side is seen through a function
pub chosen : {X Y : Type 0} (f : Y → X) (test like : Bool) (x y : X) (z w : Y) → test ≡ like
    → (test ≡ true → x ≡ f z) → (test ≡ false → y ≡ f w) → cond test x y ≡ f (cond like z w)
chosen f true true x y z w same here there = here refl
chosen f true false x y z w same here there = cc
chosen f false true x y z w same here there = cc
chosen f false false x y z w same here there = there refl

-- tests that count only where a first one holds
pub guarded : (tests others : Bool → Bool) (guard like : Bool) → guard ≡ like → tests false ≡ others false
    → (guard ≡ true → tests true ≡ others true) → tests guard ≡ others like
guarded tests others true true same off on = on refl
guarded tests others true false same off on = cc
guarded tests others false true same off on = cc
guarded tests others false false same off on = off

-- the first of some tests that hold
pub first_holds : (tests : Bool → Bool) (guard : Bool) → tests false ≡ false → tests guard ≡ true → guard ≡ true
first_holds tests true without h = refl
first_holds tests false without h = cc
