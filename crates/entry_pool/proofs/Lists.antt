-- How often a place stands in a list.
use Rattle.std.proofs.Common.{◌≡◌, ◌≢◌, ℕ, ◌+◌, ◌<◌, ◌≤◌, Bool, true, false, cond, List, [], ◌∷◌, ◌++◌, refl, sym, ap, ◌∙◌, arith, ⊎_elim}
use Rattle.std.specs.List.{list_any}
use Rattle.std.specs.Prelude.{◌==◌, ◌||◌, not}
use Rattle.std.proofs.lemmas.Bool.{cases_Bool, cases_eq, cond_both, eq-eqb, eqb-true, false≢true, ne_eqb}
use Rattle.track_rule.specs.Free.{is_among, taken_out, unlisted}
use Rattle.track_rule.specs.Sums.{bit, times, total}

-- a number is itself, and counts one
pub same_bit : (p q : ℕ) → p ≡ q → bit (p == q) ≡ 1
same_bit p q e = ap bit (eq-eqb p q e)

-- two numbers that differ count nothing
pub other_bit : (p q : ℕ) → p ≢ q → bit (p == q) ≡ 0
other_bit p q e = ap bit (ne_eqb p q e)

pub bit_low : (b : Bool) → bit b ≤ 1
bit_low true = omega arith
bit_low false = omega arith

module _ {X : Type 0} (p : X → Bool) where
  -- what passes is counted
  pub total_some : (xs : List X) → list_any p xs ≡ true → 1 ≤ total (λ x. bit (p x)) xs
  total_some [] h = cc
  total_some (x ∷ xs) h =
      elim (p x) as (λ b. (b || list_any p xs) ≡ true → 1 ≤ bit b + total (λ y. bit (p y)) xs) [
        | true ↦ λ e. omega arith
        | false ↦ λ e. omega (arith, total_some xs e)
      ] h

  -- where none passes, none counts
  pub total_none : (xs : List X) → list_any p xs ≡ false → total (λ x. bit (p x)) xs ≡ 0
  total_none [] h = refl
  total_none (x ∷ xs) h =
      elim (p x) as (λ b. (b || list_any p xs) ≡ false → bit b + total (λ y. bit (p y)) xs ≡ 0) [
        | true ↦ λ e. cc
        | false ↦ λ e. omega (arith, total_none xs e)
      ] h

  -- what is counted is there
  pub some_of : (xs : List X) → 1 ≤ total (λ x. bit (p x)) xs → list_any p xs ≡ true
  some_of xs h = ⊎_elim (λ e. e) (λ e. absurd (omega (arith, h, total_none xs e))) (cases_Bool (list_any p xs))

  pub none_of : (xs : List X) → total (λ x. bit (p x)) xs ≡ 0 → list_any p xs ≡ false
  none_of xs h = ⊎_elim (λ e. absurd (omega (arith, h, total_some xs e))) (λ e. e) (cases_Bool (list_any p xs))

-- a list without its first item that passes
module _ {X : Type 0} (p : X → Bool) (rest : List X → List X)
    (step : (x : X) (xs : List X) → rest (x ∷ xs) ≡ cond (p x) xs (x ∷ rest xs)) where
  -- what passes counts c, and the sum falls by it
  pub total_rest : (q : X → ℕ) (c : ℕ) → ((x : X) → p x ≡ true → q x ≡ c) → (xs : List X) → list_any p xs ≡ true
      → total q (rest xs) + c ≡ total q xs
  total_rest q c one [] h = cc
  total_rest q c one (x ∷ xs) h =
      ap (λ ys. total q ys + c) (step x xs)
      ∙ cond_both (p x) xs (x ∷ rest xs) (λ ys. total q ys + c ≡ q x + total q xs)
      (λ e. omega (arith, one x e))
      (λ e. omega (arith, total_rest q c one xs (sym (ap (λ b. b || list_any p xs) e) ∙ h)))

-- a place that was taken out of a list
pub same_taken : (a : ℕ) (list : List ℕ) → is_among a list ≡ true → times a (taken_out a list) + 1 ≡ times a list
same_taken a list h = total_rest (λ q. q == a) (taken_out a) (λ x xs. refl) (λ q. bit (q == a)) 1 (λ x e. ap bit e) list h

pub other_taken : (a p : ℕ) (list : List ℕ) → is_among a list ≡ true → a ≢ p → times p (taken_out a list) ≡ times p list
other_taken a p list h e =
    omega (
      arith,
      total_rest (λ q. q == a) (taken_out a) (λ x xs. refl) (λ q. bit (q == p)) 0
          (λ x passes. other_bit x p (λ k. e (sym (eqb-true x a passes) ∙ k))) list h,
    )

-- what is owed and stands on a list, and what does not
module _ (list : List ℕ) where
  pub unlisted_in : (p : ℕ) (owed : List ℕ) → is_among p list ≡ true → times p (unlisted list owed) ≡ 0
  unlisted_in p [] h = refl
  unlisted_in p (q ∷ qs) h =
      ⊎_elim
      (λ (e : q ≡ p). rw (ap (λ (x : ℕ). is_among x list) e ∙ h) (unlisted_in p qs h))
      (λ (e : q ≢ p).
      cond_both (not (is_among q list)) (q ∷ unlisted list qs) (unlisted list qs) (λ xs. times p xs ≡ 0)
      (λ b. omega (arith, other_bit q p e, unlisted_in p qs h)) (λ b. unlisted_in p qs h))
      (cases_eq q p)

  pub unlisted_out : (p : ℕ) (owed : List ℕ) → is_among p list ≡ false → times p (unlisted list owed) ≡ times p owed
  unlisted_out p [] h = refl
  unlisted_out p (q ∷ qs) h =
      ⊎_elim
      (λ (e : q ≡ p). rw (ap (λ (x : ℕ). is_among x list) e ∙ h) (omega (arith, unlisted_out p qs h)))
      (λ (e : q ≢ p).
      cond_both (not (is_among q list)) (q ∷ unlisted list qs) (unlisted list qs) (λ xs. times p xs ≡ bit (q == p) + times p qs)
      (λ b. omega (arith, unlisted_out p qs h)) (λ b. omega (arith, other_bit q p e, unlisted_out p qs h)))
      (cases_eq q p)

  -- nothing that is owed stands on the list
  pub unlisted_none : (owed : List ℕ) → ((p : ℕ) → 0 < times p owed → is_among p list ≡ false) → unlisted list owed ≡ owed
  unlisted_none [] apart = refl
  unlisted_none (q ∷ qs) apart =
      let out : is_among q list ≡ false = apart q (omega (arith, same_bit q q refl)) in
      let rest : unlisted list qs ≡ qs = unlisted_none qs (λ p some. apart p (omega (arith, some))) in
      rw out (ap (λ xs. q ∷ xs) rest)

-- on a list to which a place was added
pub times_push : (a p : ℕ) (list : List ℕ) → times p (list ++ a ∷ []) ≡ times p list + bit (a == p)
times_push a p [] = omega arith
times_push a p (q ∷ qs) = omega (arith, times_push a p qs)

-- and it is among that one where it was among the other, or is the place
pub among_push : (a p : ℕ) (list : List ℕ) → is_among p (list ++ a ∷ []) ≡ (is_among p list || (a == p || false))
among_push a p [] = refl
among_push a p (q ∷ qs) = ap (λ b. q == p || b) (among_push a p qs) ∙ or_assoc (q == p) (is_among p qs) (a == p || false)
  where
    or_assoc : (x y z : Bool) → (x || (y || z)) ≡ ((x || y) || z)
    or_assoc true y z = refl
    or_assoc false y z = refl

-- two lists that have the same of what is owed
pub unlisted_same : (xs ys owed : List ℕ) → ((p : ℕ) → 0 < times p owed → is_among p xs ≡ is_among p ys) → unlisted xs owed ≡ unlisted ys owed
unlisted_same xs ys [] same = refl
unlisted_same xs ys (q ∷ qs) same =
    let here : is_among q xs ≡ is_among q ys = same q (omega (arith, same_bit q q refl)) in
    let rest : unlisted xs qs ≡ unlisted ys qs = unlisted_same xs ys qs (λ p any. same p (omega (arith, any))) in
    λ k. cond (not (here k)) (q ∷ rest k) (rest k)

-- an owed place that is put on the list, where nothing else is owed that stands there, and nothing twice
pub unlisted_push : (a : ℕ) (list owed : List ℕ) → ((p : ℕ) → times p list + times p owed ≤ 1) → is_among a owed ≡ true
    → unlisted (list ++ a ∷ []) owed ≡ taken_out a owed
unlisted_push a list [] apart there = absurd (false≢true there)
unlisted_push a list (q ∷ qs) apart there =
    let here : is_among q list ≡ false = none_of (λ x. x == q) list (omega (arith, apart q, same_bit q q refl)) in
    ⊎_elim
    (λ (e : q ≡ a).
    let on : is_among q (list ++ a ∷ []) ≡ true =
    among_push a q list ∙ ap (λ b. b || (a == q || false)) here ∙ ap (λ b. b || false) (eq-eqb a q (sym e)) in
    let out : unlisted (list ++ a ∷ []) qs ≡ qs = unlisted_none (list ++ a ∷ []) qs (λ p any.
    none_of (λ x. x == p) (list ++ a ∷ []) (omega (arith, times_push a p list, apart p, any, other_bit a p (λ x. twice p (e ∙ x) any)))) in
    rw (on, eq-eqb q a e) out)
    (λ (e : q ≢ a).
    let off : is_among q (list ++ a ∷ []) ≡ false =
    among_push a q list ∙ ap (λ b. b || (a == q || false)) here ∙ ap (λ b. b || false) (ne_eqb a q (λ x. e (sym x))) in
    let rest : unlisted (list ++ a ∷ []) qs ≡ taken_out a qs =
    unlisted_push a list qs (λ p. omega (arith, apart p)) (sym (ap (λ b. b || is_among a qs) (ne_eqb q a e)) ∙ there) in
    rw (off, ne_eqb q a e) (ap (λ xs. q ∷ xs) rest))
    (cases_eq q a)
  where
    twice : (p : ℕ) → q ≡ p → 0 < times p qs → ⊥
    twice p e any = omega (arith, apart p, same_bit q p e, any)
