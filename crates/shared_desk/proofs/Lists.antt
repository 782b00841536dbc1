-- Lists, their tests, and what is left of them without one item.
use Rattle.std.specs.List.{All, AllByRecursion, AllPairs, list_any, slice_get}
use Rattle.std.specs.Prelude.{◌==◌, ◌||◌, not, filter}
use Rattle.std.proofs.Common.{◌≡◌, ◌≢◌, ℕ, ◌+◌, ◌≤◌, zero, suc, Bool, true, false, cond, Some, List, [], ◌∷◌, ◌++◌, length, refl, sym, ap, subst, ◌∙◌, arith, ⊎_elim}
use Rattle.std.proofs.lemmas.Bool.{cases_Bool, cases_eq, cond_both, eq-eqb, false_from_ne_true, ne_eqb, or_from, or_left, or_parts, true≢false}
use Rattle.std.proofs.lemmas.List.Elements.{All-cons}
use Rattle.std.proofs.lemmas.List.Kept.{AllPairs-cons}
use Rattle.track_rule.specs.Free.{is_among, unlisted}
use Rattle.track_rule.specs.Sums.{bit, total}

-- what stands at a place of a list stands there when the list goes on
pub get_append : {X : Type 0} (xs ys : List X) (i : ℕ) (x : X) → slice_get xs i ≡ Some x → slice_get (xs ++ ys) i ≡ Some x
get_append [] ys i x h = cc
get_append (y ∷ xs) ys zero x h = h
get_append (y ∷ xs) ys (suc i) x h = get_append xs ys i x h

-- a number is itself, and counts one; another one counts none
pub same_bit : (p q : ℕ) → p ≡ q → bit (p == q) ≡ 1
same_bit p q e = ap bit (eq-eqb p q e)

pub other_bit : (p q : ℕ) → p ≢ q → bit (p == q) ≡ 0
other_bit p q e = ap bit (ne_eqb p q e)

-- a list of which no number passes is empty
pub nothing_among : (places : List ℕ) → ((p : ℕ) → is_among p places ≡ false) → places ≡ []
nothing_among [] none = refl
nothing_among (p ∷ ps) none = absurd (true≢false (sym (or_left (p == p) (is_among p ps) (eq-eqb p p refl)) ∙ none p))

module _ {X : Type 0} (p : X → Bool) where
  -- what passes is counted, and where none passes none counts
  pub total_some : (xs : List X) → list_any p xs ≡ true → 1 ≤ total (λ x. bit (p x)) xs
  total_some [] h = cc
  total_some (x ∷ xs) h =
      elim (p x) as (λ b. (b || list_any p xs) ≡ true → 1 ≤ bit b + total (λ y. bit (p y)) xs) [
        | true ↦ λ e. omega arith
        | false ↦ λ e. omega (arith, total_some xs e)
      ] h

  pub total_none : (xs : List X) → list_any p xs ≡ false → total (λ x. bit (p x)) xs ≡ 0
  total_none [] h = refl
  total_none (x ∷ xs) h =
      elim (p x) as (λ b. (b || list_any p xs) ≡ false → bit b + total (λ y. bit (p y)) xs ≡ 0) [
        | true ↦ λ e. cc
        | false ↦ λ e. omega (arith, total_none xs e)
      ] h

  -- what is counted is there
  pub some_of : (xs : List X) → 1 ≤ total (λ x. bit (p x)) xs → list_any p xs ≡ true
  some_of xs h = ⊎_elim (λ e. e) (λ e. absurd (omega (arith, h, total_none xs e))) (cases_Bool (list_any p xs))

  pub none_of : (xs : List X) → total (λ x. bit (p x)) xs ≡ 0 → list_any p xs ≡ false
  none_of xs h = ⊎_elim (λ e. absurd (omega (arith, h, total_some xs e))) (λ e. e) (cases_Bool (list_any p xs))

  -- where none passes, each fails
  pub none_each : (xs : List X) → list_any p xs ≡ false → AllByRecursion (λ x. p x ≡ false) xs
  none_each [] h = tt
  none_each (x ∷ xs) h = let parts = or_parts (p x) (list_any p xs) h in (parts.0, none_each xs parts.1)

-- a test that passes less
pub any_less : {X : Type 0} (test less : X → Bool) → ((x : X) → test x ≡ false → less x ≡ false) → (xs : List X) → list_any test xs ≡ false
    → list_any less xs ≡ false
any_less test less fewer [] none = refl
any_less test less fewer (x ∷ xs) none =
    let parts = or_parts (test x) (list_any test xs) none in
    or_from (less x) (list_any less xs) (fewer x parts.0) (any_less test less fewer xs parts.1)

-- a fact of each item gives another one of each
pub each_map : {X : Type 0} (P Q : X → Type 0) → ((x : X) → P x → Q x) → (xs : List X) → AllByRecursion P xs → AllByRecursion Q xs
each_map P Q f [] h = tt
each_map P Q f (x ∷ xs) h = (f x h.0, each_map P Q f xs h.1)

-- of any two of a longer list
pub pairs_first : {X : Type 0} (R : X → X → Type 0) (x : X) (xs : List X) → AllPairs R (x ∷ xs) → All (R x) xs
pairs_first R x xs h = λ i d short. h 0 (suc i) d (omega arith) (omega (arith, short))

pub pairs_rest : {X : Type 0} (R : X → X → Type 0) (x : X) (xs : List X) → AllPairs R (x ∷ xs) → AllPairs R xs
pairs_rest R x xs h = λ i j d before short. h (suc i) (suc j) d (omega (arith, before)) (omega (arith, short))

pub all_first : {X : Type 0} (P : X → Type 0) (x : X) (xs : List X) → All P (x ∷ xs) → P x
all_first P x xs h = h 0 x (omega arith)

pub all_rest : {X : Type 0} (P : X → Type 0) (x : X) (xs : List X) → All P (x ∷ xs) → All P xs
all_rest P x xs h = λ i d short. h (suc i) d (omega (arith, short))

-- A list without its first item that passes a test.
module _ {X : Type 0} (test : X → Bool) (less : List X → List X) (none : less [] ≡ [])
    (step : (x : X) (xs : List X) → less (x ∷ xs) ≡ cond (test x) xs (x ∷ less xs)) where
  pub all_less : (P : X → Type 0) (xs : List X) → All P xs → All P (less xs)
  all_less P [] h = subst (All P) (sym none) h
  all_less P (x ∷ xs) h =
      subst (All P) (sym (step x xs)) (cond_both (test x) xs (x ∷ less xs) (All P) (λ e. all_rest P x xs h)
      (λ e. All-cons P x (less xs) (all_first P x xs h) (all_less P xs (all_rest P x xs h))))

  pub each_less : (P : X → Type 0) (xs : List X) → AllByRecursion P xs → AllByRecursion P (less xs)
  each_less P [] h = subst (AllByRecursion P) (sym none) h
  each_less P (x ∷ xs) h =
      subst (AllByRecursion P) (sym (step x xs)) (cond_both (test x) xs (x ∷ less xs) (AllByRecursion P) (λ e. h.1)
      (λ e. (h.0, each_less P xs h.1)))

  pub pairs_less : (R : X → X → Type 0) (xs : List X) → AllPairs R xs → AllPairs R (less xs)
  pairs_less R [] h = subst (AllPairs R) (sym none) h
  pairs_less R (x ∷ xs) h =
      subst (AllPairs R) (sym (step x xs)) (cond_both (test x) xs (x ∷ less xs) (AllPairs R) (λ e. pairs_rest R x xs h)
      (λ e. AllPairs-cons R x (less xs) (all_less (R x) xs (pairs_first R x xs h)) (pairs_less R xs (pairs_rest R x xs h))))

  pub length_less : (xs : List X) → list_any test xs ≡ true → length (less xs) + 1 ≡ length xs
  length_less [] h = cc
  length_less (x ∷ xs) h =
      ap (λ ys. length ys + 1) (step x xs)
      ∙ cond_both (test x) xs (x ∷ less xs) (λ ys. length ys + 1 ≡ length (x ∷ xs)) (λ e. omega arith)
      (λ e. omega (arith, length_less xs (sym (ap (λ b. b || list_any test xs) e) ∙ h)))

  -- a test that none passed none passes then
  pub none_less : (other : X → Bool) (xs : List X) → list_any other xs ≡ false → list_any other (less xs) ≡ false
  none_less other [] h = ap (list_any other) none
  none_less other (x ∷ xs) h =
      let parts = or_parts (other x) (list_any other xs) h in
      ap (list_any other) (step x xs)
      ∙ cond_both (test x) xs (x ∷ less xs) (λ ys. list_any other ys ≡ false) (λ e. parts.1)
      (λ e. or_from (other x) (list_any other (less xs)) parts.0 (none_less other xs parts.1))

  -- a test that the item fails passes as before
  pub others_less : (other : X → Bool) → ((x : X) → test x ≡ true → other x ≡ false) → (xs : List X) → list_any other (less xs) ≡ list_any other xs
  others_less other fails [] = ap (list_any other) none
  others_less other fails (x ∷ xs) =
      ap (list_any other) (step x xs)
      ∙ cond_both (test x) xs (x ∷ less xs) (λ ys. list_any other ys ≡ (other x || list_any other xs))
      (λ e. sym (ap (λ b. b || list_any other xs) (fails x e)))
      (λ e. ap (λ b. other x || b) (others_less other fails xs))

  -- what the item counts, the sum falls by
  pub total_less : (weight : X → ℕ) (c : ℕ) → ((x : X) → test x ≡ true → weight x ≡ c) → (xs : List X) → list_any test xs ≡ true
      → total weight (less xs) + c ≡ total weight xs
  total_less weight c one [] h = cc
  total_less weight c one (x ∷ xs) h =
      ap (λ ys. total weight ys + c) (step x xs)
      ∙ cond_both (test x) xs (x ∷ less xs) (λ ys. total weight ys + c ≡ weight x + total weight xs)
      (λ e. omega (arith, one x e))
      (λ e. omega (arith, total_less weight c one xs (sym (ap (λ b. b || list_any test xs) e) ∙ h)))

-- a list without one place
pub among_others : (p q : ℕ) (places : List ℕ) → q ≢ p → is_among p (unlisted (q ∷ []) places) ≡ is_among p places
among_others p q [] other = refl
among_others p q (r ∷ rs) other =
    cond_both (not ((q == r) || false)) (r ∷ unlisted (q ∷ []) rs) (unlisted (q ∷ []) rs) (λ xs. is_among p xs ≡ (r == p || is_among p rs))
    (λ e. ap (λ b. r == p || b) (among_others p q rs other))
    (λ e. among_others p q rs other ∙ sym (ap (λ b. b || is_among p rs) (ne_eqb r p (λ k. other (is_this e ∙ k)))))
  where
    is_this : not ((q == r) || false) ≡ false → q ≡ r
    is_this e = ⊎_elim (λ k. k) (λ k. absurd (true≢false (sym (ap (λ b. not (b || false)) (ne_eqb q r k)) ∙ e))) (cases_eq q r)

pub among_gone : (p : ℕ) (places : List ℕ) → is_among p (unlisted (p ∷ []) places) ≡ false
among_gone p [] = refl
among_gone p (r ∷ rs) =
    cond_both (not ((p == r) || false)) (r ∷ unlisted (p ∷ []) rs) (unlisted (p ∷ []) rs) (λ xs. is_among p xs ≡ false)
    (λ e. or_from (r == p) (is_among p (unlisted (p ∷ []) rs)) (ne_eqb r p (λ k. absurd (true≢false (sym e ∙ ap (λ b. not (b || false)) (eq-eqb p r (sym k))))))
    (among_gone p rs)) (λ e. among_gone p rs)

-- a filter keeps the first that pass another test, where it keeps all of these
pub any_filter : {X : Type 0} (test keep : X → Bool) → ((x : X) → test x ≡ true → keep x ≡ true) → (xs : List X)
    → list_any test (filter keep xs) ≡ list_any test xs
any_filter test keep kept [] = refl
any_filter test keep kept (x ∷ xs) =
    cond_both (keep x) (x ∷ filter keep xs) (filter keep xs) (λ ys. list_any test ys ≡ (test x || list_any test xs))
    (λ e. ap (λ b. test x || b) (any_filter test keep kept xs))
    (λ e. any_filter test keep kept xs
    ∙ sym (ap (λ b. b || list_any test xs) (false_from_ne_true (test x) (λ k. true≢false (sym (kept x k) ∙ e)))))

pub none_filter : {X : Type 0} (test keep : X → Bool) → ((x : X) → keep x ≡ true → test x ≡ false) → (xs : List X)
    → list_any test (filter keep xs) ≡ false
none_filter test keep out [] = refl
none_filter test keep out (x ∷ xs) =
    cond_both (keep x) (x ∷ filter keep xs) (filter keep xs) (λ ys. list_any test ys ≡ false)
    (λ e. or_from (test x) (list_any test (filter keep xs)) (out x e) (none_filter test keep out xs)) (λ e. none_filter test keep out xs)
