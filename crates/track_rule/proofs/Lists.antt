-- How often a place stands in a list, and among references.
use Rattle.std.proofs.Common.{◌≡◌, ◌≢◌, ℕ, ◌+◌, ◌<◌, ◌≤◌, zero, suc, Bool, true, false, cond, Some, None, List, [], ◌∷◌, ◌++◌, length, refl, sym, ap, ◌∙◌, arith, ⊎_elim}
use Rattle.std.specs.List.{list_any}
use Rattle.std.specs.Prelude.{◌==◌, ◌&&◌, ◌||◌, find, if◌then◌else◌, not}
use mathlib.Core.Option.{some, some-injective, some-ne-none}
use lib.ListN.{get_elem?}
use Rattle.std.proofs.lemmas.Bool.{cases_Bool, cases_eq, cond_both, eq-eqb, eqb-true, ne_eqb}
use Rattle.std.proofs.lemmas.Option.{none-some}
use Rattle.history_book.specs.declared.event.Event.{Event}
use Rattle.track_rule.specs.declared.view.Keep.{Keep}
use Rattle.track_rule.specs.Free.{is_among, taken_out, unlisted}
use Rattle.track_rule.specs.References.{AreKept, held_times, is_at, is_for_new, is_held, without, taken_times}
use Rattle.track_rule.specs.Sums.{bit, times, total}
use Rattle.track_rule.proofs.Sums.{total_append}

-- a number is itself, and counts one
pub same_bit : (p q : ℕ) → p ≡ q → bit (p == q) ≡ 1
same_bit p q e = ap bit (eq-eqb p q e)

-- two numbers that differ count nothing
pub other_bit : (p q : ℕ) → p ≢ q → bit (p == q) ≡ 0
other_bit p q e = ap bit (ne_eqb p q e)

pub bit_low : (b : Bool) → bit b ≤ 1
bit_low true = omega arith
bit_low false = omega arith

-- two tests count no more than the first, and nothing where the second fails
pub bit_both : (b c : Bool) → bit (b && c) ≤ bit b
bit_both true c = bit_low c
bit_both false c = omega arith

pub bit_fails : (b : Bool) → bit (b && false) ≡ 0
bit_fails true = refl
bit_fails false = refl

module _ {X : Type 0} (p : X → Bool) where
  -- what passes is counted
  pub total_some : (xs : List X) → list_any p xs ≡ true → 1 ≤ total (λ x. bit (p x)) xs
  total_some [] h = cc
  total_some (x ∷ xs) h =
      elim (p x) as (λ b. (b || list_any p xs) ≡ true → 1 ≤ bit b + total (λ y. bit (p y)) xs) [
        | true ↦ λ e. omega arith
        | false ↦ λ e. omega (arith, total_some xs e)
      ] h

  -- where none passes, none counts
  pub total_none : (xs : List X) → list_any p xs ≡ false → total (λ x. bit (p x)) xs ≡ 0
  total_none [] h = refl
  total_none (x ∷ xs) h =
      elim (p x) as (λ b. (b || list_any p xs) ≡ false → bit b + total (λ y. bit (p y)) xs ≡ 0) [
        | true ↦ λ e. cc
        | false ↦ λ e. omega (arith, total_none xs e)
      ] h

  -- what is counted is there
  pub some_of : (xs : List X) → 1 ≤ total (λ x. bit (p x)) xs → list_any p xs ≡ true
  some_of xs h = ⊎_elim (λ e. e) (λ e. absurd (omega (arith, h, total_none xs e))) (cases_Bool (list_any p xs))

  pub none_of : (xs : List X) → total (λ x. bit (p x)) xs ≡ 0 → list_any p xs ≡ false
  none_of xs h = ⊎_elim (λ e. absurd (omega (arith, h, total_some xs e))) (λ e. e) (cases_Bool (list_any p xs))

  -- no more are counted than there are
  pub total_long : (xs : List X) → total (λ x. bit (p x)) xs ≤ length xs
  total_long [] = omega arith
  total_long (x ∷ xs) = omega (arith, bit_low (p x), total_long xs)

-- a list without its first item that passes
module _ {X : Type 0} (p : X → Bool) (rest : List X → List X)
    (step : (x : X) (xs : List X) → rest (x ∷ xs) ≡ cond (p x) xs (x ∷ rest xs)) where
  -- what passes counts c, and the sum falls by it
  pub total_rest : (q : X → ℕ) (c : ℕ) → ((x : X) → p x ≡ true → q x ≡ c) → (xs : List X) → list_any p xs ≡ true
      → total q (rest xs) + c ≡ total q xs
  total_rest q c one [] h = cc
  total_rest q c one (x ∷ xs) h =
      ap (λ ys. total q ys + c) (step x xs)
      ∙ cond_both (p x) xs (x ∷ rest xs) (λ ys. total q ys + c ≡ q x + total q xs)
      (λ e. omega (arith, one x e))
      (λ e. omega (arith, total_rest q c one xs (sym (ap (λ b. b || list_any p xs) e) ∙ h)))

  -- the list is one shorter
  pub length_rest : (xs : List X) → list_any p xs ≡ true → length (rest xs) + 1 ≡ length xs
  length_rest [] h = cc
  length_rest (x ∷ xs) h =
      ap (λ ys. length ys + 1) (step x xs)
      ∙ cond_both (p x) xs (x ∷ rest xs) (λ ys. length ys + 1 ≡ suc (length xs))
      (λ e. omega arith)
      (λ e. omega (arith, length_rest xs (sym (ap (λ b. b || list_any p xs) e) ∙ h)))

-- a reference that was given up, at its place and at another one
pub same_without : (a : ℕ) (held : List Keep) → is_held a held ≡ true → held_times a (without a held) + 1 ≡ held_times a held
same_without a held h = total_rest (is_at a) (without a) (λ x xs. refl) (λ k. bit (is_at a k)) 1 (λ x e. ap bit e) held h

pub other_without : (a p : ℕ) (held : List Keep) → is_held a held ≡ true → a ≢ p → held_times p (without a held) ≡ held_times p held
other_without a p held h e =
    omega (
      arith,
      total_rest (is_at a) (without a) (λ x xs. refl) (λ k. bit (is_at p k)) 0
          (λ x passes. other_bit x.place p (λ k. e (sym (eqb-true x.place a passes) ∙ k))) held h,
    )

pub length_without : (a : ℕ) (held : List Keep) → is_held a held ≡ true → length (without a held) + 1 ≡ length held
length_without a held h = length_rest (is_at a) (without a) (λ x xs. refl) held h

-- what is taken is held
pub takes_held : (a : ℕ) (held : List Keep) → total (λ k. bit (is_at a k && is_for_new k.purpose)) held ≤ held_times a held
takes_held a [] = omega arith
takes_held a (k ∷ ks) = omega (arith, bit_both (is_at a k) (is_for_new k.purpose), takes_held a ks)

-- a reference that is not for a new entry is no taking, and one of another place is none here
pub takes_testing : (a p : ℕ) → bit (p == a && false) ≡ 0
takes_testing a p = bit_fails (p == a)

pub takes_other : (a p : ℕ) (c : Bool) → p ≢ a → bit (p == a && c) ≡ 0
takes_other a p c other = ap (λ (b : Bool). bit (b && c)) (ne_eqb p a other)

-- without a reference no more is taken
pub takes_without : (a p : ℕ) (held : List Keep)
    → total (λ k. bit (is_at a k && is_for_new k.purpose)) (without p held) ≤ total (λ k. bit (is_at a k && is_for_new k.purpose)) held
takes_without a p [] = omega arith
takes_without a p (k ∷ ks) =
    cond_both (is_at p k) ks (k ∷ without p ks)
    (λ ys. total (λ x. bit (is_at a x && is_for_new x.purpose)) ys ≤ bit (is_at a k && is_for_new k.purpose) + total (λ x. bit (is_at a x && is_for_new x.purpose)) ks)
    (λ e. omega arith) (λ e. omega (arith, takes_without a p ks))

-- and the others are for what they were
-- another place is taken as often
pub taken_else : (a p : ℕ) (held : List Keep) → is_held a held ≡ true → p ≢ a → taken_times p (without a held) ≡ taken_times p held
taken_else a p held h e =
    omega (
      arith,
      total_rest (is_at a) (without a) (λ x xs. refl) (λ k. bit (is_at p k && is_for_new k.purpose)) 0
          (λ k at. takes_none k (ne_eqb k.place p (λ x. e (sym x ∙ eqb-true k.place a at)))) held h,
    )
  where
    takes_none : (k : Keep) → is_at p k ≡ false → bit (is_at p k && is_for_new k.purpose) ≡ 0
    takes_none k none = ap (λ (b : Bool). bit (b && is_for_new k.purpose)) none

pub kept_without : (log : List Event) (p : ℕ) (held : List Keep) → AreKept log held → AreKept log (without p held)
kept_without log p [] h = tt
kept_without log p (k ∷ ks) h = cond_both (is_at p k) ks (k ∷ without p ks) (AreKept log) (λ e. h.1) (λ e. (h.0, kept_without log p ks h.1))

-- a place that was taken out of a list
pub same_taken : (a : ℕ) (list : List ℕ) → is_among a list ≡ true → times a (taken_out a list) + 1 ≡ times a list
same_taken a list h = total_rest (λ q. q == a) (taken_out a) (λ x xs. refl) (λ q. bit (q == a)) 1 (λ x e. ap bit e) list h

pub other_taken : (a p : ℕ) (list : List ℕ) → is_among a list ≡ true → a ≢ p → times p (taken_out a list) ≡ times p list
other_taken a p list h e =
    omega (
      arith,
      total_rest (λ q. q == a) (taken_out a) (λ x xs. refl) (λ q. bit (q == p)) 0
          (λ x passes. other_bit x p (λ k. e (sym (eqb-true x a passes) ∙ k))) list h,
    )

-- what is owed and stands on a list, and what does not
module _ (list : List ℕ) where
  pub unlisted_in : (p : ℕ) (owed : List ℕ) → is_among p list ≡ true → times p (unlisted list owed) ≡ 0
  unlisted_in p [] h = refl
  unlisted_in p (q ∷ qs) h =
      ⊎_elim
      (λ (e : q ≡ p). rw (ap (λ (x : ℕ). is_among x list) e ∙ h) (unlisted_in p qs h))
      (λ (e : q ≢ p).
      cond_both (not (is_among q list)) (q ∷ unlisted list qs) (unlisted list qs) (λ xs. times p xs ≡ 0)
      (λ b. omega (arith, other_bit q p e, unlisted_in p qs h)) (λ b. unlisted_in p qs h))
      (cases_eq q p)

  pub unlisted_out : (p : ℕ) (owed : List ℕ) → is_among p list ≡ false → times p (unlisted list owed) ≡ times p owed
  unlisted_out p [] h = refl
  unlisted_out p (q ∷ qs) h =
      ⊎_elim
      (λ (e : q ≡ p). rw (ap (λ (x : ℕ). is_among x list) e ∙ h) (omega (arith, unlisted_out p qs h)))
      (λ (e : q ≢ p).
      cond_both (not (is_among q list)) (q ∷ unlisted list qs) (unlisted list qs) (λ xs. times p xs ≡ bit (q == p) + times p qs)
      (λ b. omega (arith, unlisted_out p qs h)) (λ b. omega (arith, other_bit q p e, unlisted_out p qs h)))
      (cases_eq q p)

  pub length_unlisted : (owed : List ℕ) → length (unlisted list owed) ≤ length owed
  length_unlisted [] = omega arith
  length_unlisted (q ∷ qs) =
      cond_both (not (is_among q list)) (q ∷ unlisted list qs) (unlisted list qs) (λ xs. length xs ≤ suc (length qs))
      (λ b. omega (arith, length_unlisted qs)) (λ b. omega (arith, length_unlisted qs))

  -- nothing that is owed stands on the list
  pub unlisted_none : (owed : List ℕ) → ((p : ℕ) → 0 < times p owed → is_among p list ≡ false) → unlisted list owed ≡ owed
  unlisted_none [] apart = refl
  unlisted_none (q ∷ qs) apart =
      let out : is_among q list ≡ false = apart q (omega (arith, same_bit q q refl)) in
      let rest : unlisted list qs ≡ qs = unlisted_none qs (λ p some. apart p (omega (arith, some))) in
      rw out (ap (λ xs. q ∷ xs) rest)

-- without a place, a list has the others as often
pub unlisted_else : (p q : ℕ) (list : List ℕ) → q ≢ p → times q (unlisted (p ∷ []) list) ≡ times q list
unlisted_else p q list other = unlisted_out (p ∷ []) q list (ap (λ b. b || false) (ne_eqb p q (λ x. other (sym x))))

pub unlisted_less : (p q : ℕ) (list : List ℕ) → 0 < times q (unlisted (p ∷ []) list) → (0 < times q list) × (q ≢ p)
unlisted_less p q list some_left =
    ⊎_elim
    (λ (e : q ≡ p). absurd (omega (arith, some_left, unlisted_in (p ∷ []) q list (ap (λ b. b || false) (eq-eqb p q (sym e))))))
    (λ (e : q ≢ p). (omega (arith, some_left, unlisted_else p q list e), e))
    (cases_eq q p)

pub unlisted_low : (p q : ℕ) (list : List ℕ) → times q (unlisted (p ∷ []) list) ≤ times q list
unlisted_low p q list =
    ⊎_elim
    (λ (e : q ≡ p). omega (arith, unlisted_in (p ∷ []) q list (ap (λ b. b || false) (eq-eqb p q (sym e)))))
    (λ (e : q ≢ p). omega (arith, unlisted_else p q list e))
    (cases_eq q p)

-- on a list to which a place was added
pub times_push : (a p : ℕ) (list : List ℕ) → times p (list ++ a ∷ []) ≡ times p list + bit (a == p)
times_push a p list = omega (arith, total_append (λ q. bit (q == p)) list (a ∷ []))

-- an item that is found is there, and passes the test
module _ {X : Type 0} (q : X → Bool) where
  pub find_there : (xs : List X) (x : X) → find q xs ≡ Some x → (j : ℕ) × (get_elem? xs j ≡ some x) × (q x ≡ true)
  find_there [] x e = cc
  find_there (y ∷ ys) x e =
      ⊎_elim
      (λ (t : q y ≡ true).
      let same : y ≡ x = found_is y x (sym (ap (λ (b : Bool). if b then Some y else find q ys) t) ∙ e) in
      (0, ap some same, sym (ap q same) ∙ t))
      (λ (t : q y ≡ false).
      let rest = find_there ys x (sym (ap (λ (b : Bool). if b then Some y else find q ys) t) ∙ e) in
      (suc rest.0, rest.1, rest.2))
      (cases_Bool (q y))
    where
      found_is : (a b : X) → Some a ≡ Some b → a ≡ b
      found_is a b k = cc

-- an item that counts is there
module _ {X : Type 0} (q : X → Bool) where
  pub counted_there : (xs : List X) → 0 < total (λ x. bit (q x)) xs → (j : ℕ) × (x : X) × (get_elem? xs j ≡ some x) × (q x ≡ true)
  counted_there [] any = absurd (omega (arith, any))
  counted_there (y ∷ ys) any =
      ⊎_elim
      (λ (t : q y ≡ true). (0, y, refl, t))
      (λ (t : q y ≡ false). let rest = counted_there ys (omega (arith, any, ap bit t)) in (suc rest.0, rest.1, rest.2, rest.3))
      (cases_Bool (q y))

-- where an item that passes is there, one is found
module _ {X : Type 0} (q : X → Bool) where
  pub find_none : (xs : List X) (j : ℕ) (x : X) → get_elem? xs j ≡ some x → q x ≡ true → find q xs ≡ None → ⊥
  find_none [] j x at passes e = absurd (some-ne-none x (sym at))
  find_none (y ∷ ys) zero x at passes e =
      let is : Some y ≡ None =
      sym (ap (λ (b : Bool). if b then Some y else find q ys) (ap q (some-injective y x at) ∙ passes)) ∙ e in
      none-some y (sym is)
  find_none (y ∷ ys) (suc j) x at passes e =
      ⊎_elim
      (λ (t : q y ≡ true). let is : Some y ≡ None = sym (ap (λ (b : Bool). if b then Some y else find q ys) t) ∙ e in none-some y (sym is))
      (λ (t : q y ≡ false). find_none ys j x at passes (sym (ap (λ (b : Bool). if b then Some y else find q ys) t) ∙ e))
      (cases_Bool (q y))
