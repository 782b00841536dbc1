-- In every state of a legal history there are no more expectations than there is room for.
use Rattle.std.proofs.Common.{◌≡◌, ℕ, suc, zero, ◌+◌, ◌<◌, ◌≤◌, Bool, true, false, cond, List, [], ◌∷◌, length, refl, Option, Some, None, arith, take, length-append}
use Rattle.std.specs.List.{filter, find}
use Rattle.std.specs.Prelude.{nat_lt, not, ◌&&◌}
use Rattle.std.proofs.lemmas.Bool.{ltb-true}
use Rattle.expect_table.specs.Expectations.{add_outcome, outcome_of_older, outcome_of_rival, without_master}
use Rattle.expect_table.specs.Match.{has_id, is_of, is_rival}
use Rattle.expect_table.specs.declared.expectation.Expectation.{Expectation}
use Rattle.expect_table.specs.declared.table.AddOutcome.TheVariants.{Added, Full}
use Rattle.history_book.specs.declared.event.Event.{Event}
use Rattle.history_book.specs.declared.event.Event.TheVariants.{Confirm, Touch, Destroy, Expect, Claim, Unexpect}
use Rattle.history_book.specs.declared.sizes.Sizes.{Sizes}
use Rattle.history_book.specs.History.{after, is_legal, is_legal_from, run}
use Rattle.history_book.specs.Legality.{is_added, may_happen}
use Rattle.history_book.specs.State.{State, empty_state, next}

fewer : (p : Expectation → Bool) (es : List Expectation) → length (filter (λ e. not (p e)) es) ≤ length es
fewer p [] = omega arith
fewer p (e ∷ es) =
    elim (p e) as (λ b. length (cond (not b) (e ∷ filter (λ x. not (p x)) es) (filter (λ x. not (p x)) es)) ≤ suc (length es)) [
      | true ↦ omega (arith, fewer p es)
      | false ↦ omega (arith, fewer p es)
    ]

one_fewer : (p : Expectation → Bool) (es : List Expectation) (found : Expectation) → find p es ≡ Some found
    → length (filter (λ e. not (p e)) es) < length es
one_fewer p [] found h = cc
one_fewer p (e ∷ es) found h =
    elim (p e) as (λ b. cond b (Some e) (find p es) ≡ Some found
    → length (cond (not b) (e ∷ filter (λ x. not (p x)) es) (filter (λ x. not (p x)) es)) < suc (length es)) [
      | true ↦ λ is. omega (arith, fewer p es)
      | false ↦ λ is. omega (arith, one_fewer p es found is)
    ] h

-- where one is added, there is room for it
room_left : (room : ℕ) (es : List Expectation) (e : Expectation) (moment : ℕ) (older : Option ℕ) → length es ≤ room
    → is_added (add_outcome room es e moment) older ≡ true → length (without_master e.master es) < room
room_left room es e moment replaced within added = by_rival (find (is_rival e moment) es) added
  where
    by_room : (b : Bool) → nat_lt (length es) room ≡ b → is_added (cond b (Added None) Full) replaced ≡ true
        → length (without_master e.master es) < room
    by_room true is h = omega (arith, ltb-true (length es) room is, fewer (is_of e.master) es)
    by_room false is h = cc

    by_older : (o : Option Expectation) → find (is_of e.master) es ≡ o
        → is_added (outcome_of_older o (nat_lt (length es) room)) replaced ≡ true → length (without_master e.master es) < room
    by_older (Some older) is h = omega (arith, within, one_fewer (is_of e.master) es older is)
    by_older None is h = by_room (nat_lt (length es) room) refl h

    by_rival : (o : Option Expectation)
        → is_added (outcome_of_rival o (outcome_of_older (find (is_of e.master) es) (nat_lt (length es) room))) replaced ≡ true
        → length (without_master e.master es) < room
    by_rival (Some rival) h = cc
    by_rival None h = by_older (find (is_of e.master) es) refl h

one_step : (sizes : Sizes) (s : State) (n : ℕ) (e : Event) → may_happen sizes s n e ≡ true → length s.expects ≤ sizes.expectations
    → length (next s e).expects ≤ sizes.expectations
one_step sizes s n (Confirm r) may within = within
one_step sizes s n (Touch id d segment moment part) may within = within
one_step sizes s n (Destroy id why) may within = omega (arith, within, fewer (is_of id) s.expects)
one_step sizes s n (Expect e replaced moment) may within =
    omega (
      arith,
      length-append (without_master e.master s.expects) (e ∷ []),
      room_left sizes.expectations s.expects e moment replaced within (last_of _ _ may),
    )
  where
    last_of : (a b : Bool) → (a && b) ≡ true → b ≡ true
    last_of true b h = h
    last_of false b h = cc
one_step sizes s n (Claim id master t moment) may within = omega (arith, within, fewer (has_id id) s.expects)
one_step sizes s n (Unexpect id moment) may within = omega (arith, within, fewer (has_id id) s.expects)

run_bounded : (sizes : Sizes) (s : State) (n : ℕ) (es : List Event) (p : ℕ) → is_legal_from sizes s n es ≡ true
    → length s.expects ≤ sizes.expectations → length (run s (take p es)).expects ≤ sizes.expectations
run_bounded sizes s n es zero legal within = within
run_bounded sizes s n [] (suc p) legal within = within
run_bounded sizes s n (e ∷ es) (suc p) legal within =
    run_bounded sizes (next s e) (n + 1) es p (last_of (may_happen sizes s n e) (is_legal_from sizes (next s e) (n + 1) es) legal)
    (one_step sizes s n e (first_of (may_happen sizes s n e) (is_legal_from sizes (next s e) (n + 1) es) legal) within)
  where
    last_of : (a b : Bool) → (a && b) ≡ true → b ≡ true
    last_of true b h = h
    last_of false b h = cc

    first_of : (a b : Bool) → (a && b) ≡ true → a ≡ true
    first_of true b h = refl
    first_of false b h = cc

pub expects_bounded : (sizes : Sizes) (log : List Event) (p : ℕ) → is_legal sizes log ≡ true → length (after log p).expects ≤ sizes.expectations
unfolding is_legal after
expects_bounded sizes log p legal = run_bounded sizes empty_state 0 log p legal (omega arith)
