-- Expectations in order: what is taken out, and what is added.
use Rattle.std.proofs.Common.{◌≡◌, ◌≢◌, ℕ, ◌<◌, ◌≤◌, zero, suc, Bool, true, false, not, cond, List, [], ◌∷◌, length, get_or, filter, find, refl, sym, ap, ◌∙◌, arith, Option, Some, None}
use Rattle.std.specs.List.{All, AllPairs, list_any, remove}
use Rattle.std.specs.Prelude.{◌||◌, ◌==◌, nat_lt}
use Rattle.std.proofs.lemmas.Bool.{eq-eqb, eqb-true, ltb-true, ne_eqb, true≢false}
use Rattle.std.proofs.lemmas.List.Elements.{All-filter, filter_passes}
use Rattle.std.proofs.lemmas.List.Kept.{AllPairs-filter}
use Rattle.std.proofs.lemmas.List.Quantifiers.{all_pairs_remove, all_pairs_push}
use Rattle.expect_table.specs.declared.expectation.Expectation.{Expectation}
use Rattle.expect_table.specs.declared.table.AddOutcome.TheVariants.{Added, Full}
use Rattle.expect_table.specs.Expectations.{add_outcome, AreOrderedOneAMaster, outcome_of_older, outcome_of_rival, with_one, without_master}
use Rattle.expect_table.specs.Match.{has_id, is_of, is_rival}
use Rattle.expect_table.proofs.Removal.{IsAlone}

-- no later one passes
others_not : (p : Expectation → Bool) (es : List Expectation) → ((k : ℕ) (d : Expectation) → k < length es → p (get_or es k d) ≡ false)
    → list_any p es ≡ false
others_not p [] h = refl
others_not p (e ∷ es) h =
    let first : p e ≡ false = h zero e (omega arith) in
    ap (λ b. b || list_any p es) first ∙ others_not p es (λ k d below. h (suc k) d (omega arith))

-- where a number of theirs differs, at most one has it
alone_of : (f : Expectation → ℕ) (n : ℕ) (es : List Expectation) → AllPairs (λ d e. f d ≢ f e) es → IsAlone (λ e. f e == n) es
unfolding IsAlone
alone_of f n [] h = tt
alone_of f n (e ∷ es) h = (
  λ is. others_not (λ x. f x == n) es
      (λ k d below. ne_eqb (f (get_or es k d)) n
      (λ same. h zero (suc k) d (omega arith) (omega arith) (eqb-true (f e) n is ∙ sym same))),
  alone_of f n es (λ i j d below within. h (suc i) (suc j) d (omega arith) (omega arith)),
)

pub alone_master : (master : ℕ) (es : List Expectation) → AreOrderedOneAMaster es → IsAlone (is_of master) es
alone_master master es order = alone_of (λ e. e.master) master es order.masters

pub alone_id : (id : ℕ) (es : List Expectation) → AreOrderedOneAMaster es → IsAlone (has_id id) es
alone_id id es order =
    alone_of (λ e. e.id) id es (λ i j d below within same. omega (arith, order.ids i j d below within, same))

pub order_removed : (es : List Expectation) (i : ℕ) → i < length es → AreOrderedOneAMaster es → AreOrderedOneAMaster (remove es i)
order_removed es i within order = record {
  ids = all_pairs_remove (λ d e. d.id < e.id) es i within order.ids;
  masters = all_pairs_remove (λ d e. d.master ≢ e.master) es i within order.masters;
}

-- what an item's passing a test takes from those that do not
fewer : (p : Expectation → Bool) (es : List Expectation) → length (filter (λ e. not (p e)) es) ≤ length es
fewer p [] = omega arith
fewer p (e ∷ es) =
    elim (p e) as (λ b. length (cond (not b) (e ∷ filter (λ x. not (p x)) es) (filter (λ x. not (p x)) es)) ≤ suc (length es)) [
      | true ↦ omega (arith, fewer p es)
      | false ↦ omega (arith, fewer p es)
    ]

one_fewer : (p : Expectation → Bool) (es : List Expectation) (found : Expectation) → find p es ≡ Some found
    → length (filter (λ e. not (p e)) es) < length es
one_fewer p [] found h = cc
one_fewer p (e ∷ es) found h =
    elim (p e) as (λ b. cond b (Some e) (find p es) ≡ Some found
    → length (cond (not b) (e ∷ filter (λ x. not (p x)) es) (filter (λ x. not (p x)) es)) < suc (length es)) [
      | true ↦ λ is. omega (arith, fewer p es)
      | false ↦ λ is. omega (arith, one_fewer p es found is)
    ] h

-- where one is added, there is room for it
pub room_left : (room : ℕ) (es : List Expectation) (e : Expectation) (moment : ℕ) (replaced : Option ℕ) → length es ≤ room
    → Added replaced ≡ add_outcome room es e moment → length (without_master e.master es) < room
room_left room es e moment replaced within added = by_rival (find (is_rival e moment) es) added
  where
    by_room : (b : Bool) → nat_lt (length es) room ≡ b → Added replaced ≡ cond b (Added None) Full → length (without_master e.master es) < room
    by_room true is h = omega (arith, ltb-true (length es) room is, fewer (is_of e.master) es)
    by_room false is h = cc

    by_older : (o : Option Expectation) → find (is_of e.master) es ≡ o → Added replaced ≡ outcome_of_older o (nat_lt (length es) room)
        → length (without_master e.master es) < room
    by_older (Some older) is h = omega (arith, within, one_fewer (is_of e.master) es older is)
    by_older None is h = by_room (nat_lt (length es) room) refl h

    by_rival : (o : Option Expectation)
        → Added replaced ≡ outcome_of_rival o (outcome_of_older (find (is_of e.master) es) (nat_lt (length es) room))
        → length (without_master e.master es) < room
    by_rival (Some rival) h = cc
    by_rival None h = by_older (find (is_of e.master) es) refl h

-- the expectations stay in order with one more behind them
pub order_added : (es : List Expectation) (e : Expectation) → AreOrderedOneAMaster es → All (λ o. o.id < e.id) es → AreOrderedOneAMaster (with_one es e)
order_added es e order newer =
    let others : List Expectation = without_master e.master es in
    record {
      ids = all_pairs_push (λ d o. d.id < o.id) others e
          (AllPairs-filter (λ d o. d.id < o.id) (λ o. not (is_of e.master o)) es order.ids)
          (λ k d below. All-filter (λ o. not (is_of e.master o)) (λ o. o.id < e.id) es newer k d below);
      masters = all_pairs_push (λ d o. d.master ≢ o.master) others e
          (AllPairs-filter (λ d o. d.master ≢ o.master) (λ o. not (is_of e.master o)) es order.masters)
          (λ k d below. not_of e.master (get_or others k d) (filter_passes (λ o. not (is_of e.master o)) es k d below));
    }
  where
    not_of : (master : ℕ) (o : Expectation) → not (is_of master o) ≡ true → o.master ≢ master
    not_of master o h same = true≢false (sym h ∙ ap not (eq-eqb o.master master same))

-- what adding answers, by what was found
pub adds_over : (room : ℕ) (es : List Expectation) (e : Expectation) (moment : ℕ) (older : Expectation)
    → find (is_rival e moment) es ≡ None → find (is_of e.master) es ≡ Some older → add_outcome room es e moment ≡ Added (Some older.id)
adds_over room es e moment older none some =
    ap (λ o. outcome_of_rival o (outcome_of_older (find (is_of e.master) es) (nat_lt (length es) room))) none
    ∙ ap (λ o. outcome_of_older o (nat_lt (length es) room)) some

pub adds_by_room : (room : ℕ) (es : List Expectation) (e : Expectation) (moment : ℕ)
    → find (is_rival e moment) es ≡ None → find (is_of e.master) es ≡ None
    → add_outcome room es e moment ≡ cond (nat_lt (length es) room) (Added None) Full
adds_by_room room es e moment none no_older =
    ap (λ o. outcome_of_rival o (outcome_of_older (find (is_of e.master) es) (nat_lt (length es) room))) none
    ∙ ap (λ o. outcome_of_older o (nat_lt (length es) room)) no_older

pub order_filtered : (keep : Expectation → Bool) (es : List Expectation) → AreOrderedOneAMaster es → AreOrderedOneAMaster (filter keep es)
order_filtered keep es order = record {
  ids = AllPairs-filter (λ d o. d.id < o.id) keep es order.ids;
  masters = AllPairs-filter (λ d o. d.master ≢ o.master) keep es order.masters;
}
