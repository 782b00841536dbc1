-- The slot of the expectations that a pass has out; and a pass that took it, changed it, or gave it back is one at its table.
use Rattle.std.specs.Prelude.{is_some, unwrap_or}
use Rattle.std.proofs.Common.{◌≡◌, ℕ, ◌<◌, true, Option, Some, None, List, [], ◌∷◌, ◌++◌, get_or, length, refl, sym, ap, subst, ◌∙◌, arith}
use Rattle.std.proofs.lemmas.Bool.{false≢true}
use Rattle.std.proofs.lemmas.Option.{none-some}
use Rattle.atomic_table.specs.Seated.{TableId}
use Rattle.atomic_table.specs.Table.{Allows, Me, rest, step, turned}
use mathlib.Core.Option.{none}
use Rattle.expect_table.specs.declared.expectation.Expectation.{Expectation}
use Rattle.room_list.specs.Roomed.{Roomed}
use Rattle.history_book.specs.declared.sizes.Sizes.{Sizes}
use Rattle.track_rule.specs.declared.slot.Slot.{Slot}
use Rattle.track_rule.specs.declared.slot.Slot.TheVariants.{Vacant, Free, Expects, Subject}
use Rattle.track_rule.specs.declared.view.Hand.{Hand}
use Rattle.track_rule.specs.declared.view.Middle.TheVariants.{Calm}
use Rattle.track_rule.specs.declared.view.View.{View}
use Rattle.track_rule.specs.ExpectTurns.{CanGiveExpected, GiveExpectsStep, TookExpected, before_expects, expects_at, no_table, table_in, with_expects}
use Rattle.track_rule.specs.Expected.{expected_turn, has_expected}
use Rattle.track_rule.specs.Rule.{RuleHolds}
use Rattle.track_rule.specs.Sights.{IsAt, PassSight, sight_at}
use Rattle.track_rule.specs.Slots.{AllSuit, expected_number, expects_in, free_number, hand_number, numbers, numbers_of, slot_of_expects, suits}
use Rattle.track_rule.specs.TurnSteps.{subject_in}
use Rattle.track_rule.proofs.ExpectTurns.{giving_expected, last_expects, last_subject}
use Rattle.track_rule.proofs.Seats.{first_number, moves_at, tail_of}

-- the slots of a pass that has the turn, and not the free list
pub record ExpectsOut (slots : List (ℕ × Slot)) : Type 0 where
  pub inside : Slot
  pub last : slots ≡ before_expects slots ++ (1, inside) ∷ []
  pub first : turned slots ≡ (1, inside) ∷ before_expects slots
  pub kind : inside ≡ slot_of_expects (expects_in inside)
  pub suit : AllSuit (before_expects slots)

pub expects_out : (me : Me Slot View) → me.0.free ≡ None → has_expected me.0 ≡ 1 → numbers me.1 ≡ numbers_of me.0 → AllSuit me.1 → ExpectsOut me.1
expects_out me idle mine carries suit = last_out me.0.free me.0.commit.hand me.0.expected me.1 idle mine carries suit
  where
    own_kind : (k : ℕ) (x : Slot) → k ≡ 1 → suits k x ≡ true → x ≡ slot_of_expects (expects_in x)
    own_kind k x one fits = own_slot x (subst (λ (n : ℕ). suits n x ≡ true) one fits)
      where
        own_slot : (x : Slot) → suits 1 x ≡ true → x ≡ slot_of_expects (expects_in x)
        own_slot Vacant e = refl
        own_slot (Free list) e = absurd (false≢true e)
        own_slot (Expects table) e = refl
        own_slot (Subject r) e = absurd (false≢true e)

    last_out : (free : Option (List ℕ)) (hand : Option Hand) (expected : Option (List Expectation)) (slots : List (ℕ × Slot)) → free ≡ None
        → expected_turn expected ≡ 1 → numbers slots ≡ free_number free ++ hand_number hand ++ expected_number expected → AllSuit slots → ExpectsOut slots
    last_out (Some free) hand expected slots idle mine same suit = absurd (none-some free (sym idle))
    last_out None hand None slots idle mine same suit = absurd (omega (arith, mine))
    last_out None None (Some list) [] idle mine same suit = absurd (omega (arith, ap length same))
    last_out None None (Some list) (s ∷ []) idle mine same suit =
        let one : s.0 ≡ 1 = ap first_number same in
        record {
          inside = s.1;
          last = λ k. (one k, s.1) ∷ [];
          first = λ k. (one k, s.1) ∷ [];
          kind = own_kind s.0 s.1 one suit.0;
          suit = tt;
        }
    last_out None None (Some list) (s ∷ t ∷ slots) idle mine same suit = absurd (omega (arith, ap length same))
    last_out None (Some h) (Some list) [] idle mine same suit = absurd (omega (arith, ap length same))
    last_out None (Some h) (Some list) (s ∷ []) idle mine same suit = absurd (omega (arith, ap length same))
    last_out None (Some h) (Some list) (s ∷ t ∷ []) idle mine same suit =
        let one : t.0 ≡ 1 = ap (λ (ns : List ℕ). first_number (tail_of ns)) same in
        record {
          inside = t.1;
          last = λ k. s ∷ (one k, t.1) ∷ [];
          first = λ k. (one k, t.1) ∷ s ∷ [];
          kind = own_kind t.0 t.1 one suit.1.0;
          suit = (suit.0, tt);
        }
    last_out None (Some h) (Some list) (s ∷ t ∷ u ∷ slots) idle mine same suit = absurd (omega (arith, ap length same))

-- and of such a pass as contracts see it
pub seen_out : (table key-table : TableId) (key sizes : Sizes) (me : Me Slot View) (was : PassSight) → IsAt key-table key sizes (sight_at table me)
    → sight_at table me ≡ was → was.view.free ≡ None → has_expected was.view ≡ 1 → ExpectsOut me.1
seen_out table key-table key sizes me was h seen idle mine =
    expects_out me (subst (λ (x : PassSight). x.view.free ≡ None) (sym seen) idle) (subst (λ (x : PassSight). has_expected x.view ≡ 1) (sym seen) mine)
    h.right.carries h.right.suit

-- what lies there
pub inside_is : (slots : List (ℕ × Slot)) (out : ExpectsOut slots) → expects_at slots ≡ expects_in out.inside
inside_is slots out = ap expects_at out.last ∙ last_expects (before_expects slots) 1 out.inside

-- and what lies there after another one was put there
pub put_there : (slots : List (ℕ × Slot)) (new : Option (Roomed Expectation)) → expects_at (with_expects new slots) ≡ new
put_there slots None = last_expects (before_expects slots) 1 Vacant
put_there slots (Some table) = last_expects (before_expects slots) 1 (Expects table)

-- a record that is out stays
pub subject_stays : (slots : List (ℕ × Slot)) (new : Option (Roomed Expectation)) → ExpectsOut slots → subject_in (with_expects new slots) ≡ subject_in slots
subject_stays slots new out =
    last_subject (before_expects slots) new
    ∙ sym (ap subject_in out.last ∙ ap (λ (x : Slot). subject_in (before_expects slots ++ (1, x) ∷ [])) out.kind ∙ last_subject (before_expects slots) (expects_in out.inside))

-- giving it back, after it was brought to the front
pub giving_front : (key : Sizes) (slots id : ℕ) (me me' : Me Slot View) → me.0.passes.sizes ≡ key → me' ≡ (me.0, turned me.1) → 1 < slots → 0 < me.0.passes.shares
    → me.0.commit.middle ≡ Calm → is_some (expects_at me.1) ≡ true → CanGiveExpected me.0 (table_in me.1) → ExpectsOut me.1
    → Allows (RuleHolds key) slots id me' 2 (λ _. 0) (λ _. GiveExpectsStep (step slots 2 0 0 none) me' 0)
giving_front key slots id me me' same there some_slots has_some calm some_table can out =
    let table : Roomed Expectation = table_in me.1 in
    let inside : out.inside ≡ Expects table = out.kind ∙ slot_is (expects_in out.inside) (expects_at me.1) (inside_is me.1 out) some_table in
    let front : turned me.1 ≡ (1, Expects table) ∷ before_expects me.1 = out.first ∙ ap (λ (x : Slot). (1, x) ∷ before_expects me.1) inside in
    subst (λ (z : Sizes). Allows (RuleHolds z) slots id me' 2 (λ _. 0) (λ _. GiveExpectsStep (step slots 2 0 0 none) me' 0)) same
    (subst (λ (m : Me Slot View). Allows (RuleHolds me.0.passes.sizes) slots id m 2 (λ _. 0) (λ _. GiveExpectsStep (step slots 2 0 0 none) m 0)) (sym there)
    (subst (λ (c : List (ℕ × Slot)). Allows (RuleHolds me.0.passes.sizes) slots id (me.0, c) 2 (λ _. 0) (λ _. GiveExpectsStep (step slots 2 0 0 none) (me.0, c) 0)) (sym front)
    (giving_expected slots id me.0 table (before_expects me.1) some_slots has_some calm can)))
  where
    slot_is : (o p : Option (Roomed Expectation)) → p ≡ o → is_some p ≡ true → slot_of_expects o ≡ Expects (unwrap_or p no_table)
    slot_is o None e some_there = absurd (false≢true some_there)
    slot_is o (Some table) e some_there = ap slot_of_expects (sym e)

-- what is left after the table was brought to the front, exchanged for this one, and brought back behind the others
pub swapped : (me first then last : Me Slot View) (inside : Slot) (new : Option (Roomed Expectation)) → ExpectsOut me.1 → inside ≡ slot_of_expects new
    → first ≡ (me.0, turned me.1) → then ≡ (first.0, (1, inside) ∷ rest first.1) → last ≡ (then.0, turned then.1) → last ≡ (me.0, with_expects new me.1)
swapped me first then last inside new out put front changed back =
    back ∙ ap (λ (m : Me Slot View). (m.0, turned m.1)) changed ∙ ap (λ (m : Me Slot View). (m.0, rest m.1 ++ (1, inside) ∷ [])) front
    ∙ ap (λ (c : List (ℕ × Slot)). (me.0, rest c ++ (1, inside) ∷ [])) out.first
    ∙ ap (λ (x : Slot). (me.0, before_expects me.1 ++ (1, x) ∷ [])) put

-- a pass that brought the table to the front, looked at it, and brought it back behind the others, is as it was
pub looked_between : (table table' : TableId) (me first last : Me Slot View) (inside : Slot) → ExpectsOut me.1 → table' ≡ table → first ≡ (me.0, turned me.1)
    → first.1 ≡ (1, inside) ∷ rest first.1 → last ≡ (first.0, turned ((1, inside) ∷ rest first.1)) → sight_at table' last ≡ sight_at table me
looked_between table table' me first last inside out there front lent back =
    ap (λ (t : TableId). sight_at t last) there
    ∙ ap (sight_at table) (back ∙ ap (λ (c : List (ℕ × Slot)). (first.0, turned c)) (sym lent) ∙ ap (λ (m : Me Slot View). (m.0, turned m.1)) front
    ∙ ap (λ (c : List (ℕ × Slot)). (me.0, c)) (ap turned out.first ∙ sym out.last))

-- the slot that is lent in between has the table
pub lent_is : (me first : Me Slot View) (lent : Slot) → ExpectsOut me.1 → first ≡ (me.0, turned me.1) → first.1 ≡ (1, lent) ∷ rest first.1
    → expects_in lent ≡ expects_at me.1
lent_is me first lent out front there =
    ap (λ (c : List (ℕ × Slot)). expects_in (get_or c 0 (0, lent)).1) (sym there ∙ ap (λ (m : Me Slot View). m.1) front ∙ out.first) ∙ sym (inside_is me.1 out)

-- one slot more, behind the others
more_numbers : (c : List (ℕ × Slot)) (k : ℕ) (x : Slot) → numbers (c ++ (k, x) ∷ []) ≡ numbers c ++ k ∷ []
more_numbers [] k x = refl
more_numbers (s ∷ c) k x = λ i. s.0 ∷ more_numbers c k x i

more_suit : (c : List (ℕ × Slot)) (k : ℕ) (x : Slot) → AllSuit c → suits k x ≡ true → AllSuit (c ++ (k, x) ∷ [])
more_suit [] k x fits one = (one, tt)
more_suit (s ∷ c) k x fits one = (fits.0, more_suit c k x fits.1 one)

-- a pass that took the turn
pub took_at : (table key-table : TableId) (key sizes : Sizes) (table' : TableId) (me me' : Me Slot View) → IsAt key-table key sizes (sight_at table me)
    → table' ≡ table → me.0.free ≡ None → me.0.expected ≡ None → TookExpected me.0 me.1 me'.0 me'.1 → IsAt key-table key sizes (sight_at table' me')
took_at table key-table key sizes table' me me' h there idle calm t =
    moves_at table key-table key sizes table' me me' h there (ap (λ (v : View). v.passes) t.view) (ap (λ (v : View). v.places) t.view)
    (ap numbers t.out ∙ more_numbers me.1 1 (Expects (table_in me'.1)) ∙ ap (λ (ns : List ℕ). ns ++ 1 ∷ []) h.right.carries
    ∙ one_more me.0.free me.0.commit.hand me.0.expected idle calm ∙ sym (ap numbers_of t.view))
    (subst AllSuit (sym t.out) (more_suit me.1 1 (Expects (table_in me'.1)) h.right.suit refl))
  where
    one_more : (free : Option (List ℕ)) (hand : Option Hand) (expected : Option (List Expectation)) → free ≡ None → expected ≡ None
        → (free_number free ++ hand_number hand ++ expected_number expected) ++ 1 ∷ [] ≡ free_number free ++ hand_number hand ++ 1 ∷ []
    one_more (Some list) hand expected idle calm = absurd (none-some list (sym idle))
    one_more None hand (Some list) idle calm = absurd (none-some list (sym calm))
    one_more None None None idle calm = refl
    one_more None (Some h) None idle calm = refl

-- and one that changed what lies in the slot
pub swapped_at : (new : Option (Roomed Expectation)) (table key-table : TableId) (key sizes : Sizes) (table' : TableId) (me me' : Me Slot View)
    → IsAt key-table key sizes (sight_at table me) → table' ≡ table → ExpectsOut me.1 → me' ≡ (me.0, with_expects new me.1)
    → IsAt key-table key sizes (sight_at table' me')
swapped_at new table key-table key sizes table' me me' h there out now =
    let view : me'.0 ≡ me.0 = ap (λ (m : Me Slot View). m.0) now in
    let slots : me'.1 ≡ with_expects new me.1 = ap (λ (m : Me Slot View). m.1) now in
    moves_at table key-table key sizes table' me me' h there (ap (λ (v : View). v.passes) view) (ap (λ (v : View). v.places) view)
    (ap numbers slots ∙ more_numbers (before_expects me.1) 1 (slot_of_expects new) ∙ sym (more_numbers (before_expects me.1) 1 out.inside)
    ∙ sym (ap numbers out.last) ∙ h.right.carries ∙ sym (ap numbers_of view))
    (subst AllSuit (sym slots) (more_suit (before_expects me.1) 1 (slot_of_expects new) out.suit (fits new)))
  where
    fits : (o : Option (Roomed Expectation)) → suits 1 (slot_of_expects o) ≡ true
    fits None = refl
    fits (Some t) = refl
