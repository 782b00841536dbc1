-- What the steps on the turn of the expectations tell a pass: v is what it knew before, w what it knows after. Their slot, slot 1,
-- is the last that the pass has out: that of a record, of which it may have the turn too, stands before it, and the free list's is
-- not out then.
use Rattle.std.specs.Prelude.{◌≡◌, ℕ, ◌==◌, Bool, MatchBool, Option, Some, None, List, [], ◌∷◌, ◌++◌, unwrap_or}
use Rattle.atomic_table.specs.Table.{Me, Step, rest, turned}
use Rattle.expect_table.specs.Expectations.{without_id}
use Rattle.expect_table.specs.declared.expectation.Expectation.{Expectation}
use Rattle.room_list.specs.Roomed.{Roomed}
use Rattle.track_rule.specs.declared.slot.Slot.{Slot}
use Rattle.track_rule.specs.declared.slot.Slot.TheVariants.{Expects}
use Rattle.track_rule.specs.declared.view.View.{View}
use Rattle.track_rule.specs.Readings.{IsSole, found, last_read, noted, stored}
use Rattle.track_rule.specs.Slots.{expects_in, slot_of_expects}
use Rattle.track_rule.specs.Steps.{HasOthers}
use Rattle.track_rule.specs.TurnSteps.{subject_in}

-- the table that a pass has out, if there is one in the slot
abbrev pub expects_at : List (ℕ × Slot) → Option (Roomed Expectation)
expects_at [] = None
expects_at (s ∷ []) = expects_in s.1
expects_at (s ∷ t ∷ slots) = expects_at (t ∷ slots)

abbrev pub no_table : Roomed Expectation
no_table = record { items = []; room = 0 }

abbrev pub table_in : List (ℕ × Slot) → Roomed Expectation
table_in slots = unwrap_or (expects_at slots) no_table

-- the table without the expectation of this id
abbrev pub table_without : ℕ → Roomed Expectation → Roomed Expectation
table_without id table = record table { items = without_id id table.items }

-- the slots that stand before it
abbrev pub before_expects : List (ℕ × Slot) → List (ℕ × Slot)
before_expects [] = []
before_expects (s ∷ []) = []
before_expects (s ∷ t ∷ slots) = s ∷ before_expects (t ∷ slots)

-- with this table there, or with none
abbrev pub with_expects : Option (Roomed Expectation) → List (ℕ × Slot) → List (ℕ × Slot)
with_expects table slots = before_expects slots ++ (1, slot_of_expects table) ∷ []

-- the pass has the turn, and knows what is expected
abbrev pub with_expected : List Expectation → View → View
with_expected list v = noted (stored 2 1) (record v { expected = Some list })

-- The turn was free, and the pass has it now, with the slot of the table out, the table in it, behind the slots that were out
-- before. The table has the room of the sizes.
pub record TookExpected (v : View) (slots : List (ℕ × Slot)) (w : View) (slots' : List (ℕ × Slot)) : Type 0 where
  pub view : w ≡ with_expected (table_in slots').items v
  pub out : slots' ≡ slots ++ (1, Expects (table_in slots')) ∷ []
  pub there : expects_at slots' ≡ Some (table_in slots')
  pub others : before_expects slots' ≡ slots
  pub subject : subject_in slots' ≡ subject_in slots
  pub room : (table_in slots').room ≡ v.passes.sizes.expectations
  pub sole : IsSole v → last_read 2 v ≡ 0

-- Another pass has it.
pub record MissedExpected (v : View) (slots : List (ℕ × Slot)) (w : View) (slots' : List (ℕ × Slot)) : Type 0 where
  pub view : w ≡ noted (found 2 1) v
  pub out : slots' ≡ slots
  pub others : HasOthers v

abbrev pub TakesExpected : Bool → View → List (ℕ × Slot) → View → List (ℕ × Slot) → Type 0
TakesExpected took v slots w slots' = MatchBool took (TookExpected v slots w slots') (MissedExpected v slots w slots')

-- The table has what the pass knows, and the room of the sizes.
pub record CanGiveExpected (v : View) (table : Roomed Expectation) : Type 0 where
  pub items : v.expected ≡ Some table.items
  pub room : table.room ≡ v.passes.sizes.expectations

-- the pass has given the turn back
abbrev pub gave_expected : View → View
gave_expected v = noted (stored 2 0) (record v { expected = None })

-- The slot of the step is the first that the pass has out. Behind the step that takes it, it goes behind the others.
abbrev pub TakeExpectsStep : Step Slot → Me Slot View → ℕ → Me Slot View → Type 0
TakeExpectsStep step me n me' =
    MatchBool (n == 0) (TookExpected me.0 me.1 me'.0 (turned me'.1)) (MissedExpected me.0 me.1 me'.0 me'.1)

abbrev pub GiveExpectsStep : Step Slot → Me Slot View → ℕ → Me Slot View → Type 0
GiveExpectsStep step me n me' = (me'.0 ≡ gave_expected me.0) × (me'.1 ≡ rest me.1)
