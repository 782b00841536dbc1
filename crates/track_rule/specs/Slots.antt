-- What lies in a slot, and the slots that a pass has out.
use Rattle.std.specs.Prelude.{◌≡◌, ℕ, zero, suc, ◌+◌, Bool, true, false, Option, Some, None, List, [], ◌∷◌, ◌++◌, unwrap_or}
use Rattle.atomic_table.specs.Table.{rest}
use Rattle.expect_table.specs.declared.expectation.Expectation.{Expectation}
use Rattle.room_list.specs.Roomed.{Roomed}
use Rattle.track_rule.specs.declared.slot.Slot.{Slot}
use Rattle.track_rule.specs.declared.slot.Slot.TheVariants.{Vacant, Free, Expects, Subject}
use Rattle.track_rule.specs.declared.view.Hand.{Hand}
use Rattle.track_rule.specs.declared.view.View.{View}

-- the free list of a slot, and the slot with a free list or with none
abbrev pub free_in : Slot → Option (Roomed ℕ)
free_in Vacant = None
free_in (Free list) = Some list
free_in (Expects table) = None
free_in (Subject r) = None

abbrev pub slot_of_free : Option (Roomed ℕ) → Slot
slot_of_free None = Vacant
slot_of_free (Some list) = Free list

abbrev pub no_list : Roomed ℕ
no_list = record { items = []; room = 0 }

-- the free list that a pass has out: its slot was taken last
abbrev pub free_at : List (ℕ × Slot) → Option (Roomed ℕ)
free_at [] = None
free_at (s ∷ slots) = free_in s.1

abbrev pub list_in : List (ℕ × Slot) → Roomed ℕ
list_in slots = unwrap_or (free_at slots) no_list

-- the slots that stay out where the list's is given back
abbrev pub given_back : List (ℕ × Slot) → List (ℕ × Slot)
given_back slots = rest slots

-- with this list there, or with none
abbrev pub with_free : Option (Roomed ℕ) → List (ℕ × Slot) → List (ℕ × Slot)
with_free list slots = (0, slot_of_free list) ∷ rest slots

-- the table of expectations of a slot, and the slot with a table or with none
abbrev pub expects_in : Slot → Option (Roomed Expectation)
expects_in Vacant = None
expects_in (Free list) = None
expects_in (Expects table) = Some table
expects_in (Subject r) = None

abbrev pub slot_of_expects : Option (Roomed Expectation) → Slot
slot_of_expects None = Vacant
slot_of_expects (Some table) = Expects table

-- the numbers of the slots that a pass has out: the free list's, the record's, and that of the expectations
abbrev pub free_number : Option (List ℕ) → List ℕ
free_number None = []
free_number (Some list) = 0 ∷ []

abbrev pub hand_number : Option Hand → List ℕ
hand_number None = []
hand_number (Some h) = (2 + h.place) ∷ []

abbrev pub expected_number : Option (List Expectation) → List ℕ
expected_number None = []
expected_number (Some list) = 1 ∷ []

abbrev pub numbers_of : View → List ℕ
numbers_of v = free_number v.free ++ hand_number v.commit.hand ++ expected_number v.expected

abbrev pub numbers : List (ℕ × Slot) → List ℕ
numbers [] = []
numbers (s ∷ slots) = s.0 ∷ numbers slots

-- a slot holds what its number says, or nothing
abbrev pub suits : ℕ → Slot → Bool
suits k Vacant = true
suits zero (Free list) = true
suits zero (Expects table) = false
suits zero (Subject r) = false
suits (suc zero) (Free list) = false
suits (suc zero) (Expects table) = true
suits (suc zero) (Subject r) = false
suits (suc (suc k)) (Free list) = false
suits (suc (suc k)) (Expects table) = false
suits (suc (suc k)) (Subject r) = true

abbrev pub AllSuit : List (ℕ × Slot) → Type 0
AllSuit [] = Unit {0}
AllSuit (s ∷ slots) = (suits s.0 s.1 ≡ true) × AllSuit slots
