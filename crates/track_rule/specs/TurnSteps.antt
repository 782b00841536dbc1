-- What the steps on the turn of a record tell a pass: v is what it knew before, w what it knows after. The record's slot is the
-- first that the pass has out, since the free list's is not out then.
use Rattle.std.specs.Prelude.{◌≡◌, ℕ, ◌≤◌, ◌==◌, Bool, MatchBool, Option, Some, None, List, [], ◌∷◌}
use Rattle.atomic_table.specs.Table.{Me, Step, rest}
use Rattle.history_book.specs.declared.record.Record.{Record}
use Rattle.track_rule.specs.declared.slot.Slot.{Slot}
use Rattle.track_rule.specs.declared.view.Hand.{Hand}
use Rattle.track_rule.specs.declared.view.Reading.{Reading}
use Rattle.track_rule.specs.declared.view.View.{View}
use Rattle.track_rule.specs.Layout.{record_slot, turn_word}
use Rattle.track_rule.specs.Readings.{IsSole, found, last_read, noted, stored}
use Rattle.track_rule.specs.Records.{record_in, slot_of_record}
use Rattle.track_rule.specs.Steps.{HasOthers}

-- the record that a pass has out, if there is one in its slot
abbrev pub subject_in : List (ℕ × Slot) → Option Record
subject_in [] = None
subject_in (s ∷ slots) = record_in s.1

-- with this record there, or with none
abbrev pub with_subject : ℕ → Option Record → List (ℕ × Slot) → List (ℕ × Slot)
with_subject place subject slots = (record_slot place, slot_of_record subject) ∷ rest slots

-- the pass has the turn of this record, or of none
abbrev pub with_hand : Option Hand → Reading → View → View
with_hand hand r v = noted r (record v { commit = record v.commit { hand = hand } })

-- The turn was free, and the pass has it now, with the record out of its slot. Phase and record are what the rule's `IsHand`
-- says.
pub record TookTurn (place : ℕ) (v : View) (slots : List (ℕ × Slot)) (w : View) (slots' : List (ℕ × Slot)) : Type 0 where
  pub phase : ℕ
  pub view : w ≡ with_hand (Some (record { place = place; phase = phase; subject = subject_in slots' })) (stored (turn_word v.passes.sizes place) 1) v
  pub out : slots' ≡ (record_slot place, slot_of_record (subject_in slots')) ∷ slots
  pub sole : IsSole v → last_read (turn_word v.passes.sizes place) v ≡ 0

-- Another pass has it.
pub record MissedTurn (place : ℕ) (v : View) (slots : List (ℕ × Slot)) (w : View) (slots' : List (ℕ × Slot)) : Type 0 where
  pub view : w ≡ noted (found (turn_word v.passes.sizes place) 1) v
  pub out : slots' ≡ slots
  pub others : HasOthers v

abbrev pub TakesTurn : Bool → ℕ → View → List (ℕ × Slot) → View → List (ℕ × Slot) → Type 0
TakesTurn took place v slots w slots' = MatchBool took (TookTurn place v slots w slots') (MissedTurn place v slots w slots')

-- Where the phase is LIVE the slot has the record of the entry again.
abbrev pub CanGiveTurn : View → List (ℕ × Slot) → Type 0
CanGiveTurn v slots = (h : Hand) → v.commit.hand ≡ Some h → 3 ≤ h.phase → subject_in slots ≡ h.subject

-- the pass has given the turn back
abbrev pub gave_turn : ℕ → View → View
gave_turn place v = with_hand None (stored (turn_word v.passes.sizes place) 0) v

-- the word of the step is the turn of this place's record
abbrev pub IsTurnWord : Step Slot → View → ℕ → Type 0
IsTurnWord step v place = step.word ≡ turn_word v.passes.sizes place

abbrev pub TakeTurnStep : Step Slot → Me Slot View → ℕ → Me Slot View → Type 0
TakeTurnStep step me n me' = (p : ℕ) → IsTurnWord step me.0 p → TakesTurn (n == 0) p me.0 me.1 me'.0 me'.1

abbrev pub GiveTurnStep : Step Slot → Me Slot View → ℕ → Me Slot View → Type 0
GiveTurnStep step me n me' = (p : ℕ) → IsTurnWord step me.0 p → (me'.0 ≡ gave_turn p me.0) × (me'.1 ≡ rest me.1)
