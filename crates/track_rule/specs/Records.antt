-- The records in their slots. At most one pass has the turn of a place's record. While none has it the slot is at home,
-- and where the place is live the slot then has the record of its id. A pass that has the turn has that record instead, and
-- knows the phase where it is LIVE of an id; any other one may be stored by the pass that owns the place.
use Rattle.std.specs.Prelude.{◌≡◌, ℕ, ◌-◌, ◌<◌, ◌≤◌, ◌==◌, Bool, true, false, Option, Some, None, List}
use mathlib.Core.Option.{Option as Slotted, some}
use lib.ListN.{get_elem?}
use Rattle.history_book.specs.State.{record_of}
use Rattle.history_book.specs.declared.event.Event.{Event}
use Rattle.history_book.specs.declared.record.Record.{Record}
use Rattle.history_book.specs.declared.sizes.Sizes.{Sizes}
use Rattle.track_rule.specs.declared.slot.Slot.{Slot}
use Rattle.track_rule.specs.declared.slot.Slot.TheVariants.{Vacant, Free, Expects, Subject}
use Rattle.track_rule.specs.declared.view.Hand.{Hand}
use Rattle.track_rule.specs.declared.view.View.{View}
use Rattle.track_rule.specs.History.{state_after}
use Rattle.track_rule.specs.Layout.{phase_at, record_slot, turn_at}
use Rattle.track_rule.specs.Sums.{Each, bit, total}

-- 1 while it is the record of this place, else 0
abbrev pub is_hand_of : ℕ → Option Hand → ℕ
is_hand_of place None = 0
is_hand_of place (Some h) = bit (h.place == place)

-- 1 while the pass has the turn of the place's record, else 0
abbrev pub has_hand : ℕ → View → ℕ
has_hand place v = is_hand_of place v.commit.hand

-- the record of a slot
abbrev pub record_in : Slot → Option Record
record_in Vacant = None
record_in (Free list) = None
record_in (Expects table) = None
record_in (Subject r) = Some r

-- the slot has a record, or nothing
abbrev pub is_records : Slot → Bool
is_records Vacant = true
is_records (Free list) = false
is_records (Expects table) = false
is_records (Subject r) = true

-- the slot with a record, or with none
abbrev pub slot_of_record : Option Record → Slot
slot_of_record None = Vacant
slot_of_record (Some r) = Subject r

-- the slot is at home; where the phase is LIVE of an id, it has the record of that id
pub record IsRecordHome (log : List Event) (homes : List (Slotted Slot)) (place phase : ℕ) : Type 0 where
  pub slot : Slot
  pub there : get_elem? homes (record_slot place) ≡ some (some slot)
  pub kind : is_records slot ≡ true
  pub live : 3 ≤ phase → record_in slot ≡ record_of (phase - 3) (state_after log)

-- what the pass knows under the turn
pub record IsHand (z : Sizes) (log : List Event) (words : List ℕ) (h : Hand) : Type 0 where
  pub below : h.place < z.entries
  pub shown : 2 < h.phase → phase_at z words h.place ≡ h.phase
  pub idle : h.phase ≤ 2 → phase_at z words h.place ≤ 2
  pub live : 3 ≤ h.phase → h.subject ≡ record_of (h.phase - 3) (state_after log)

pub record AreRecords (z : Sizes) (log : List Event) (words : List ℕ) (homes : List (Slotted Slot)) (views : List View) : Type 0 where
  pub turn : (p : ℕ) → p < z.entries → turn_at z words p ≡ total (has_hand p) views
  pub single : (p : ℕ) → total (has_hand p) views ≤ 1
  pub home : (p : ℕ) → p < z.entries → turn_at z words p ≡ 0 → IsRecordHome log homes p (phase_at z words p)
  pub away : Each (λ v. (h : Hand) → v.commit.hand ≡ Some h → IsHand z log words h) views
