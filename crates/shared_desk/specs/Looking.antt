-- The entry for which a place is held, read under the turn of the place's record.
use Rattle.std.specs.Prelude.{◌≡◌, ℕ, ◌<◌, true, false, Some, None, List, [], ◌∷◌, length}
use Rattle.history_book.specs.State.{record_of}
use Rattle.history_book.specs.declared.event.Event.{Event}
use Rattle.history_book.specs.declared.outcome.PeekOutcome.{PeekOutcome}
use Rattle.history_book.specs.declared.outcome.PeekOutcome.TheVariants.{Seen, Gone}
use Rattle.track_rule.specs.History.{state_after}
use Rattle.track_rule.specs.KeptWords.{is_kept_for}
use Rattle.track_rule.specs.Layout.{record_slot}
use Rattle.track_rule.specs.PhaseSteps.{holds_open}
use Rattle.track_rule.specs.Records.{slot_of_record}
use Rattle.track_rule.specs.Sights.{PassSight, looked_on, sizes_of}
use Rattle.track_rule.specs.Steps.{AreAll}
use Rattle.track_rule.specs.declared.slot.Slot.{Slot}
use Rattle.track_rule.specs.declared.view.Hand.{Hand}
use Rattle.track_rule.specs.declared.view.Middle.TheVariants.{Calm}

-- The pass has no turn, has shut no bucket, looks what stands at no place, and is in the middle of no commit.
pub record IsFreeFor (place : ℕ) (v : PassSight) : Type 0 where
  pub below : place < (sizes_of v).entries
  pub hand : v.view.commit.hand ≡ None
  pub expected : v.view.expected ≡ None
  pub shut : v.view.buckets.shut ≡ []
  pub calm : v.view.commit.middle ≡ Calm
  pub free : v.view.free ≡ None
  pub closed : holds_open v.view.places.held ≡ false

-- The pass has the turn of the place's record, with this record, or none, out of its slot. It looks what stands at no place, and is
-- in the middle of no commit.
pub record HasRecord (place : ℕ) (v : PassSight) : Type 0 where
  pub hand : Hand
  pub its_place : hand.place ≡ place
  pub known : v.view.commit.hand ≡ Some hand
  pub others : List (ℕ × Slot)
  pub out : v.slots ≡ (record_slot place, slot_of_record hand.subject) ∷ others
  pub below : place < (sizes_of v).entries
  pub calm : v.view.commit.middle ≡ Calm
  pub free : v.view.free ≡ None
  pub closed : holds_open v.view.places.held ≡ false

-- what was so of the entry of the id after all these events
abbrev pub IsSeen : ℕ → List Event → PeekOutcome → Type 0
IsSeen id log (Seen subject at) = (at ≡ length log) × (record_of id (state_after log) ≡ Some subject)
IsSeen id log (Gone at) = (at ≡ length log) × (record_of id (state_after log) ≡ None)

-- The pass has seen all events so far, after which this was so of the entry for which it holds the place. All else is as it was, but
-- the note of a walk and the readings.
pub record Peeks (place : ℕ) (outcome : PeekOutcome) (v w : PassSight) : Type 0 where
  pub same : w ≡ looked_on v w
  pub all : AreAll v.view w.view.seen.front
  pub is : (id : ℕ) → is_kept_for place id v.view.places.held ≡ true → IsSeen id w.view.seen.front outcome
