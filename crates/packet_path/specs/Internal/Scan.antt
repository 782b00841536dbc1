-- The scan of all places for an entry that may go, and the place that is had by it.
use Rattle.std.specs.Prelude.{◌≡◌, ◌⊎◌, ℕ, ◌≤◌, Some, None, [], length}
use Rattle.history_book.specs.declared.answer.Row.{Row}
use Rattle.history_book.specs.declared.event.Event.TheVariants.{Destroy}
use Rattle.history_book.specs.declared.event.Why.{Why}
use Rattle.history_book.specs.declared.outcome.TakeOutcome.{TakeOutcome}
use Rattle.history_book.specs.declared.outcome.TakeOutcome.TheVariants as take
use Rattle.history_book.specs.Desk.{FindsFull, Takes}
use Rattle.history_book.specs.Legality.{is_reason}
use Rattle.history_book.specs.Places.{HoldsNothing, HoldsOne}
use Rattle.history_book.specs.Point.{At}
use Rattle.history_book.specs.Sight.{IsKnown, Sight, risen}
use Rattle.history_book.specs.State.{record_of}
use Rattle.history_book.specs.WentOn.{MadeEvent, Saw}
use Rattle.pool_visits.specs.Visit.{AreVisited, LivedThroughout}
use Rattle.packet_path.specs.declared.scan.Scan.{Scan}
use Rattle.packet_path.specs.declared.scan.Scan.TheVariants.{Dropped, Nothing}
use Rattle.packet_path.specs.Room.{NoneBefore}

-- so many places were looked at, up to this point, and no entry was destroyed
pub record IsScanning (why : Why) (from : ℕ) (old now : Sight) (count at : ℕ) : Type 0 where
  pub saw : Saw old now
  pub low : from ≤ at
  pub within : at ≤ length now.front
  pub visited : AreVisited now.front (is_reason why) count from at []
  pub empty : HoldsNothing now
  pub known : IsKnown now

-- the entry of the row was destroyed, and none was passed over
pub record DropsOne (why : Why) (from : ℕ) (old new : Sight) (row : Row) : Type 0 where
  pub made : MadeEvent old new row.at (Destroy row.subject.id why)
  pub found : At new.front row.at (λ s. record_of row.subject.id s ≡ Some row.subject)
  pub first : NoneBefore new.front (is_reason why) row.subject.place from row.at

-- none was destroyed, since up to this point the reason held of none throughout
pub record DropsNone (why : Why) (from : ℕ) (old new : Sight) (at : ℕ) : Type 0 where
  pub saw : Saw old new
  pub low : from ≤ at
  pub within : at ≤ length new.front
  pub none : (id : ℕ) → LivedThroughout new.front (is_reason why) from at id → ⊥

abbrev pub ScanSays : Why → ℕ → Sight → Sight → Scan → Type 0
ScanSays why from old new (Dropped row) = DropsOne why from old new row
ScanSays why from old new (Nothing at) = DropsNone why from old new at

-- the scan destroyed an entry, and a place was taken then
pub record TakesAfterDrop (why : Why) (from : ℕ) (old new : Sight) (place : ℕ) : Type 0 where
  pub mid : Sight
  pub row : Row
  pub one : DropsOne why from old mid row
  pub takes : Takes mid new place

-- the scan destroyed an entry, and the table was full again
pub record FullAfterDrop (why : Why) (from : ℕ) (old new : Sight) (at : ℕ) : Type 0 where
  pub mid : Sight
  pub row : Row
  pub one : DropsOne why from old mid row
  pub empty : HoldsNothing mid
  pub finds : FindsFull mid new at

-- what came of the scan and the look for a place after it
abbrev pub RoomSays : Why → ℕ → Sight → Sight → TakeOutcome → Type 0
RoomSays why from old new (take.Taken place) = TakesAfterDrop why from old new place
RoomSays why from old new (take.Full at) = DropsNone why from old new at ⊎ FullAfterDrop why from old new at

-- the place that was taken, if one was, is held for no entry, and no other
abbrev pub HoldsTaken : TakeOutcome → Sight → Type 0
HoldsTaken (take.Taken place) s = HoldsOne (record { place = place; id = None }) s
HoldsTaken (take.Full at) s = HoldsNothing s

-- how often a desk took a place after that
abbrev pub taken_in_room : TakeOutcome → ℕ → ℕ
taken_in_room (take.Taken place) taken = risen taken
taken_in_room (take.Full at) taken = taken
