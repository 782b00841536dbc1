-- Looking at one place after the other.
use Rattle.std.specs.Prelude.{◌≡◌, ◌⊎◌, ℕ, ◌<◌, ◌≤◌, Bool, true, false, Option, Some, None, List, [], length}
use Rattle.history_book.specs.declared.answer.Row.{Row}
use Rattle.history_book.specs.declared.event.Event.{Event}
use Rattle.history_book.specs.declared.event.Event.TheVariants.{Destroy}
use Rattle.history_book.specs.declared.event.Why.{Why}
use Rattle.history_book.specs.declared.event.Why.TheVariants as why
use Rattle.history_book.specs.declared.record.Record.{Record}
use Rattle.history_book.specs.WentOn.{MadeEvent, Saw}
use Rattle.history_book.specs.History.{after}
use Rattle.history_book.specs.Legality.{is_reason}
use Rattle.history_book.specs.Sight.{Sight, WasConfirmedIn}
use Rattle.history_book.specs.State.{record_of}
use Rattle.pool_visits.specs.declared.place.Visit.{Visit}
use Rattle.pool_visits.specs.declared.place.Visit.TheVariants.{Destroyed, Left}
use Rattle.pool_visits.specs.Row.{IsDestroyed, has_row}

-- an entry is live and passes a test
abbrev pub is_live_and : (Record → Bool) → Option Record → Bool
is_live_and test None = false
is_live_and test (Some r) = test r

-- the entry of the id was live at each point from the one to the other, and passed the test at each
abbrev pub LivedThroughout : List Event → (Record → Bool) → ℕ → ℕ → ℕ → Type 0
LivedThroughout log test from to id =
    (p : ℕ) → from ≤ p → p ≤ to → is_live_and test (record_of id (after log p)) ≡ true

-- at some point from the one to the other the entry of the id was not live, or failed the test
pub record Missed (log : List Event) (test : Record → Bool) (from to id : ℕ) : Type 0 where
  pub at : ℕ
  pub low : from ≤ at
  pub high : at ≤ to
  pub missed : is_live_and test (record_of id (after log at)) ≡ false

-- of each entry that was confirmed in the place there is a row, or it was missed
abbrev pub Visited : List Event → (Record → Bool) → ℕ → ℕ → ℕ → List Row → Type 0
Visited log test place from to rows =
    (id : ℕ) → WasConfirmedIn log place id → (has_row id rows ≡ true) ⊎ Missed log test from to id

-- the same of each entry of a place below this one
abbrev pub AreVisited : List Event → (Record → Bool) → ℕ → ℕ → ℕ → List Row → Type 0
AreVisited log test count from to rows =
    (place : ℕ) → place < count → Visited log test place from to rows

-- the desk destroyed the entry of the row for the reason, which is an entry of the place, and made no other event; no
-- other entry of the place was live throughout
pub record DestroysRow (why : Why) (place : ℕ) (old new : Sight) (row : Row) : Type 0 where
  pub made : MadeEvent old new row.at (Destroy row.subject.id why)
  pub destroyed : IsDestroyed new.front why (record { number = row.at; event = Destroy row.subject.id why }) row
  pub placed : row.subject.place ≡ place
  pub visited : Visited new.front (is_reason why) place (length old.front) (length new.front) []

-- it looked and made no event; up to this point each entry of the place was missed
pub record LeavesPlace (why : Why) (place : ℕ) (old new : Sight) (at : ℕ) : Type 0 where
  pub saw : Saw old new
  pub low : length old.front ≤ at
  pub within : at ≤ length new.front
  pub visited : Visited new.front (is_reason why) place (length old.front) at []

-- one of the two, by the answer
abbrev pub VisitSays : Why → ℕ → Sight → Sight → Visit → Type 0
VisitSays why place old new (Destroyed row) = DestroysRow why place old new row
VisitSays why place old new (Left at) = LeavesPlace why place old new at

-- a reason that names no segment
abbrev pub names_no_segment : Why → Bool
names_no_segment (why.Expired moment) = true
names_no_segment (why.Reopened direction segment moment) = false
names_no_segment (why.Reset segment moment) = false
names_no_segment (why.Deleted filter) = true
names_no_segment why.Flushed = true
names_no_segment (why.Dropped moment) = true
