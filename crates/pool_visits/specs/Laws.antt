-- What holds of looks at places, one after the other.
use Rattle.std.specs.Prelude.{◌≡◌, ℕ, ◌+◌, ◌<◌, ◌≤◌, Bool, true, Some, List, ◌++◌, length}
use Rattle.history_book.specs.declared.answer.Row.{Row}
use Rattle.history_book.specs.declared.event.Event.{Event}
use Rattle.history_book.specs.declared.record.Record.{Record}
use Rattle.history_book.specs.declared.sizes.Sizes.{Sizes}
use Rattle.history_book.specs.History.{after, is_legal}
use Rattle.history_book.specs.Point.{StartsWith}
use Rattle.history_book.specs.State.{record_of}
use Rattle.pool_visits.specs.Row.{has_row}
use Rattle.pool_visits.specs.Visit.{AreVisited, LivedThroughout, Visited}

-- a legal history, and a longer one that is legal as well
pub record BothAreLegal (sizes : Sizes) (longer log : List Event) : Type 0 where
  pub starts : StartsWith longer log
  pub longer_legal : is_legal sizes longer ≡ true
  pub legal : is_legal sizes log ≡ true

-- what was looked at between two points was so between others that lie further apart, in a longer history
abbrev pub AllVisitsStay : Type 0
AllVisitsStay =
    (sizes : Sizes) (longer log : List Event) (test : Record → Bool) (count from to first last : ℕ) (rows : List Row)
    → BothAreLegal sizes longer log → first ≤ from → from ≤ to → to ≤ last → to ≤ length log
    → AreVisited log test count from to rows → AreVisited longer test count first last rows

-- these points do not fall: from the first on, looks up to a point of a history, and one between two later points of a
-- longer one, the last of all behind them
pub record PointsRise (longer log : List Event) (from upto low high last : ℕ) : Type 0 where
  pub first : from ≤ upto
  pub within : upto ≤ length log
  pub next : upto ≤ low
  pub between : low ≤ high
  pub inside : high ≤ length longer
  pub behind : high ≤ last

-- the looks at places below this one, and then that at this one, are looks at one place more
abbrev pub VisitsAddUp : Type 0
VisitsAddUp =
    (sizes : Sizes) (longer log : List Event) (test : Record → Bool) (count from upto low high last : ℕ) (rows more : List Row)
    → BothAreLegal sizes longer log → PointsRise longer log from upto low high last
    → AreVisited log test count from upto rows → Visited longer test count low high more
    → AreVisited longer test (count + 1) from last (rows ++ more)

-- an entry of a place that was looked at has a row, where it was live and passed the test throughout
abbrev pub LivedHaveRows : Type 0
LivedHaveRows =
    (sizes : Sizes) (log : List Event) (test : Record → Bool) (count from to p id : ℕ) (r : Record) (rows : List Row)
    → is_legal sizes log ≡ true → AreVisited log test count from to rows → LivedThroughout log test from to id
    → record_of id (after log p) ≡ Some r → r.place < count → has_row id rows ≡ true
