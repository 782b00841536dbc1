-- What the loops over all places keep.
use Rattle.std.specs.Prelude.{◌≡◌, ℕ, ◌<◌, ◌≤◌, ◌==◌, List, Some, [], length}
use Rattle.std.specs.List.{AllByRecursion, count_by}
use Rattle.history_book.specs.declared.answer.Row.{Row}
use Rattle.history_book.specs.declared.event.Event.{Event}
use Rattle.history_book.specs.declared.event.Note.{Note}
use Rattle.history_book.specs.declared.event.Why.{Why}
use Rattle.history_book.specs.declared.filter.Filter.{Filter}
use Rattle.history_book.specs.WentOn.{Saw, WentOn}
use Rattle.history_book.specs.Filter.{selects}
use Rattle.history_book.specs.Legality.{is_reason}
use Rattle.history_book.specs.Notes.{Happened}
use Rattle.history_book.specs.Places.{HoldsNothing}
use Rattle.history_book.specs.Point.{At}
use Rattle.history_book.specs.Sight.{IsKnown, Sight}
use Rattle.history_book.specs.State.{record_of}
use Rattle.pool_visits.specs.Row.{IsRow}
use Rattle.conntrack_cmd.specs.Answer.{AreDestroyed}
use Rattle.pool_visits.specs.Visit.{AreVisited}

-- the row is an entry as it was live at the row's point
abbrev pub WasLive : List Event → Row → Type 0
WasLive log row = At log row.at (λ s. record_of row.subject.id s ≡ Some row.subject)

-- how many rows are of the entry
abbrev pub times : ℕ → List Row → ℕ
times id rows = count_by (λ (r : Row). r.subject.id == id) rows

-- the rows are of entries of places below this one, and no two of one entry
pub record AreOfPlaces (log : List Event) (count : ℕ) (rows : List Row) : Type 0 where
  pub live : AllByRecursion (WasLive log) rows
  pub below : AllByRecursion (λ r. r.subject.place < count) rows
  pub once : (id : ℕ) → times id rows ≤ 1

-- so many places were looked at, and the rows list what the filter selects
pub record IsListing (filter : Filter) (old now : Sight) (count : ℕ) (rows : List Row) : Type 0 where
  pub saw : Saw old now
  pub few : length rows ≤ count
  pub each : AllByRecursion (IsRow now.front filter (length old.front) (length now.front)) rows
  pub places : AreOfPlaces now.front count rows
  pub visited : AreVisited now.front (selects filter) count (length old.front) (length now.front) rows
  pub empty : HoldsNothing now
  pub known : IsKnown now

-- the desk went on by these events, and took no place
pub record MadeNotes (old now : Sight) (notes : List Note) : Type 0 where
  pub went : WentOn old now notes
  pub taken : now.taken ≡ old.taken
  pub happened : AllByRecursion (λ n. Happened now.front (length old.front) n × (n.number < length now.front)) notes

-- so many places were looked at; the entries of these rows were destroyed, and none is left for which the reason held
-- throughout
pub record IsDestroying (why : Why) (old now : Sight) (count : ℕ) (rows : List Row) : Type 0 where
  pub notes : List Note
  pub made : MadeNotes old now notes
  pub few : length rows ≤ count
  pub as_many : length notes ≡ length rows
  pub each : AreDestroyed now.front why notes rows
  pub places : AreOfPlaces now.front count rows
  pub visited : AreVisited now.front (is_reason why) count (length old.front) (length now.front) []
  pub empty : HoldsNothing now
  pub known : IsKnown now

-- the same where the rows are only counted
pub record IsCounting (why : Why) (old now : Sight) (count ended : ℕ) : Type 0 where
  pub rows : List Row
  pub destroying : IsDestroying why old now count rows
  pub exact : ended ≡ length rows
