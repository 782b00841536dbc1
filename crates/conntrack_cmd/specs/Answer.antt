-- When an answer fits a command and the events that the command made: by facts at points and events at numbers alone.
use Rattle.std.specs.Prelude.{◌≡◌, ℕ, ◌<◌, ◌≤◌, Bool, true, false, not, Option, Some, None, List, [], ◌∷◌, ◌++◌, length, find, AllPairs, IsPermutation}
use Rattle.std.specs.List.{AllByRecursion}
use Rattle.tuple_core.specs.declared.Tuple.{Tuple}
use Rattle.expect_table.specs.Match as expected
use Rattle.expect_table.specs.declared.expectation.Expectation.{Expectation}
use Rattle.history_book.specs.declared.answer.Row.{Row}
use Rattle.history_book.specs.declared.answer.Said.{Said}
use Rattle.history_book.specs.declared.answer.Said.TheVariants as said
use Rattle.history_book.specs.declared.event.Event.{Event}
use Rattle.history_book.specs.declared.event.Event.TheVariants.{Destroy, Unexpect}
use Rattle.history_book.specs.declared.event.Note.{Note}
use Rattle.history_book.specs.declared.event.Why.{Why}
use Rattle.history_book.specs.declared.event.Why.TheVariants.{Expired, Deleted, Flushed}
use Rattle.history_book.specs.declared.filter.Filter.{Filter}
use Rattle.history_book.specs.declared.record.Record.{Record}
use Rattle.history_book.specs.Filter.{selects}
use Rattle.history_book.specs.History.{after}
use Rattle.history_book.specs.Notes.{Happened}
use Rattle.history_book.specs.Point.{At}
use Rattle.history_book.specs.State.{Found, State, live_under, record_of}
use Rattle.proto_rules.specs.Part.{is_expired}
use Rattle.room_list.specs.Roomed.{Roomed}
use Rattle.pool_visits.specs.Row.{IsDestroyed, IsRow, has_row}
use Rattle.pool_visits.specs.Visit.{LivedThroughout, is_live_and}
use Rattle.conntrack_cmd.specs.declared.command.Command.{Command}
use Rattle.conntrack_cmd.specs.declared.command.Command.TheVariants as command

-- the rows stand in order of id, so that no entry has two
abbrev pub AreInOrder : List Row → Type 0
AreInOrder rows = AllPairs (λ r s. r.subject.id < s.subject.id) rows

-- the rows are entries that were live and that the filter selects; each that was so throughout has a row
pub record Lists (log : List Event) (filter : Filter) (own : List Note) (answer : Said) (from to : ℕ) : Type 0 where
  pub rows : Roomed Row
  pub is : answer ≡ said.Listed rows
  pub no_event : own ≡ []
  pub order : AreInOrder rows.items
  pub each : AllByRecursion (IsRow log filter from to) rows.items
  pub whole : (id : ℕ) → LivedThroughout log (selects filter) from to id → has_row id rows.items ≡ true

-- the rows are what was expected
pub record ListsExpectations (log : List Event) (own : List Note) (answer : Said) (from to : ℕ) : Type 0 where
  pub rows : Roomed Expectation
  pub is : answer ≡ said.Expectations rows
  pub no_event : own ≡ []
  pub one : from ≡ to
  pub listed : At log from (λ s. rows.items ≡ s.expects)

-- the row is what was live under the tuple, with this point; without one nothing was
abbrev pub IsGot : Tuple → ℕ → Option Row → State → Type 0
IsGot t at None s = live_under t s ≡ None
IsGot t at (Some row) s =
    (found : Found) × (live_under t s ≡ Some found) × (found.subject ≡ row.subject) × (row.at ≡ at)

pub record Gets (log : List Event) (t : Tuple) (own : List Note) (answer : Said) (from to : ℕ) : Type 0 where
  pub row : Option Row
  pub is : answer ≡ said.Got row
  pub no_event : own ≡ []
  pub one : from ≡ to
  pub found : At log from (IsGot t from row)

-- each event destroyed the entry of one row, in the order of the events
abbrev pub AreDestroyed : List Event → Why → List Note → List Row → Type 0
AreDestroyed log why [] [] = Unit {0}
AreDestroyed log why [] (row ∷ rows) = ⊥
AreDestroyed log why (note ∷ notes) [] = ⊥
AreDestroyed log why (note ∷ notes) (row ∷ rows) = IsDestroyed log why note row × AreDestroyed log why notes rows

-- no entry that was live at the first point and passed the test is live at the last
abbrev pub NoneIsLeft : List Event → (Record → Bool) → ℕ → ℕ → Type 0
NoneIsLeft log test from to =
    (id : ℕ) → is_live_and test (record_of id (after log from)) ≡ true → record_of id (after log to) ≡ None

-- the events are Destroys of entries that the filter selects, and the rows, in order of id, are what they found
pub record Deletes (log : List Event) (filter : Filter) (own : List Note) (answer : Said) (from to : ℕ) : Type 0 where
  pub rows : Roomed Row
  pub is : answer ≡ said.Deleted rows
  pub found : List Row
  pub each : AreDestroyed log (Deleted filter) own found
  pub same : IsPermutation found rows.items
  pub order : AreInOrder rows.items
  pub left : NoneIsLeft log (selects filter) from to

-- the event is a Destroy for this reason
abbrev pub IsDestroyFor : Why → Note → Type 0
IsDestroyFor why note = (id : ℕ) × (note.event ≡ Destroy id why)

pub record Flushes (log : List Event) (own : List Note) (answer : Said) (from to : ℕ) : Type 0 where
  pub is : answer ≡ said.Flushed
  pub each : AllByRecursion (IsDestroyFor Flushed) own
  pub left : NoneIsLeft log (λ r. true) from to

pub record Counts (log : List Event) (own : List Note) (answer : Said) (from to : ℕ) : Type 0 where
  pub live : ℕ
  pub is : answer ≡ said.Counted live
  pub no_event : own ≡ []
  pub one : from ≡ to
  pub counted : At log from (λ s. live ≡ length s.records)

-- the event is an Unexpect at this moment
abbrev pub IsUnexpectAt : ℕ → Note → Type 0
IsUnexpectAt moment note = (id : ℕ) × (note.event ≡ Unexpect id moment)

-- an expectation is there, and is awaited no longer at the moment
abbrev pub is_there_and_late : ℕ → Option Expectation → Bool
is_there_and_late moment None = false
is_there_and_late moment (Some e) = not (expected.is_awaited moment e)

-- no expectation that was late at the first point is there at the last
abbrev pub NoLateIsLeft : List Event → ℕ → ℕ → ℕ → Type 0
NoLateIsLeft log moment from to =
    (id : ℕ) → is_there_and_late moment (find (expected.has_id id) (after log from).expects) ≡ true
    → find (expected.has_id id) (after log to).expects ≡ None

-- the events are so many Destroys of expired entries and then so many Unexpects; no entry was expired throughout
pub record Expires (log : List Event) (moment : ℕ) (own : List Note) (answer : Said) (from to : ℕ) : Type 0 where
  pub kills : List Note
  pub ends : List Note
  pub is : answer ≡ said.Expired (length kills) (length ends)
  pub all : own ≡ kills ++ ends
  pub killed : AllByRecursion (IsDestroyFor (Expired moment)) kills
  pub ended : AllByRecursion (IsUnexpectAt moment) ends
  pub no_survivor : (id : ℕ) → LivedThroughout log (λ r. is_expired r.part moment) from to id → ⊥
  pub left : NoLateIsLeft log moment from to

-- what is said fits the command, between these points
abbrev pub FitsCommandFrom : List Event → Command → List Note → Said → ℕ → ℕ → Type 0
FitsCommandFrom log (command.List filter) own answer from to = Lists log filter own answer from to
FitsCommandFrom log command.ListExpect own answer from to = ListsExpectations log own answer from to
FitsCommandFrom log (command.Get t) own answer from to = Gets log t own answer from to
FitsCommandFrom log (command.Delete filter) own answer from to = Deletes log filter own answer from to
FitsCommandFrom log command.Flush own answer from to = Flushes log own answer from to
FitsCommandFrom log command.Count own answer from to = Counts log own answer from to
FitsCommandFrom log (command.Expire moment) own answer from to = Expires log moment own answer from to

-- The answer fits the command and the events that the command made: from the mark on, within the history, and each
-- event between the answer's points.
pub record FitsCommand (log : List Event) (mark : ℕ) (asked : Command) (own : List Note) (answer : Said)
    (from to : ℕ) : Type 0 where
  pub later : mark ≤ from
  pub order : from ≤ to
  pub within : to ≤ length log
  pub events : AllByRecursion (λ n. Happened log from n × (n.number < to)) own
  pub fits : FitsCommandFrom log asked own answer from to
