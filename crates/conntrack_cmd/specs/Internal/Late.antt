-- Ending what is expected no longer, one expectation after the other.
use Rattle.std.specs.Prelude.{◌≡◌, ℕ, ◌<◌, ◌≤◌, Bool, true, false, Some, None, List, length, find, slice_get}
use Rattle.std.specs.List.{AllByRecursion}
use Rattle.expect_table.specs.Match.{has_id, is_awaited}
use Rattle.expect_table.specs.declared.expectation.Expectation.{Expectation}
use Rattle.history_book.specs.declared.event.Event.{Event}
use Rattle.history_book.specs.declared.event.Event.TheVariants.{Unexpect}
use Rattle.history_book.specs.declared.event.Note.{Note}
use Rattle.history_book.specs.WentOn.{MadeEvent, Saw}
use Rattle.history_book.specs.History.{after}
use Rattle.history_book.specs.Places.{HoldsNothing}
use Rattle.history_book.specs.Sight.{IsKnown, Sight}
use Rattle.conntrack_cmd.specs.Answer.{IsUnexpectAt}
use Rattle.conntrack_cmd.specs.Internal.Loops.{MadeNotes}

-- at some point from the one to the other there was no expectation of the id
pub record IsOver (log : List Event) (from to id : ℕ) : Type 0 where
  pub at : ℕ
  pub low : from ≤ at
  pub high : at ≤ to
  pub none : find (has_id id) (after log at).expects ≡ None

-- where the expectation is awaited no longer at the moment, it is over at such a point
abbrev pub IsOverWhereLate : List Event → ℕ → ℕ → ℕ → Expectation → Type 0
IsOverWhereLate log moment from to e = is_awaited moment e ≡ false → IsOver log from to e.id

-- one event ended the expectation; or the desk looked and made no event
abbrev pub EndsOrSaw : ℕ → ℕ → Sight → Sight → Bool → Type 0
EndsOrSaw moment id old new true = (number : ℕ) × MadeEvent old new number (Unexpect id moment)
EndsOrSaw moment id old new false = Saw old new

-- so many of the listed expectations were looked at, and so many ended by an event
pub record IsEnding (moment : ℕ) (old now : Sight) (listed : List Expectation) (count ended : ℕ) : Type 0 where
  pub notes : List Note
  pub made : MadeNotes old now notes
  pub exact : ended ≡ length notes
  pub few : ended ≤ count
  pub each : AllByRecursion (IsUnexpectAt moment) notes
  pub over : (k : ℕ) (e : Expectation) → k < count → slice_get listed k ≡ Some e
      → IsOverWhereLate now.front moment (length old.front) (length now.front) e
  pub empty : HoldsNothing now
  pub known : IsKnown now
