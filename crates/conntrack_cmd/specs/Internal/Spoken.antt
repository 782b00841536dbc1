-- What performing a command leaves of a desk, before the answer is given its number of events.
use Rattle.std.specs.Prelude.{◌≡◌, ◌+◌, ◌≤◌, Option, Some, None, List, length}
use Rattle.tuple_core.specs.declared.Tuple.{Tuple}
use Rattle.history_book.specs.declared.event.Note.{Note}
use Rattle.history_book.specs.WentOn.{Saw, WentOn}
use Rattle.history_book.specs.Places.{HoldsNothing}
use Rattle.history_book.specs.Sight.{Sight}
use Rattle.conntrack_cmd.specs.declared.command.Command.{Command}
use Rattle.conntrack_cmd.specs.declared.command.Command.TheVariants as command
use Rattle.conntrack_cmd.specs.declared.spoken.Spoken.{Spoken}
use Rattle.conntrack_cmd.specs.Answer.{FitsCommand}

-- what is said fits the command and the further own events; no place was taken, and nothing is held or owed
pub record Speaks (asked : Command) (old new : Sight) (spoken : Spoken) : Type 0 where
  pub own : List Note
  pub went : WentOn old new own
  pub few : length own ≤ old.sizes.entries + old.sizes.expectations
  pub fits : FitsCommand new.front (length old.front) asked own spoken.said spoken.from spoken.to
  pub taken : new.taken ≡ old.taken
  pub empty : HoldsNothing new

-- one look under the tuple says what is live there, or is to be made again
abbrev pub GetsOrSaw : Tuple → Sight → Sight → Option Spoken → Type 0
GetsOrSaw t old new None = Saw old new
GetsOrSaw t old new (Some spoken) = Speaks (command.Get t) old new spoken
