-- What performing one command leaves of a desk.
use Rattle.std.specs.Prelude.{◌≡◌, ℕ, ◌+◌, ◌≤◌, List, [], length}
use Rattle.history_book.specs.declared.answer.Answer.{Answer}
use Rattle.history_book.specs.declared.event.Note.{Note}
use Rattle.history_book.specs.Sight.{Sight}
use Rattle.history_book.specs.WentOn.{WentOn}
use Rattle.conntrack_cmd.specs.Answer.{FitsCommand}
use Rattle.conntrack_cmd.specs.declared.command.Command.{Command}

-- The desk went on by the events of the answer, at most as many as there are entries and expectations, and the answer fits
-- the command on the new front; it names the moment that it was given. No place is held or owed.
pub record Performed (asked : Command) (moment : ℕ) (old new : Sight) (answer : Answer) : Type 0 where
  pub own : List Note
  pub went : WentOn old new own
  pub first : answer.first ≡ length old.own
  pub made : answer.made ≡ length own
  pub few : length own ≤ old.sizes.entries + old.sizes.expectations
  pub fits : FitsCommand new.front (length old.front) asked own answer.said answer.from answer.to
  pub timed : answer.moment ≡ moment
  pub held : new.held ≡ []
  pub owed : new.owed ≡ []
