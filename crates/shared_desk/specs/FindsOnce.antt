-- What a clerk answers that looks once for what is live under a tuple.
use Rattle.std.specs.Prelude.{◌⊎◌, ◌≡◌, ℕ, ◌<◌, Option, Some, None}
use Rattle.tuple_core.specs.declared.Tuple.{Tuple}
use Rattle.history_book.specs.Desk.{FindSays, SamePlaces}
use Rattle.history_book.specs.Sight.{Sight}
use Rattle.history_book.specs.WentOn.{Saw}
use Rattle.history_book.specs.declared.outcome.FindOutcome.{FindOutcome}
use Rattle.history_book.specs.declared.outcome.FindOutcome.TheVariants as find
use Rattle.bucket_table.specs.Finding.{AreRefsMoved, IsBucketMoved, IsLastGiven, owed_more}
use Rattle.bucket_table.specs.declared.finding.FindOnce.{FindOnce}
use Rattle.bucket_table.specs.declared.finding.FindOnce.TheVariants.{Found, Absent, Moved}
use Rattle.track_rule.specs.Readings.{added}
use Rattle.shared_desk.specs.Sights.{ClerkSight, sight_of}

-- Another pass had shut the bucket of the tuple, or changed its generation or the references of a place meanwhile. So the clerk is not
-- the only one. It holds what it held; where it gave up the last reference to a place, it owes that now, and some references became 0 in
-- the call.
pub record WasMoved (t : Tuple) (word was now : ℕ) (owed : Option ℕ) (old new : ClerkSight) : Type 0 where
  pub saw : Saw (sight_of old) (sight_of new)
  pub held : (sight_of new).held ≡ (sight_of old).held
  pub owed_is : (sight_of new).owed ≡ owed_more owed (sight_of old).owed
  pub cause : IsBucketMoved t word was now old.pass new.pass ⊎ AreRefsMoved word was now old.pass new.pass
  pub last : IsLastGiven owed (sight_of old).sizes (added old.pass.view new.pass.view)
  pub many : 1 < (sight_of old).sizes.passes

abbrev pub FindOnceSays : FindOnce → Tuple → ClerkSight → ClerkSight → Type 0
FindOnceSays (Found place id direction at) t old new = FindSays t (sight_of old) (sight_of new) (find.Found place id direction at)
FindOnceSays (Absent at) t old new = FindSays t (sight_of old) (sight_of new) (find.Absent at)
FindOnceSays (Moved word was now owed) t old new = WasMoved t word was now owed old new

-- a look that may tell nothing: the desk then has what it had, and has seen no less
abbrev pub LookSays : Option FindOutcome → Tuple → Sight → Sight → Type 0
LookSays (Some outcome) t old new = FindSays t old new outcome
LookSays None t old new = Saw old new × SamePlaces old new
