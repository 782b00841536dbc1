-- The search for a free number.
use Rattle.std.specs.Prelude.{◌≡◌, ◌≢◌, ℕ, ◌+◌, ◌<◌, ◌≤◌, true, List, length}
use Rattle.tuple_core.specs.Tuple.{is_valid}
use Rattle.tuple_core.specs.declared.Tuple.{Tuple}
use Rattle.history_book.specs.declared.event.Event.{Event}
use Rattle.history_book.specs.Desk.{SamePlaces}
use Rattle.history_book.specs.Point.{At}
use Rattle.history_book.specs.Sight.{Sight}
use Rattle.history_book.specs.WentOn.{Looked, Saw}
use Rattle.history_book.specs.State.{is_free}
use Rattle.nat_setup.specs.declared.reply.Choice.{Choice}
use Rattle.nat_setup.specs.declared.rule.Rule.{Rule}
use Rattle.nat_setup.specs.declared.search.Probe.{Probe}
use Rattle.nat_setup.specs.declared.search.Probe.TheVariants as probe
use Rattle.nat_setup.specs.declared.search.Search.{Search}
use Rattle.nat_setup.specs.declared.search.Search.TheVariants as search
use Rattle.nat_setup.specs.declared.search.Stretch.{Stretch}
use Rattle.nat_setup.specs.Reply.{reply_with}
use Rattle.nat_setup.specs.Translation.{AtSomePoint, IsTaken}

-- what one look at a tuple says
abbrev pub ProbeSays : Tuple → Sight → Sight → Probe → Type 0
ProbeSays t old new (probe.Free at) = Looked old new at (λ s. is_free t s ≡ true)
ProbeSays t old new (probe.Taken at) = Looked old new at (IsTaken t)

-- the numbers of a choice but for one, which was tried at this point
abbrev pub others_of : Choice → ℕ → ℕ → Stretch
others_of choice tried from = record { lowest = choice.low; end = choice.high + 1; tried = tried; from = from; since = from }

-- each number of the stretch was taken at a point from its first one to this one
abbrev pub AreTaken : List Event → Rule → Tuple → Stretch → ℕ → Type 0
AreTaken log rule t stretch to =
    (number : ℕ) → stretch.lowest ≤ number → number < stretch.end → number ≢ stretch.tried
    → AtSomePoint log stretch.from to (IsTaken (reply_with rule t number))

-- the desk saw no less, the last point is no earlier than those of the stretch and one that the desk has seen,
-- and the numbers of the stretch were taken
pub record IsSearching (rule : Rule) (t : Tuple) (stretch : Stretch) (old now : Sight) (to : ℕ) : Type 0 where
  pub saw : Saw old now
  pub same : SamePlaces old now
  pub ordered : stretch.from ≤ to
  pub later : stretch.since ≤ to
  pub seen : to ≤ length now.front
  pub taken : AreTaken now.front rule t stretch to

-- the reply tuple is that of a number of the stretch, and was free at this point
pub record FindsFree (rule : Rule) (t : Tuple) (stretch : Stretch) (old new : Sight) (reply : Tuple) (at : ℕ) : Type 0 where
  pub number : ℕ
  pub low : stretch.lowest ≤ number
  pub high : number < stretch.end
  pub other : number ≢ stretch.tried
  pub gives : reply ≡ reply_with rule t number
  pub valid : is_valid reply ≡ true
  pub later : length old.front ≤ at
  pub free : At new.front at (λ s. is_free reply s ≡ true)

-- what a search of a stretch says
abbrev pub SearchSays : Rule → Tuple → Stretch → Sight → Sight → Search → Type 0
SearchSays rule t stretch old new (search.Found reply at) = FindsFree rule t stretch old new reply at
SearchSays rule t stretch old new (search.AllTaken to) = IsSearching rule t stretch old new to
