-- How what a desk knows goes on. Old and new are what it knew before some calls and what it knows after them.
use Rattle.std.specs.Prelude.{◌≡◌, ℕ, ◌+◌, ◌<◌, ◌≤◌, Some, List, [], ◌∷◌, ◌++◌, length, slice_get}
use Rattle.history_book.specs.declared.event.Event.{Event}
use Rattle.history_book.specs.declared.event.Note.{Note}
use Rattle.history_book.specs.Point.{At, StartsWith}
use Rattle.history_book.specs.Sight.{Sight}
use Rattle.history_book.specs.State.{State}

-- it is of the same tracker, with the same shares of its passes, and of no further desk that joined it
pub record IsSamePass (old new : Sight) : Type 0 where
  pub tracker : new.tracker ≡ old.tracker
  pub sizes : new.sizes ≡ old.sizes
  pub shares : new.shares ≡ old.shares
  pub returned : new.returned ≡ old.returned
  pub gathered : new.gathered ≡ old.gathered

-- The desk saw no less than before, and made these events of its own. It has as much room for further ones as these
-- left, or more where it asked for some. What it holds, owes and took is said beside this.
pub record WentOn (old new : Sight) (made : List Note) : Type 0 where
  pub front : StartsWith new.front old.front
  pub own : new.own ≡ old.own ++ made
  pub spare : old.spare ≤ new.spare + length made
  pub pass : IsSamePass old new

-- it saw no less than before, made no event and took no place
pub record Saw (old new : Sight) : Type 0 where
  pub went : WentOn old new []
  pub spare : new.spare ≡ old.spare
  pub taken : new.taken ≡ old.taken

-- it looked: this was so at the point, which is no older than what it had seen
pub record Looked (old new : Sight) (at : ℕ) (F : State → Type 0) : Type 0 where
  pub saw : Saw old new
  pub low : length old.front ≤ at
  pub fact : At new.front at F

-- it made one event of its own, of which it had not seen the number, and took no place
pub record MadeEvent (old new : Sight) (number : ℕ) (event : Event) : Type 0 where
  pub went : WentOn old new (record { number = number; event = event } ∷ [])
  pub spare : old.spare ≡ new.spare + 1
  pub low : length old.front ≤ number
  pub high : number < length new.front
  pub happened : slice_get new.front number ≡ Some event
  pub taken : new.taken ≡ old.taken
