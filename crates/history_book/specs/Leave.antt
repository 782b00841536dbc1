-- A desk that keeps no place is left, and what was left is taken up again later, also by another thread.
use Rattle.std.specs.Prelude.{◌≡◌, ℕ, List}
use Rattle.history_book.specs.Places.{HoldsNothing}
use Rattle.history_book.specs.Sight.{Sight}

-- what was left knows all that the desk knew
abbrev pub IsLeftOf : Sight → Sight → Type 0
IsLeftOf desk left = left ≡ desk

-- what was left of a desk of this tracker, which kept no place
pub record CanTakeUp (tracker : List ℕ) (left : Sight) : Type 0 where
  pub same : left.tracker ≡ tracker
  pub empty : HoldsNothing left

-- the desk that takes it up knows all of it again
abbrev pub TakesUp : Sight → Sight → Type 0
TakesUp left desk = desk ≡ left
