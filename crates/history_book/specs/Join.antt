-- A desk takes in another one of its tracker, whose thread has ended.
use Rattle.std.specs.Prelude.{◌≡◌, ◌+◌, List, ◌++◌}
use Rattle.history_book.specs.declared.event.Note.{Note}
use Rattle.history_book.specs.Places.{HoldsNothing}
use Rattle.history_book.specs.Point.{StartsWith}
use Rattle.history_book.specs.Sight.{Sight}

-- two desks of one tracker, neither of which keeps a place
pub record CanJoin (s other : Sight) : Type 0 where
  pub same : other.tracker ≡ s.tracker
  pub empty : HoldsNothing s
  pub other_empty : HoldsNothing other

-- The other's own events are given back. The desk has seen what either had seen; the other's shares, and what was
-- returned to it, count as returned to this desk, and the other's events, and what it had gathered, are gathered here.
-- All else is as it was, the desk's own shares among it.
pub record Joins (old other new : Sight) (notes : List Note) : Type 0 where
  pub front : StartsWith new.front old.front
  pub other_front : StartsWith new.front other.front
  pub given : notes ≡ other.own
  pub kept : new ≡ record old {
    front = new.front;
    returned = old.returned + (other.shares + other.returned);
    gathered = old.gathered ++ other.own ++ other.gathered;
  }
