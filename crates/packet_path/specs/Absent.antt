-- A packet of a flow that had no entry.
use Rattle.std.specs.Prelude.{◌≡◌, ℕ, ◌≤◌, None, List}
use Rattle.tuple_core.specs.declared.Tuple.{Tuple}
use Rattle.history_book.specs.declared.event.Event.{Event}
use Rattle.history_book.specs.Point.{At}
use Rattle.history_book.specs.State.{live_under}

-- nothing was live under the tuple at some point from k up to this one
pub record WasAbsent (log : List Event) (k : ℕ) (t : Tuple) (upto : ℕ) : Type 0 where
  pub at : ℕ
  pub from : k ≤ at
  pub before : at ≤ upto
  pub absent : At log at (λ s. live_under t s ≡ None)
