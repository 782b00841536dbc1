-- Facts at a point of a history. Every fact of a verdict is one of these, or an event at its number.
use Rattle.std.specs.Prelude.{◌≡◌, ℕ, ◌≤◌, List, ◌++◌, length}
use Rattle.history_book.specs.declared.event.Event.{Event}
use Rattle.history_book.specs.History.{after}
use Rattle.history_book.specs.State.{State}

-- the point is within the history, and the fact is true of the state there
pub record At (log : List Event) (p : ℕ) (F : State → Type 0) : Type 0 where
  pub within : p ≤ length log
  pub fact : F (after log p)

-- the first events of a history
abbrev pub StartsWith : List Event → List Event → Type 0
StartsWith log front = (rest : List Event) × (log ≡ front ++ rest)
