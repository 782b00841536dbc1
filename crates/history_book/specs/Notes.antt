-- A thread's own events.
use Rattle.std.specs.Prelude.{◌≡◌, ℕ, ◌≤◌, Some, List, slice_get}
use Rattle.history_book.specs.declared.event.Event.{Event}
use Rattle.history_book.specs.declared.event.Note.{Note}

-- the note is an event of the history, made no earlier than the mark
pub record Happened (log : List Event) (mark : ℕ) (note : Note) : Type 0 where
  pub event : slice_get log note.number ≡ Some note.event
  pub later : mark ≤ note.number
