-- The history as an order of the threads' events, which stand in the threads' own lists, and events that were pushed.
use Rattle.std.specs.Prelude.{ℕ, ◌≡◌, ◌+◌, ◌<◌, ◌≤◌, ◌^◌, Option, None, Some, List, [], All, length, map, slice_get, slice_index_or}
use Rattle.history_book.specs.declared.event.Event.TheVariants.{Unexpect}
use Rattle.history_book.specs.declared.event.Note.{Note}
use Rattle.history_book.specs.declared.event.Numbered.{Numbered}
use Rattle.history_book.specs.declared.order.Origin.{Origin}
use Rattle.room_list.specs.Roomed.{Roomed}

abbrev pub no_notes : Roomed Note
no_notes = record { items = []; room = 0 }

-- the events of this thread; none where there is no such thread
abbrev pub notes_in : List (Roomed Note) → ℕ → List Note
notes_in lists thread = (slice_index_or lists thread no_notes).items

-- an event under the thread and the packet or command that made it. None: the event of a blank order, which IsWithin
-- excludes; its number is that of no event
abbrev pub numbered_as : ℕ → ℕ → Option Note → Numbered
numbered_as thread index None =
    record { number = 2 ^ 64; thread = thread; index = index; event = Unexpect 0 0 }
numbered_as thread index (Some note) =
    record { number = note.number; thread = thread; index = index; event = note.event }

-- the event of this origin
abbrev pub numbered_in : List (Roomed Note) → Origin → Numbered
numbered_in lists origin = numbered_as origin.thread origin.index (slice_get (notes_in lists origin.thread) origin.note)

-- the events of these origins, in their order
abbrev pub in_order : List (Roomed Note) → List Origin → List Numbered
in_order lists order = map (λ (o : Origin). numbered_in lists o) order

-- the event of this origin stands in its thread's list
pub record IsWithin (lists : List (Roomed Note)) (origin : Origin) : Type 0 where
  pub thread : origin.thread < length lists
  pub note : origin.note < length (notes_in lists origin.thread)

-- the events of the order stand in the lists, those behind them are counted too, and those alone would fill the room
pub record IsKept (lists : List (Roomed Note)) (order : List Origin) (pushed : Roomed Numbered) (len room : ℕ) : Type 0 where
  pub within : All (IsWithin lists) order
  pub long : len ≡ length order + length pushed.items
  pub pushed_room : room ≤ pushed.room
