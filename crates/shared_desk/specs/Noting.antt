-- The own events of a clerk after it confirmed a flow, or did something else by an event or by none.
use Rattle.std.specs.Prelude.{ℕ, ◌-◌, Option, Some, None, [], ◌∷◌, ◌++◌}
use Rattle.room_list.specs.Roomed.{Roomed}
use Rattle.history_book.specs.Entry.{record_for}
use Rattle.history_book.specs.declared.event.Event.TheVariants as event
use Rattle.history_book.specs.declared.event.Note.{Note}
use Rattle.history_book.specs.declared.outcome.ConfirmOutcome.{ConfirmOutcome}
use Rattle.history_book.specs.declared.outcome.ConfirmOutcome.TheVariants.{Confirmed, Clash}
use Rattle.history_book.specs.declared.record.Flow.{Flow}

-- the Confirm more, if it was made
abbrev pub made_by : ℕ → Flow → ConfirmOutcome → Roomed Note → Roomed Note
made_by place flow (Confirmed id) notes = record notes { items = notes.items ++ record { number = id; event = event.Confirm (record_for flow id place) } ∷ [] }
made_by place flow (Clash id direction both at) notes = notes

-- and room for one event less
abbrev pub room_for : ConfirmOutcome → ℕ → ℕ
room_for (Confirmed id) spare = spare - 1
room_for (Clash id direction both at) spare = spare

-- an event more, if there is one
abbrev pub with_note : Option Note → Roomed Note → Roomed Note
with_note None notes = notes
with_note (Some note) notes = record notes { items = notes.items ++ note ∷ [] }

abbrev pub room_after : Option Note → ℕ → ℕ
room_after None spare = spare
room_after (Some note) spare = spare - 1
