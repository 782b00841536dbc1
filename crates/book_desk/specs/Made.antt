-- What a call adds that made an event, or none.
use Rattle.std.specs.Prelude.{ℕ, Option, Some, None, List, [], ◌∷◌, ◌++◌}
use Rattle.history_book.specs.declared.event.Event.{Event}
use Rattle.history_book.specs.declared.event.Note.{Note}

-- the events once a call made this one, or none
abbrev pub with_made : List Event → Option Event → List Event
with_made log None = log
with_made log (Some e) = log ++ e ∷ []

-- the notes, and this event if there is one
abbrev pub noted : List Note → ℕ → Option Event → List Note
noted notes number None = notes
noted notes number (Some e) = notes ++ record { number = number; event = e } ∷ []
