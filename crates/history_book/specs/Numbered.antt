-- Lists of events with their numbers.
use Rattle.std.specs.Prelude.{◌≡◌, ℕ, ◌+◌, List, [], ◌∷◌, map}
use Rattle.history_book.specs.declared.event.Event.{Event}
use Rattle.history_book.specs.declared.event.Note.{Note}
use Rattle.history_book.specs.declared.event.Numbered.{Numbered}

-- the events alone
abbrev pub events_of : List Numbered → List Event
events_of history = map (λ (n : Numbered). n.event) history

-- the events with their numbers, without who made them
abbrev pub notes_of : List Numbered → List Note
notes_of history = map (λ (n : Numbered). record { number = n.number; event = n.event }) history

-- the numbers are n, n + 1, n + 2 and so on
abbrev pub IsNumberedFrom : ℕ → List Numbered → Type 0
IsNumberedFrom n [] = Unit {0}
IsNumberedFrom n (e ∷ es) = (e.number ≡ n) × IsNumberedFrom (n + 1) es
