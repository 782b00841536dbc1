-- Events with the numbers that they have one after another.
use Rattle.std.proofs.Common.{ℕ, ◌+◌, List, [], ◌∷◌}
use Rattle.history_book.specs.declared.event.Event.{Event}
use Rattle.history_book.specs.declared.event.Note.{Note}

-- the events, numbered from n
abbrev pub noted : ℕ → List Event → List Note
noted n [] = []
noted n (e ∷ es) = record { number = n; event = e } ∷ noted (n + 1) es
