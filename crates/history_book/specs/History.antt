-- The one history: a list of events, each of which may happen in the state that those before it leave.
use Rattle.std.specs.Prelude.{ℕ, ◌+◌, Bool, true, ◌&&◌, List, [], ◌∷◌, take}
use Rattle.history_book.specs.declared.event.Event.{Event}
use Rattle.history_book.specs.declared.sizes.Sizes.{Sizes}
use Rattle.history_book.specs.Legality.{may_happen}
use Rattle.history_book.specs.State.{State, empty_state, next}

-- the state that a list of events leaves
abbrev pub run : State → List Event → State
run s [] = s
run s (e ∷ es) = run (next s e) es

-- the events, numbered from n, may happen one after another
abbrev pub is_legal_from : Sizes → State → ℕ → List Event → Bool
is_legal_from sizes s n [] = true
is_legal_from sizes s n (e ∷ es) = may_happen sizes s n e && is_legal_from sizes (next s e) (n + 1) es

-- a legal history of a tracker of these sizes
unfoldable pub is_legal : Sizes → List Event → Bool
is_legal sizes log = is_legal_from sizes empty_state 0 log

-- the state at point p: after the first p events
unfoldable pub after : List Event → ℕ → State
after log p = run empty_state (take p log)
