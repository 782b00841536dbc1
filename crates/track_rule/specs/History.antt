-- The history word. The history is legal. The low 40 bits of the word are its length, and the rest is the number of records
-- that are live after it.
use Rattle.std.specs.Prelude.{◌≡◌, ℕ, ◌+◌, ◌*◌, ◌/◌, ◌%◌, ◌^◌, true, List, length, slice_index}
use Rattle.history_book.specs.declared.event.Event.{Event}
use Rattle.history_book.specs.declared.record.Record.{Record}
use Rattle.history_book.specs.declared.sizes.Sizes.{Sizes}
use Rattle.history_book.specs.History.{after, is_legal}
use Rattle.history_book.specs.State.{State}

-- the state after all events, and its records
abbrev pub state_after : List Event → State
state_after log = after log (length log)

abbrev pub records_after : List Event → List Record
records_after log = (state_after log).records

abbrev pub packed : List Event → ℕ
packed log = length log + 2 ^ 40 * length (records_after log)

-- the word of these events, or their number
abbrev pub IsWord : ℕ → List Event → Type 0
IsWord word log = word ≡ packed log

abbrev pub IsNumber : ℕ → List Event → Type 0
IsNumber n log = n ≡ length log

-- the number of events, and of live records, that the word says
abbrev pub events_in : ℕ → ℕ
events_in word = word % 2 ^ 40

abbrev pub live_in : ℕ → ℕ
live_in word = word / 2 ^ 40

pub record IsHistory (z : Sizes) (log : List Event) (words : List ℕ) : Type 0 where
  pub legal : is_legal z log ≡ true
  pub word : slice_index words 0 ≡ packed log
