-- The events of several threads under their names, one after the other, and a history into which they are laid.
use Rattle.std.specs.Prelude.{◌≡◌, ℕ, ◌+◌, ◌<◌, ◌^◌, All, List, [], ◌∷◌, ◌++◌, drop, length, map, slice_index_or, slice_set, take}
use Rattle.history_book.specs.declared.event.Note.{Note}
use Rattle.history_book.specs.declared.event.Numbered.{Numbered}
use Rattle.history_book.specs.declared.verdict.Verdict.{Verdict}
use Rattle.history_book.specs.Merge.{EventSpan, spans_of_verdicts}
use Rattle.room_list.specs.Roomed.{Roomed}

-- the packet or command of this index of the thread made these events
abbrev pub named : ℕ → ℕ → List Note → List Numbered
named thread index notes =
    map (λ (n : Note). record { number = n.number; thread = thread; index = index; event = n.event }) notes

-- each span has the next of these events, from this index on
abbrev pub named_in : ℕ → ℕ → List Note → List EventSpan → List Numbered
named_in thread index notes [] = []
named_in thread index notes (s ∷ ss) =
    named thread index (take s.made notes) ++ named_in thread (index + 1) (drop s.made notes) ss

-- the events of each thread, from this one on
abbrev pub all_named : ℕ → List (Roomed Note) → List (List EventSpan) → List Numbered
all_named thread [] sss = []
all_named thread (notes ∷ lists) [] = []
all_named thread (notes ∷ lists) (ss ∷ sss) = named_in thread 0 notes.items ss ++ all_named (thread + 1) lists sss

-- the same of threads alone, without a script
abbrev pub threads_named : ℕ → List (Roomed Note) → List (Roomed Verdict) → List Numbered
threads_named thread lists threads =
    all_named thread lists (map (λ (vs : Roomed Verdict). spans_of_verdicts vs.items) threads)

-- the history in which each of these has taken the place of its number
abbrev pub laid : List Numbered → List Numbered → List Numbered
laid [] history = history
laid (n ∷ ns) history = laid ns (slice_set history n.number n)

-- how many events these spans have
abbrev pub made_in : List EventSpan → ℕ
made_in [] = 0
made_in (s ∷ ss) = s.made + made_in ss

-- these events have a place in a history of this length
abbrev pub HavePlaces : ℕ → List Note → Type 0
HavePlaces total notes = All (λ n. n.number < total) notes

abbrev pub AllHavePlaces : ℕ → List (Roomed Note) → Type 0
AllHavePlaces total lists = All (λ (notes : Roomed Note). HavePlaces total notes.items) lists

-- each thread has few verdicts and a list of events, all of which its verdicts have and the history has a place for
pub record AreLayable (total : ℕ) (lists : List (Roomed Note)) (threads : List (Roomed Verdict)) : Type 0 where
  pub few : All (λ vs. length vs.items < 2 ^ 32) threads
  pub covered : (k : ℕ) (d : Roomed Note) (e : Roomed Verdict) → k < length threads
      → made_in (spans_of_verdicts (slice_index_or threads k e).items) ≡ length (slice_index_or lists k d).items
  pub placed : AllHavePlaces total lists
