-- Lists of events of several threads as one history, each event named by the thread and the packet or command that
-- made it.
use Rattle.std.specs.Prelude.{◌≡◌, ◌≢◌, ℕ, ◌+◌, ◌<◌, ◌≤◌, List, [], ◌∷◌, ◌++◌, length, map, slice_get, Some, All, AllPairs}
use Rattle.room_list.specs.Roomed.{Roomed}
use Rattle.history_book.specs.declared.answer.Answer.{Answer}
use Rattle.history_book.specs.declared.event.Note.{Note}
use Rattle.history_book.specs.declared.event.Numbered.{Numbered}
use Rattle.history_book.specs.declared.verdict.Verdict.{Verdict}

-- which of its thread's events a packet or a command made: so many of them, from this index on
pub record EventSpan : Type 0 where
  pub first : ℕ
  pub made : ℕ

-- the spans of the packets of a thread, and of the commands of the script
abbrev pub spans_of_verdicts : List Verdict → List EventSpan
spans_of_verdicts verdicts = map (λ (v : Verdict). record { first = v.first; made = v.made }) verdicts

abbrev pub spans_of_answers : List Answer → List EventSpan
spans_of_answers answers = map (λ (a : Answer). record { first = a.first; made = a.made }) answers

-- the spans of each thread, the script's last
abbrev pub spans_of : List (Roomed Verdict) → List Answer → List (List EventSpan)
spans_of threads answers =
    map (λ (vs : Roomed Verdict). spans_of_verdicts vs.items) threads ++ spans_of_answers answers ∷ []

-- the spans follow each other from this index on, and together are all of so many events
abbrev pub CoverFrom : ℕ → ℕ → List EventSpan → Type 0
CoverFrom at total [] = at ≡ total
CoverFrom at total (s ∷ ss) = (s.first ≡ at) × CoverFrom (at + s.made) total ss

-- the spans of each thread cover its events
abbrev pub CoverEach : List (Roomed Note) → List (List EventSpan) → Type 0
CoverEach [] [] = Unit {0}
CoverEach [] (ss ∷ sss) = ⊥
CoverEach (notes ∷ lists) [] = ⊥
CoverEach (notes ∷ lists) (ss ∷ sss) = CoverFrom 0 (length notes.items) ss × CoverEach lists sss

-- the events of all threads, one thread after the other
abbrev pub all_notes : List (Roomed Note) → List Note
all_notes [] = []
all_notes (notes ∷ lists) = notes.items ++ all_notes lists

-- their numbers are 0, 1, 2 and so on, each once, in whatever order
pub record AreNumbers (notes : List Note) : Type 0 where
  pub below : All (λ n. n.number < length notes) notes
  pub once : AllPairs (λ m n. m.number ≢ n.number) notes

-- the event of a thread stands in the history at its number, and names the thread and the packet or command of which
-- the span has it
pub record IsNamed (history : List Numbered) (thread index : ℕ) (note : Note) : Type 0 where
  pub stands : slice_get history note.number
      ≡ Some (record { number = note.number; thread = thread; index = index; event = note.event })

-- each event of each thread stands in the history by its name, and the history has no others
pub record IsMerged (lists : List (Roomed Note)) (spans : List (List EventSpan)) (history : List Numbered) : Type 0 where
  pub whole : length history ≡ length (all_notes lists)
  pub each : (thread at index : ℕ) (notes : Roomed Note) (note : Note) (ss : List EventSpan) (span : EventSpan)
      → slice_get lists thread ≡ Some notes → slice_get notes.items at ≡ Some note
      → slice_get spans thread ≡ Some ss → slice_get ss index ≡ Some span
      → span.first ≤ at → at < span.first + span.made → IsNamed history thread index note
