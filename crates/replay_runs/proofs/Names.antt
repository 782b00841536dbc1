-- The events of several threads, each named by the thread and the packet or command that made it.
use Rattle.std.proofs.Common.{◌≡◌, ℕ, zero, suc, ◌+◌, ◌<◌, ◌≤◌, List, [], ◌∷◌, ◌++◌, length, map, take, drop, Some, slice_get, refl, sym, ap, subst, ◌∙◌, arith, length-drop}
use Rattle.std.specs.List.{AllByRecursion}
use Rattle.std.proofs.lemmas.List.{map-append, take-append-drop}
use Rattle.room_list.specs.Roomed.{Roomed}
use Rattle.history_book.specs.declared.event.Note.{Note}
use Rattle.history_book.specs.declared.event.Numbered.{Numbered}
use Rattle.history_book.specs.Merge.{all_notes, CoverEach, CoverFrom, IsMerged, EventSpan}
use Rattle.history_book.specs.Numbered.{notes_of}
use Rattle.replay_runs.proofs.Each.{each_append}

abbrev pub name_of : ℕ → ℕ → Note → Numbered
name_of thread index n = record { number = n.number; thread = thread; index = index; event = n.event }

-- the packet or command of this index of the thread made these events
abbrev pub named : ℕ → ℕ → List Note → List Numbered
named thread index notes = map (name_of thread index) notes

-- each span has the next of these events, from this index on
abbrev pub named_in : ℕ → ℕ → List Note → List EventSpan → List Numbered
named_in thread index notes [] = []
named_in thread index notes (s ∷ ss) =
    named thread index (take s.made notes) ++ named_in thread (index + 1) (drop s.made notes) ss

-- the events of each thread, from this one on
abbrev pub all_named : ℕ → List (Roomed Note) → List (List EventSpan) → List Numbered
all_named thread [] sss = []
all_named thread (notes ∷ lists) [] = []
all_named thread (notes ∷ lists) (ss ∷ sss) = named_in thread 0 notes.items ss ++ all_named (thread + 1) lists sss

-- naming leaves the events as they are
pub named_notes : (thread index : ℕ) (notes : List Note) → notes_of (named thread index notes) ≡ notes
named_notes thread index [] = refl
named_notes thread index (n ∷ ns) = ap (λ xs. n ∷ xs) (named_notes thread index ns)

notes_of-append : (xs ys : List Numbered) → notes_of (xs ++ ys) ≡ notes_of xs ++ notes_of ys
notes_of-append xs ys = map-append (λ (n : Numbered). record { number = n.number; event = n.event }) xs ys

-- spans end no earlier than they begin
pub cover_le : (at total : ℕ) (ss : List EventSpan) → CoverFrom at total ss → at ≤ total
cover_le at total [] covers = omega (arith, covers)
cover_le at total (s ∷ ss) (here, covers) = omega (arith, cover_le (at + s.made) total ss covers)

-- the spans have all of the events
pub named_in_notes : (thread index at total : ℕ) (notes : List Note) (ss : List EventSpan) → CoverFrom at total ss
    → total ≡ at + length notes → notes_of (named_in thread index notes ss) ≡ notes
named_in_notes thread index at total [] [] covers long = refl
named_in_notes thread index at total (n ∷ notes) [] covers long = absurd (omega (arith, covers))
named_in_notes thread index at total notes (s ∷ ss) (here, covers) long =
    let within : s.made ≤ length notes = omega (arith, cover_le (at + s.made) total ss covers) in
    notes_of-append (named thread index (take s.made notes)) (named_in thread (index + 1) (drop s.made notes) ss)
    ∙ ap (λ xs. xs ++ notes_of (named_in thread (index + 1) (drop s.made notes) ss)) (named_notes thread index (take s.made notes))
    ∙ ap (λ xs. take s.made notes ++ xs)
    (named_in_notes thread (index + 1) (at + s.made) total (drop s.made notes) ss covers (omega (arith, long, within, length-drop s.made notes)))
    ∙ take-append-drop s.made notes

-- so have those of all threads
pub all_named_notes : (thread : ℕ) (lists : List (Roomed Note)) (sss : List (List EventSpan)) → CoverEach lists sss
    → notes_of (all_named thread lists sss) ≡ all_notes lists
all_named_notes thread [] sss covers = refl
all_named_notes thread (l ∷ lists) [] covers = absurd covers
all_named_notes thread (l ∷ lists) (ss ∷ sss) (here, covers) =
    notes_of-append (named_in thread 0 l.items ss) (all_named (thread + 1) lists sss)
    ∙ ap (λ xs. xs ++ notes_of (all_named (thread + 1) lists sss))
    (named_in_notes thread 0 0 (length l.items) l.items ss here (omega arith))
    ∙ ap (λ xs. l.items ++ xs) (all_named_notes (thread + 1) lists sss covers)

get-drop : {X : Type 0} (m k l : ℕ) (xs : List X) → l ≡ m + k → slice_get (drop m xs) k ≡ slice_get xs l
get-drop zero k l xs e = ap (slice_get xs) (omega arith)
get-drop (suc m) k l [] e = refl
get-drop (suc m) k zero (x ∷ xs) e = absurd (omega arith)
get-drop (suc m) k (suc l) (x ∷ xs) e = get-drop m k l xs (omega arith)

-- what holds of the name of each of the first events holds of their names
each_of_share : (P : Numbered → Type 0) (thread index m : ℕ) (notes : List Note)
    → ((k : ℕ) (note : Note) → k < m → slice_get notes k ≡ Some note → P (name_of thread index note))
    → AllByRecursion P (named thread index (take m notes))
each_of_share P thread index zero notes h = tt
each_of_share P thread index (suc m) [] h = tt
each_of_share P thread index (suc m) (n ∷ notes) h = (
  h zero n (omega arith) refl,
  each_of_share P thread index m notes (λ k note below is. h (suc k) note (omega (arith, below)) is),
)

-- what holds of the name of each event of each span holds of the names of all
each_of_shares : (P : Numbered → Type 0) (thread from at total : ℕ) (notes : List Note) (ss : List EventSpan) → CoverFrom at total ss
    → ((k j index : ℕ) (note : Note) (span : EventSpan) → index ≡ from + j → slice_get notes k ≡ Some note → slice_get ss j ≡ Some span
    → span.first ≤ at + k → at + k < span.first + span.made → P (name_of thread index note))
    → AllByRecursion P (named_in thread from notes ss)
each_of_shares P thread from at total notes [] covers h = tt
each_of_shares P thread from at total notes (s ∷ ss) (here, covers) h =
    each_append P (named thread from (take s.made notes)) (named_in thread (from + 1) (drop s.made notes) ss)
    (each_of_share P thread from s.made notes
    (λ k note below is. h k 0 from note s (omega arith) is refl (omega (arith, here)) (omega (arith, here, below))))
    (each_of_shares P thread (from + 1) (at + s.made) total (drop s.made notes) ss covers
    (λ k j index note span e is_note is_share low high.
    h (s.made + k) (suc j) index note span (omega (arith, e))
    (sym (get-drop s.made k (s.made + k) notes refl) ∙ is_note) is_share (omega (arith, low)) (omega (arith, high))))

-- and of those of all threads
each_of_threads : (P : Numbered → Type 0) (from : ℕ) (lists : List (Roomed Note)) (sss : List (List EventSpan)) → CoverEach lists sss
    → ((t at index thread : ℕ) (notes : Roomed Note) (note : Note) (ss : List EventSpan) (span : EventSpan) → thread ≡ from + t
    → slice_get lists t ≡ Some notes → slice_get notes.items at ≡ Some note → slice_get sss t ≡ Some ss → slice_get ss index ≡ Some span
    → span.first ≤ at → at < span.first + span.made → P (name_of thread index note))
    → AllByRecursion P (all_named from lists sss)
each_of_threads P from [] sss covers h = tt
each_of_threads P from (l ∷ lists) [] covers h = absurd covers
each_of_threads P from (l ∷ lists) (ss ∷ sss) (here, covers) h =
    each_append P (named_in from 0 l.items ss) (all_named (from + 1) lists sss)
    (each_of_shares P from 0 0 (length l.items) l.items ss here
    (λ k j index note span e is_note is_share low high.
    let same : j ≡ index = omega (arith, e) in
    h 0 k index from l note ss span (omega arith) refl is_note refl (subst (λ (i : ℕ). slice_get ss i ≡ Some span) same is_share)
    (omega (arith, low)) (omega (arith, high))))
    (each_of_threads P (from + 1) lists sss covers
    (λ t at index thread notes note us span e is_list is_note is_shares is_share low high.
    h (suc t) at index thread notes note us span (omega (arith, e)) is_list is_note is_shares is_share low high))

-- each event that a thread made stands in the merged history
pub each_stands : (lists : List (Roomed Note)) (sss : List (List EventSpan)) (history : List Numbered) → CoverEach lists sss
    → IsMerged lists sss history → AllByRecursion (λ (n : Numbered). slice_get history n.number ≡ Some n) (all_named 0 lists sss)
each_stands lists sss history covers merged =
    each_of_threads (λ (n : Numbered). slice_get history n.number ≡ Some n) 0 lists sss covers
    (λ t at index thread notes note ss span e is_list is_note is_shares is_share low high.
    let same : t ≡ thread = omega (arith, e) in
    (merged.each thread at index notes note ss span
    (subst (λ (i : ℕ). slice_get lists i ≡ Some notes) same is_list) is_note
    (subst (λ (i : ℕ). slice_get sss i ≡ Some ss) same is_shares) is_share low high).stands)
