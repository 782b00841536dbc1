-- An order of events, in which those of the threads are laid.
use Rattle.std.proofs.Common.{◌≡◌, ℕ, ◌<◌, ◌≤◌, ◌+◌, ◌-◌, ◌^◌, zero, suc, List, [], ◌∷◌, drop, length, take, sym, ap, subst, ◌∙◌, None, Some, Option, arith}
use Rattle.std.specs.List.{All, AllByRecursion, slice_get}
use Rattle.std.specs.Prelude.{◌≢◌, slice_index_or, slice_set}
use Rattle.std.proofs.lemmas.List.{get_or_default, get_or_past, length-map, map-set}
use Rattle.std.proofs.Math.Nat.{lt_of_not-le}
use Rattle.std.proofs.lemmas.Option.{get_or_from_slice_get, same_Some, slice_get_past, slice_get_within}
use Rattle.std.proofs.lemmas.List.Elements.{All-from_recursion}
use Rattle.history_book.specs.declared.event.Note.{Note}
use Rattle.history_book.specs.declared.event.Numbered.{Numbered}
use Rattle.history_book.specs.declared.order.Origin.{Origin}
use Rattle.history_book.specs.Internal.Merging.{HavePlaces, all_named, laid, named}
use Rattle.history_book.specs.Merge.{AreNumbers, CoverEach, EventSpan, IsMerged, all_notes}
use Rattle.history_book.specs.Numbered.{IsNumberedFrom}
use Rattle.history_book.specs.Internal.Order.{IsWithin, in_order, no_notes, notes_in, numbered_as, numbered_in}
use Rattle.room_list.specs.Roomed.{Roomed}
use Rattle.history_book.proofs.Merging.{length-laid, merged_of_laid, numbered_of_laid}

-- the list at an index, as code reads it, is the thread's
pub notes_read : (lists : List (Roomed Note)) (thread : ℕ) (l : Roomed Note) → thread < length lists
    → l ≡ slice_index_or lists thread l → notes_in lists thread ≡ l.items
notes_read lists thread l within is =
    ap (λ (x : Roomed Note). x.items)
    (get_or_default lists thread no_notes l within ∙ sym is)

-- and so an event of it has its place
pub note_placed : (lists : List (Roomed Note)) (thread at total : ℕ) (l : Roomed Note) (note : Note) → thread < length lists
    → l ≡ slice_index_or lists thread l → slice_get l.items at ≡ Some note → HavePlaces total (notes_in lists thread)
    → note.number < total
note_placed lists thread at total l note within is found placed =
    let notes = notes_in lists thread in
    let there : slice_get notes at ≡ Some note =
    ap (λ (x : List Note). slice_get x at) (notes_read lists thread l within is) ∙ found in
    subst (λ (n : Note). n.number < total) (get_or_from_slice_get notes at note note there)
    (placed at note (slice_get_within notes at note there))

next_taken : {X : Type 0} (xs : List X) (at left : ℕ) (x : X) → slice_get xs at ≡ Some x
    → take (suc left) (drop at xs) ≡ x ∷ take left (drop (suc at) xs)
next_taken [] at left x is = cc
next_taken (y ∷ xs) zero left x is = ap (λ (z : _). z ∷ take left xs) (same_Some y x is)
next_taken (y ∷ xs) (suc at) left x is = next_taken xs at left x is

-- one more event is laid
pub one_laid : (lists : List (Roomed Note)) (thread index at end : ℕ) (order new : List Origin) (note : Note)
    → slice_get (notes_in lists thread) at ≡ Some note → at < end
    → new ≡ slice_set order note.number (record { thread = thread; note = at; index = index })
    → laid (named thread index (take (end - (at + 1)) (drop (at + 1) (notes_in lists thread)))) (in_order lists new)
    ≡ laid (named thread index (take (end - at) (drop at (notes_in lists thread)))) (in_order lists order)
one_laid lists thread index at end order new note is below set =
    let notes = notes_in lists thread in
    let left = end - (at + 1) in
    let rest = named thread index (take left (drop (suc at) notes)) in
    let o : Origin = record { thread = thread; note = at; index = index } in
    let item = numbered_as thread index (Some note) in
    let more : end - at ≡ suc left = omega (arith, below) in
    let next : at + 1 ≡ suc at = omega arith in
    let is_set : in_order lists new ≡ slice_set (in_order lists order) note.number item =
    ap (in_order lists) set
    ∙ map-set (λ (x : Origin). numbered_in lists x) order note.number o
    ∙ ap (λ (n : Option Note). slice_set (in_order lists order) note.number (numbered_as thread index n)) is in
    ap (λ (k : ℕ). laid (named thread index (take left (drop k notes))) (in_order lists new)) next
    ∙ ap (laid rest) is_set
    ∙ ap (λ (l : List Note). laid (named thread index l) (in_order lists order))
    (sym (ap (λ (k : ℕ). take k (drop at notes)) more ∙ next_taken notes at left note is))

-- laying leaves an order's length
pub same_length : (lists : List (Roomed Note)) (ns : List Numbered) (order new : List Origin)
    → in_order lists new ≡ laid ns (in_order lists order) → length new ≡ length order
same_length lists ns order new is =
    sym (length-map new (λ (o : Origin). numbered_in lists o))
    ∙ ap length is
    ∙ length-laid ns (in_order lists order)
    ∙ length-map order (λ (o : Origin). numbered_in lists o)

-- a place without an event has a number that no event has
is_there : (thread index from : ℕ) (found : Option Note) → (numbered_as thread index found).number ≡ from → from < 2 ^ 64
    → found ≢ None
is_there thread index from None is low = absurd (omega (arith, is, low))
is_there thread index from (Some n) is low = λ e. cc

stands : (lists : List (Roomed Note)) (o : Origin) (from : ℕ) → (numbered_in lists o).number ≡ from → from < 2 ^ 64
    → IsWithin lists o
stands lists o from is low =
    let there = is_there o.thread o.index from (slice_get (notes_in lists o.thread) o.note) is low in
    let note : o.note < length (notes_in lists o.thread) =
    lt_of_not-le
    (λ past. there (slice_get_past (notes_in lists o.thread) o.note past)) in
    record {
      thread = lt_of_not-le
          (λ past. let none : length (notes_in lists o.thread) ≡ 0 =
          ap (λ (l : Roomed Note). length l.items) (get_or_past lists o.thread no_notes past) in omega (arith, note, none));
      note = note;
    }

-- an order of events with the numbers from one on names no event that stands nowhere
within_from : (lists : List (Roomed Note)) (from : ℕ) (order : List Origin) → IsNumberedFrom from (in_order lists order)
    → from + length order ≤ 2 ^ 64 → AllByRecursion (IsWithin lists) order
within_from lists from [] numbered few = tt
within_from lists from (o ∷ order) (here, numbered) few =
    (stands lists o from here (omega arith), within_from lists (from + 1) order numbered (omega arith))

pub within_of_numbered : (lists : List (Roomed Note)) (order : List Origin) → IsNumberedFrom 0 (in_order lists order)
    → length order ≤ 2 ^ 64 → All (IsWithin lists) order
within_of_numbered lists order numbered few = All-from_recursion (IsWithin lists) order (within_from lists 0 order numbered (omega (arith, few)))

-- an order of as many places as there are events, in which all of them are laid
pub record IsLaid (lists : List (Roomed Note)) (spans : List (List EventSpan)) (blank new : List Origin) : Type 0 where
  pub long : length blank ≡ length (all_notes lists)
  pub few : length (all_notes lists) < 2 ^ 64
  pub numbers : AreNumbers (all_notes lists)
  pub covers : CoverEach lists spans
  pub all : in_order lists new ≡ laid (all_named 0 lists spans) (in_order lists blank)

long_order : (lists : List (Roomed Note)) (spans : List (List EventSpan)) (blank new : List Origin)
    → IsLaid lists spans blank new → length (in_order lists blank) ≡ length (all_notes lists)
long_order lists spans blank new h = length-map blank (λ (o : Origin). numbered_in lists o) ∙ h.long

pub merged_order : {lists : List (Roomed Note)} {spans : List (List EventSpan)} {blank new : List Origin}
    → IsLaid lists spans blank new → IsMerged lists spans (in_order lists new)
merged_order {lists} {spans} {blank} {new} h =
    rw h.all (merged_of_laid lists spans (in_order lists blank) (long_order lists spans blank new h) h.numbers h.covers)

pub numbered_order : {lists : List (Roomed Note)} {spans : List (List EventSpan)} {blank new : List Origin}
    → IsLaid lists spans blank new → IsNumberedFrom 0 (in_order lists new)
numbered_order {lists} {spans} {blank} {new} h =
    rw h.all (numbered_of_laid lists spans (in_order lists blank) (long_order lists spans blank new h) h.numbers h.covers)

pub within_order : {lists : List (Roomed Note)} {spans : List (List EventSpan)} {blank new : List Origin}
    → IsLaid lists spans blank new → All (IsWithin lists) new
within_order {lists} {spans} {blank} {new} h =
    let same = same_length lists (all_named 0 lists spans) blank new h.all in
    within_of_numbered lists new (numbered_order h) (omega (arith, same, h.long, h.few))
