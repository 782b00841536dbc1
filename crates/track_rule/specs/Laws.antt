-- What the rule says of the places of all passes, between any two steps.
use Rattle.std.specs.Prelude.{◌≡◌, ◌≢◌, ℕ, ◌+◌, ◌<◌, ◌≤◌, min, true}
use mathlib.Core.Option.{Option as Slotted, none, some}
use lib.ListN.{get_elem?, set}
use Rattle.atomic_table.specs.Table.{State}
use Rattle.history_book.specs.PlaceUse.{PassUse, PlaceUse, StaysOut, users_of}
use Rattle.history_book.specs.declared.sizes.Sizes.{Sizes}
use Rattle.track_rule.specs.declared.slot.Slot.{Slot}
use Rattle.track_rule.specs.declared.view.View.{View}
use Rattle.track_rule.specs.Free.{has_turn, known_free, owes}
use Rattle.track_rule.specs.KeptWords.{HasTuples, is_kept_for}
use Rattle.track_rule.specs.Layout.{phase_at, refs_at}
use Rattle.track_rule.specs.History.{records_after}
use Rattle.track_rule.specs.Phases.{of_place}
use Rattle.track_rule.specs.References.{ends, keeps, takes}
use Rattle.track_rule.specs.Rule.{IsKept, Ledger}
use Rattle.track_rule.specs.Sums.{times, total}

-- a table between two steps of its passes
pub record TableState : Type 0 where
  pub sizes : Sizes
  pub ledger : Ledger
  pub table : State Slot View

abbrev pub KeepsTableRule : TableState → Type 0
KeepsTableRule b = IsKept b.sizes b.ledger b.table

abbrev pub entries_of : TableState → ℕ
entries_of b = b.sizes.entries

-- what is counted of a place
abbrev pub uses_in : TableState → ℕ → PlaceUse
uses_in b place = record {
  free = times place b.ledger.free;
  live = total (of_place place) (records_after b.ledger.log);
  passes = record { kept = total (keeps place) b.table.views; owed = total (owes place) b.table.views };
}

-- and of it what is one pass's: where no pass has the number, nothing
abbrev pub part_of : ℕ → Slotted View → PassUse
part_of place none = record { kept = 0; owed = 0 }
part_of place (some v) = record { kept = keeps place v; owed = owes place v }

abbrev pub part_in : TableState → ℕ → ℕ → PassUse
part_in b pass place = part_of place (get_elem? b.table.views pass)

-- A step of one pass gives no place back to the list and takes none from it, and the pass owes what it owed: so it is with a
-- release that leaves a reference.
pub record OwesNoMore (b b' : TableState) (i : ℕ) (v w : View) : Type 0 where
  pub at : get_elem? b.table.views i ≡ some v
  pub sizes : b'.sizes ≡ b.sizes
  pub views : b'.table.views ≡ set b.table.views i w
  pub free : b'.ledger.free ≡ b.ledger.free
  pub owed : w.places.owed ≡ v.places.owed

abbrev pub ReleasesStayOut : Type 0
ReleasesStayOut =
    (b b' : TableState) (i place : ℕ) (v w : View) → OwesNoMore b b' i v w → StaysOut (uses_in b place) (uses_in b' place)

-- So a place that the pass held before it is in use after it.
abbrev pub KeptLeavesAUse : Type 0
KeptLeavesAUse =
    (b b' : TableState) (i place : ℕ) (v w : View) → KeepsTableRule b → KeepsTableRule b' → OwesNoMore b b' i v w
    → 0 < keeps place v → 0 < users_of (uses_in b' place)

-- The references word of a place counts what the passes keep and no more than all users, and is 0 only where there are none.
pub record CountsUsers (word : ℕ) (u : PlaceUse) : Type 0 where
  pub kept : u.passes.kept ≤ word
  pub most : word ≤ users_of u
  pub some : min word 1 ≡ min (users_of u) 1

abbrev pub WordsCountUsers : Type 0
WordsCountUsers =
    (b : TableState) (place : ℕ) → KeepsTableRule b → place < entries_of b
    → CountsUsers (refs_at b.sizes b.table.words place) (uses_in b place)

-- A pass that has the turn of the free list knows the list of all free places.
abbrev pub TheListIsKnown : Type 0
TheListIsKnown =
    (z : Sizes) (l : Ledger) (s : State Slot View) (i : ℕ) (v : View) → IsKept z l s → get_elem? s.views i ≡ some v
    → has_turn v ≡ 1 → known_free v ≡ l.free

-- No other pass has the turn then.
abbrev pub OnePassHasTheList : Type 0
OnePassHasTheList =
    (z : Sizes) (l : Ledger) (s : State Slot View) (i j : ℕ) (v u : View) → IsKept z l s
    → get_elem? s.views i ≡ some v → get_elem? s.views j ≡ some u → j ≢ i → has_turn v ≡ 1 → has_turn u ≡ 0

-- Where a place has one reference, and a pass holds it, no other pass does. So who gives up the last one was alone with it.
abbrev pub LastReferenceIsAlone : Type 0
LastReferenceIsAlone =
    (z : Sizes) (l : Ledger) (s : State Slot View) (i j place : ℕ) (v u : View) → IsKept z l s
    → get_elem? s.views i ≡ some v → get_elem? s.views j ≡ some u → j ≢ i → refs_at z s.words place ≡ 1 → place < z.entries → 0 < keeps place v → keeps place u ≡ 0

-- A place is taken for a new entry by one pass at most, and then no live entry has it, nor has a pass destroyed its entry and still
-- carries the table's reference.
abbrev pub TakenPlacesAreNew : Type 0
TakenPlacesAreNew =
    (z : Sizes) (l : Ledger) (s : State Slot View) (place : ℕ) → IsKept z l s
    → total (takes place) s.views + total (ends place) s.views + total (of_place place) (records_after l.log) ≤ 1

-- Where the phase of a place is LIVE of an id, both tuples that the id's Confirm names stand in the words of the place.
abbrev pub LivePlacesHaveTheirTuples : Type 0
LivePlacesHaveTheirTuples =
    (z : Sizes) (l : Ledger) (s : State Slot View) (place id : ℕ) → IsKept z l s → place < z.entries → phase_at z s.words place ≡ 3 + id
    → HasTuples z l.log s.words id place

-- And so they do where a pass holds the place for the id.
abbrev pub HeldPlacesHaveTheirTuples : Type 0
HeldPlacesHaveTheirTuples =
    (z : Sizes) (l : Ledger) (s : State Slot View) (i place id : ℕ) (v : View) → IsKept z l s → get_elem? s.views i ≡ some v
    → is_kept_for place id v.places.held ≡ true → HasTuples z l.log s.words id place
