-- A pass that has the turn of the free list, with the list's slot out.
use Rattle.std.specs.Prelude.{◌≡◌, ℕ, ◌+◌, ◌<◌, ◌≤◌, ◌==◌, not, min, false, Some, List, ◌∷◌, ◌++◌, length}
use Rattle.history_book.specs.Sight.{notes_from}
use Rattle.history_book.specs.declared.event.Event.{Event}
use Rattle.room_list.specs.Roomed.{Roomed}
use Rattle.track_rule.specs.History.{records_after}
use Rattle.track_rule.specs.Phases.{of_place}
use Rattle.track_rule.specs.Readings.{IsSole, changes}
use Rattle.track_rule.specs.References.{held_times}
use Rattle.track_rule.specs.Sights.{PassSight, sizes_of}
use Rattle.track_rule.specs.Slots.{list_in}
use Rattle.track_rule.specs.Sums.{times, total}
use Rattle.track_rule.specs.declared.slot.Slot.TheVariants.{Free}
use Rattle.track_rule.specs.declared.view.Reading.{Reading}
use Rattle.track_rule.specs.declared.view.View.{View}

-- So many readings were added, and the pass changed no word itself but the turn of the free list.
pub record Waits (old new : List Reading) : Type 0 where
  pub more : List Reading
  pub all : new ≡ old ++ more
  pub own : changes (λ word. not (word == 1)) more ≡ false

-- Where the pass is the only one of its table, so that its own events are all, the place is unused: no live record has it. Of a pass
-- beside others this says nothing.
abbrev pub IsUnusedIfSole : ℕ → View → Type 0
IsUnusedIfSole place v = (log : List Event) → IsSole v → v.seen.own ≡ notes_from 0 log → total (of_place place) (records_after log) ≡ 0

-- There is room on the list for all places. No place that the pass holds or owes is on it; it has only places below the
-- entries, none twice, and there is room for what the pass owes, which is owed once. Where
-- the pass is the only one, what is on the list or owed is unused.
pub record IsListOf (v : PassSight) (list : Roomed ℕ) : Type 0 where
  pub room : (sizes_of v).entries ≤ list.room
  pub fits : length list.items + length v.view.places.owed ≤ (sizes_of v).entries
  pub apart : (p : ℕ) → times p list.items + times p v.view.places.owed + min (held_times p v.view.places.held) 1 ≤ 1
  pub below : (p : ℕ) → (sizes_of v).entries ≤ p → times p list.items + times p v.view.places.owed ≡ 0
  pub clear : (p : ℕ) → 0 < times p v.view.places.clear → 0 < times p v.view.places.owed
  pub unused : (p : ℕ) → 0 < times p list.items + times p v.view.places.owed → IsUnusedIfSole p v.view

-- the pass has the turn of the free list, and knows the list
abbrev pub with_list : List ℕ → List Reading → View → View
with_list places readings v = record v { free = Some places; readings = readings }

-- the pass has that turn, with the slot out and the list in it, out of the reach of other passes
pub record HasFreeTurn (v w : PassSight) : Type 0 where
  pub same : w ≡ record {
    table = v.table;
    view = with_list (list_in w.slots).items w.view.readings v.view;
    slots = (0, Free (list_in w.slots)) ∷ v.slots;
  }
  pub right : IsListOf v (list_in w.slots)
  pub waits : Waits v.view.readings w.view.readings
