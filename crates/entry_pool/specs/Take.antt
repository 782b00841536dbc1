-- A place for a new entry, and what becomes of a place that is owed.
use Rattle.std.specs.Prelude.{◌≡◌, ℕ, ◌+◌, ◌-◌, ◌*◌, ◌<◌, ◌≤◌, ◌==◌, ◌&&◌, ◌||◌, not, Bool, true, false, Option, None, Some, List, [], ◌∷◌, length}
use Rattle.std.specs.List.{list_any}
use Rattle.history_book.specs.declared.outcome.TakeOutcome.{TakeOutcome}
use Rattle.history_book.specs.declared.outcome.TakeOutcome.TheVariants.{Taken, Full}
use Rattle.history_book.specs.declared.sizes.Sizes.{Sizes}
use Rattle.track_rule.specs.ChangesOnly.{ChangesWords, either, is_first_of, is_free_turn, is_phase_of, places_taken}
use Rattle.track_rule.specs.Free.{taken_out, unlisted}
use Rattle.track_rule.specs.History.{events_in, records_after}
use Rattle.track_rule.specs.Layout.{phase_word, refs_word}
use Rattle.track_rule.specs.Links.{RaisesNone}
use Rattle.track_rule.specs.PhaseSteps.{phase_free, phase_owned}
use Rattle.track_rule.specs.Phases.{of_place}
use Rattle.track_rule.specs.Readings.{added, changes, is_stored}
use Rattle.track_rule.specs.References.{held_times}
use Rattle.track_rule.specs.Sights.{PassSight, looked_on, sizes_of}
use Rattle.track_rule.specs.Steps.{AreAll, IsAlone, NewHooks, keep, kept_places, uses}
use Rattle.track_rule.specs.Sums.{times, total}
use Rattle.track_rule.specs.declared.view.Purpose.TheVariants as purpose
use Rattle.track_rule.specs.declared.view.Reading.{Reading}
use Rattle.entry_pool.specs.GoesOn.{ReadingsStand}
use Rattle.entry_pool.specs.Turn.{IsUnusedIfSole}

-- The place is held, for a new entry, and the pass has both its links, which are in no chain; before the call the pass neither
-- held nor owed the place, which was unused where the pass is the only one. The pass owns these places. All else is as it was.
pub record HasNewPlace (place : ℕ) (owned : List ℕ) (v w : PassSight) : Type 0 where
  pub same : w ≡ record v {
    view = record v.view {
      places = record v.view.places { held = keep place purpose.Taken ∷ v.view.places.held; owned = owned };
      buckets = record v.view.buckets { hooks = w.view.buckets.hooks };
      readings = w.view.readings;
    };
  }
  pub hooks : NewHooks place v.view.buckets.hooks w.view.buckets.hooks
  pub down : RaisesNone v.view.buckets.hooks w.view.buckets.hooks
  pub stand : ReadingsStand v w
  pub held : held_times place v.view.places.held ≡ 0
  pub owed : times place v.view.places.owed ≡ 0
  pub unused : IsUnusedIfSole place v.view

-- The pass changed no word itself but the turn of the free list and the references of the place, to which it made the first one.
pub record HasOpened (place : ℕ) (v w : PassSight) : Type 0 where
  pub has : HasNewPlace place v.view.places.owned v w
  pub own : changes (λ word. not (word == 1 || word == refs_word (sizes_of v) place)) (added v.view w.view) ≡ false
  pub words : ChangesWords (either is_free_turn (is_first_of place)) v.view w.view

-- Its phase is OWNED besides, as a reading of the call shows, and the pass owns it. The pass made one phase OWNED in the call,
-- and changed no word itself but these three.
pub record HasTaken (place : ℕ) (v w : PassSight) : Type 0 where
  pub has : HasNewPlace place (place ∷ v.view.places.owned) v w
  pub phase : is_stored (phase_word (sizes_of v) place) phase_owned (added v.view w.view) ≡ true
  pub once : places_taken (sizes_of v) (added v.view w.view) ≡ 1
  pub own : changes (λ word. not (word == 1 || word == refs_word (sizes_of v) place || word == phase_word (sizes_of v) place)) (added v.view w.view) ≡ false

-- Taking changes the turn of the free list, and where a place was taken its references, to which it makes the first one, and its phase,
-- which became OWNED; making a place free again changes its phase, which became FREE, and the turn.
abbrev pub take_words : TakeOutcome → Sizes → Reading → Bool
take_words (Taken place) = either is_free_turn (either (is_first_of place) (is_phase_of place phase_owned))
take_words (Full at) = is_free_turn

abbrev pub recycle_words : ℕ → Sizes → Reading → Bool
recycle_words place = either is_free_turn (is_phase_of place phase_free)

-- a reading of the history word that says so many events, under the turn of the free list, which was empty
abbrev pub says_empty : ℕ → Reading → Bool
says_empty at r = r.word == 0 && not r.own && events_in r.value == at && is_zero r.free
  where
    is_zero : Option ℕ → Bool
    is_zero None = false
    is_zero (Some n) = n == 0

-- The free list was empty at this point, which a reading of the call shows; the pass has seen all events up to it, and
-- changed no references word. All else is as it was. So at the point there were at most as many places as live records, references
-- that the pass keeps, places that it owes, and four for each share of others (`full`); where no other pass has a share, each place is
-- a live record's, or the pass holds or owes it (`used`).
pub record IsFull (at : ℕ) (v w : PassSight) : Type 0 where
  pub same : w ≡ looked_on v w
  pub stand : ReadingsStand v w
  pub all : AreAll v.view w.view.seen.front
  pub point : at ≡ length w.view.seen.front
  pub empty : list_any (says_empty at) (added v.view w.view) ≡ true
  pub full : (sizes_of v).entries ≤ length (records_after w.view.seen.front) + kept_places v.view
      + 4 * ((sizes_of v).passes - (v.view.passes.shares + v.view.passes.returned))
  pub used : IsAlone v.view → (p : ℕ) → p < (sizes_of v).entries → 0 < uses p v.view + total (of_place p) (records_after w.view.seen.front)
  pub own : changes (λ word. not (word == 1)) (added v.view w.view) ≡ false

abbrev pub OpenSays : TakeOutcome → PassSight → PassSight → Type 0
OpenSays (Taken place) v w = HasOpened place v w
OpenSays (Full at) v w = IsFull at v w

abbrev pub TakeSays : TakeOutcome → PassSight → PassSight → Type 0
TakeSays (Taken place) v w = HasTaken place v w
TakeSays (Full at) v w = IsFull at v w

-- the place that was taken, or none
abbrev pub IsBelow : ℕ → TakeOutcome → Type 0
IsBelow entries (Taken place) = place < entries
IsBelow entries (Full at) = Unit {0}

-- The place is on the free list, and no longer owed; where the pass is the only one, it is unused. The pass changed no word itself
-- but the turn of the list. All else is as it was.
pub record IsGivenBack (place : ℕ) (v w : PassSight) : Type 0 where
  pub same : w ≡ record v {
    view = record v.view {
      places = record v.view.places {
        owed = taken_out place v.view.places.owed;
        clear = unlisted (place ∷ []) v.view.places.clear;
      };
      readings = w.view.readings;
    };
  }
  pub stand : ReadingsStand v w
  pub own : changes (λ word. not (word == 1)) (added v.view w.view) ≡ false
  pub unused : IsUnusedIfSole place v.view

-- The place, which is unused where the pass is the only one, is free again: its phase was made FREE, and then it was put on the free
-- list. The pass changed no other word itself than these two, and no longer owes the place. All else is as it was.
pub record Recycles (place : ℕ) (v w : PassSight) : Type 0 where
  pub same : w ≡ record v {
    view = record v.view {
      places = record v.view.places {
        owed = taken_out place v.view.places.owed;
        clear = unlisted (place ∷ []) v.view.places.clear;
      };
      readings = w.view.readings;
    };
  }
  pub stand : ReadingsStand v w
  pub unused : IsUnusedIfSole place v.view
  pub phase : is_stored (phase_word (sizes_of v) place) phase_free (added v.view w.view) ≡ true
  pub own : changes (λ word. not (word == 1 || word == phase_word (sizes_of v) place)) (added v.view w.view) ≡ false
