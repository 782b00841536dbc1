-- A reference more, or one less, without waiting.
use Rattle.std.specs.Prelude.{◌≡◌, ℕ, ◌+◌, ◌<◌, ◌==◌, true, false, ◌∷◌}
use Rattle.std.specs.List.{list_all}
use Rattle.history_book.specs.declared.outcome.ReleaseOutcome.{ReleaseOutcome}
use Rattle.history_book.specs.declared.outcome.ReleaseOutcome.TheVariants.{Kept, Last}
use Rattle.track_rule.specs.ChangesOnly.{changes_only, is_refs_of}
use Rattle.track_rule.specs.Layout.{refs_word}
use Rattle.track_rule.specs.Links.{RaisesNone}
use Rattle.track_rule.specs.Notes.{note_where}
use Rattle.track_rule.specs.Readings.{Gave, IsSole, added, changes, is_found, noted, stored}
use Rattle.track_rule.specs.References.{held_times, without}
use Rattle.track_rule.specs.Sights.{PassSight, sizes_of}
use Rattle.track_rule.specs.Steps.{IsCount, hooks_then, is_second, one_more, owned_then}
use Rattle.track_rule.specs.Sums.{times}
use Rattle.track_rule.specs.declared.view.Reading.{Reading}
use Rattle.track_rule.specs.declared.view.View.{View}
use Rattle.entry_pool.specs.GoesOn.{ReadingsStand}
use Rattle.entry_pool.specs.declared.hold.TryHold.{TryHold}
use Rattle.entry_pool.specs.declared.hold.TryHold.TheVariants.{Held, Zero, Moved}

-- all these readings are of the references of the place
abbrev pub IsOfRefs : ℕ → PassSight → PassSight → Type 0
IsOfRefs place v w = list_all (λ (r : Reading). r.word == refs_word (sizes_of v) place) (added v.view w.view) ≡ true

-- There is one reference more: the place is held once more, to look what stands there; or, where the pass has the turn of the
-- record of a place that it took, the reference is the table's, which the pass carries. So the pass did not owe the place. It
-- changed no word itself but the references of the place, and read no other.
pub record HoldsMore (place : ℕ) (v w : PassSight) : Type 0 where
  pub same : w ≡ record v {
    view = record v.view {
      places = one_more (is_second place v.view) place v.view.places;
      readings = w.view.readings;
    };
  }
  pub stand : ReadingsStand v w
  pub owed : times place v.view.places.owed ≡ 0
  pub own : changes_only (is_refs_of place (sizes_of v)) (added v.view w.view) ≡ true
  pub here : IsOfRefs place v w

-- The pass has only read: it changed no word, and all that it holds and owes is as it was. A walk that met a link of the place has
-- noted where the last number of references that it read is 0.
pub record OnlyReadsRefs (place last : ℕ) (v w : PassSight) : Type 0 where
  pub same : w ≡ record v { view = record v.view { walk = note_where (last == 0) place v.view.walk; readings = w.view.readings } }
  pub stand : ReadingsStand v w
  pub own : changes (λ word. true) (added v.view w.view) ≡ false
  pub here : IsOfRefs place v w

-- A reading of the references word in this call gave 0.
pub record ReadsZero (place : ℕ) (v w : PassSight) : Type 0 where
  pub only : OnlyReadsRefs place 0 v w
  pub zero : is_found (refs_word (sizes_of v) place) 0 (added v.view w.view) ≡ true

-- It gave two different values in this call. So the table is not one of a single pass.
pub record ReadsTwo (place was now : ℕ) (v w : PassSight) : Type 0 where
  pub only : OnlyReadsRefs place now v w
  pub gave : Gave (refs_word (sizes_of v) place) was now (added v.view w.view)
  pub many : IsSole v.view → ⊥

abbrev pub TryHoldSays : TryHold → ℕ → PassSight → PassSight → Type 0
TryHoldSays Held place v w = HoldsMore place v w
TryHoldSays Zero place v w = ReadsZero place v w
TryHoldSays (Moved was now) place v w = ReadsTwo place was now v w

-- The pass gave up its newest reference to the place. It no longer owns the place where that was the one with which it took it,
-- and with its last one it has none of its links; no link came into a chain.
abbrev pub gave_up : ℕ → PassSight → View
gave_up place v = record v.view {
  places = record v.view.places {
    held = without place v.view.places.held;
    owned = owned_then place v.view.places.held v.view.places.owned;
  };
  buckets = record v.view.buckets { hooks = hooks_then place v.view.places.held v.view.buckets.hooks };
}

-- One reference less, and so many are left, which are others' too or the pass's own; before there was one more.
pub record KeepsSome (place : ℕ) (v w : PassSight) : Type 0 where
  pub left : ℕ
  pub some : 0 < left
  pub count : IsCount place (left + 1) v.view
  pub same : w ≡ record v {
    view = noted (stored (refs_word (sizes_of v) place) left) (gave_up place v);
  }
  pub down : RaisesNone v.view.buckets.hooks w.view.buckets.hooks

-- It was the last one of all: the pass held the place once, and owes it now.
pub record KeepsNone (place : ℕ) (v w : PassSight) : Type 0 where
  pub same : w ≡ record v {
    view = noted (stored (refs_word (sizes_of v) place) 0) (record (gave_up place v) {
      places = record (gave_up place v).places { owed = place ∷ v.view.places.owed };
    });
  }
  pub count : IsCount place 1 v.view
  pub down : RaisesNone v.view.buckets.hooks w.view.buckets.hooks
  pub held : held_times place v.view.places.held ≡ 1
  pub owed : times place v.view.places.owed ≡ 0

abbrev pub ReleaseSays : ReleaseOutcome → ℕ → PassSight → PassSight → Type 0
ReleaseSays Kept place v w = KeepsSome place v w
ReleaseSays Last place v w = KeepsNone place v w
