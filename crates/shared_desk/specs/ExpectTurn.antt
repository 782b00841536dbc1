-- The turn of the expectations, with their table in its slot, or in the hands of the pass.
use Rattle.std.specs.Prelude.{◌≡◌, Some, None, [], ◌∷◌, ◌++◌}
use Rattle.expect_table.specs.declared.expectation.Expectation.{Expectation}
use Rattle.room_list.specs.Roomed.{Roomed}
use Rattle.track_rule.specs.declared.slot.Slot.TheVariants.{Expects}
use Rattle.track_rule.specs.declared.view.Middle.TheVariants.{Calm}
use Rattle.track_rule.specs.ExpectTurns.{before_expects, expects_at, table_in}
use Rattle.track_rule.specs.Sights.{PassSight, sizes_of}
use Rattle.track_rule.specs.Slots.{slot_of_expects}

-- The pass has neither the turn of the expectations nor that of the free list, has shut no bucket, and is in the middle of no commit.
pub record CanTakeExpects (v : PassSight) : Type 0 where
  pub expected : v.view.expected ≡ None
  pub shut : v.view.buckets.shut ≡ []
  pub free : v.view.free ≡ None
  pub calm : v.view.commit.middle ≡ Calm

-- The pass has the turn of the expectations, with the slot of their table out, the table in it, behind the slots that were out
-- before, and knows what is expected. All else is as it was, but the readings.
pub record HasExpectTurn (v w : PassSight) : Type 0 where
  pub same : w ≡ record v {
    view = record v.view { expected = Some (table_in w.slots).items; readings = w.view.readings };
    slots = v.slots ++ (1, Expects (table_in w.slots)) ∷ [];
  }
  pub there : expects_at w.slots ≡ Some (table_in w.slots)
  pub room : (table_in w.slots).room ≡ (sizes_of v).expectations

-- The pass has the turn of the expectations, and their table in its hands, so that its slot is out with nothing in it. All else is as
-- it was, but the readings.
pub record HasExpects (table : Roomed Expectation) (v w : PassSight) : Type 0 where
  pub same : w ≡ record v {
    view = record v.view { expected = Some table.items; readings = w.view.readings };
    slots = v.slots ++ (1, slot_of_expects None) ∷ [];
  }
  pub room : table.room ≡ (sizes_of v).expectations

-- the pass as if it had not that turn, nor that slot
abbrev pub aside : PassSight → PassSight
aside p = record p { view = record p.view { expected = None }; slots = before_expects p.slots }
