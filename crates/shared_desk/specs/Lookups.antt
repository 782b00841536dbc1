-- What a pass finds that looks once for what is live under a tuple.
use Rattle.std.specs.Prelude.{◌≡◌, ℕ, true, false, None, length}
use Rattle.tuple_core.specs.declared.Direction.{Direction}
use Rattle.tuple_core.specs.declared.Tuple.{Tuple}
use Rattle.history_book.specs.Desk.{IsLiveUnder}
use Rattle.history_book.specs.State.{live_under}
use Rattle.track_rule.specs.History.{state_after}
use Rattle.track_rule.specs.Readings.{added, changes}
use Rattle.track_rule.specs.Sights.{PassSight, looked_on}
use Rattle.track_rule.specs.Steps.{AreAll}
use Rattle.bucket_table.specs.Finding.{FindsEntry, HasMoved}
use Rattle.bucket_table.specs.GoesOn.{ReadingsStand}
use Rattle.bucket_table.specs.declared.finding.FindOnce.{FindOnce}
use Rattle.bucket_table.specs.declared.finding.FindOnce.TheVariants.{Found, Absent, Moved}

-- The entry of this id is live under the tuple, in this direction, after all events up to this point, which the pass has seen; it holds
-- the entry's place for it, as `FindsEntry` says.
pub record FindsLive (t : Tuple) (place id : ℕ) (direction : Direction) (at : ℕ) (v w : PassSight) : Type 0 where
  pub found : FindsEntry t place id direction at v w
  pub live : IsLiveUnder t place id direction (state_after w.view.seen.front)

-- Nothing is live under the tuple after all events up to this point, which the pass has seen. It changed no word. All else is as it was,
-- but the note of a walk and the readings.
pub record FindsNobody (t : Tuple) (at : ℕ) (v w : PassSight) : Type 0 where
  pub same : w ≡ looked_on v w
  pub stand : ReadingsStand v w
  pub own : changes (λ word. true) (added v.view w.view) ≡ false
  pub all : AreAll v.view w.view.seen.front
  pub point : at ≡ length w.view.seen.front
  pub none : live_under t (state_after w.view.seen.front) ≡ None

abbrev pub LooksOnce : FindOnce → Tuple → PassSight → PassSight → Type 0
LooksOnce (Found place id direction at) t v w = FindsLive t place id direction at v w
LooksOnce (Absent at) t v w = FindsNobody t at v w
LooksOnce (Moved word was now owed) t v w = HasMoved t word was now owed v w
