-- A place is held for the entry that is live in it.
use Rattle.std.specs.Prelude.{◌≡◌, ℕ, ◌+◌, ◌≤◌, true, false, Option, Some, None, [], ◌∷◌, length}
use Rattle.history_book.specs.Desk.{IsLiveIn}
use Rattle.history_book.specs.Point.{StartsWith}
use Rattle.history_book.specs.declared.outcome.HoldOutcome.{HoldOutcome}
use Rattle.history_book.specs.declared.outcome.HoldOutcome.TheVariants.{Held, Empty}
use Rattle.track_rule.specs.History.{records_after, state_after}
use Rattle.track_rule.specs.KeptWords.{is_kept_for}
use Rattle.track_rule.specs.Phases.{of_place}
use Rattle.track_rule.specs.References.{WasConfirmed, is_taken}
use Rattle.track_rule.specs.Sights.{PassSight, looked_on}
use Rattle.track_rule.specs.Steps.{AreAll, keep}
use Rattle.track_rule.specs.Sums.{times, total}
use Rattle.track_rule.specs.declared.view.Purpose.{Purpose}
use Rattle.track_rule.specs.declared.view.Purpose.TheVariants.{For}
use Rattle.bucket_table.specs.Finding.{others_of}
use Rattle.shared_desk.specs.Looking.{IsFreeFor}
use Rattle.shared_desk.specs.Rest.{AreSettled}

-- The pass has no turn, looks what stands at no place, is in the middle of no commit, and carries no reference of the table's. What
-- it holds is settled, and it may hold one place more.
pub record CanHold (place : ℕ) (v : PassSight) : Type 0 where
  pub free : IsFreeFor place v
  pub settled : AreSettled v.view.places v.view.buckets.hooks
  pub carried : v.view.places.carried ≡ []
  pub few : length v.view.places.held + length v.view.places.owed ≤ 3

-- The pass has seen no fewer events than before. All else is as it was, but the note of a walk and the readings.
pub record OnlyLooks (v w : PassSight) : Type 0 where
  pub same : w ≡ looked_on v w
  pub front : StartsWith w.view.seen.front v.view.seen.front

-- the pass without its newest reference
abbrev pub but_newest : PassSight → PassSight
but_newest v = record v { view = record v.view { places = record v.view.places { held = others_of v.view.places.held } } }

-- The newest reference of the pass is to this place, for this; without it the pass might hold the place, and it does not owe it.
pub record HasNewest (place : ℕ) (why : Purpose) (v : PassSight) : Type 0 where
  pub newest : v.view.places.held ≡ keep place why ∷ others_of v.view.places.held
  pub can : CanHold place (but_newest v)
  pub unowed : times place v.view.places.owed ≡ 0

abbrev pub HasSome : ℕ → PassSight → Type 0
HasSome place v = (why : Purpose) × HasNewest place why v

-- The pass has seen all events so far, after which the entry of the id was live in the place, and holds the place for it once more.
-- It has not taken the place, and holds it for no other entry.
pub record IsHeldFor (place id at : ℕ) (v w : PassSight) : Type 0 where
  pub newest : w.view.places.held ≡ keep place (For id) ∷ others_of w.view.places.held
  pub looks : OnlyLooks v (but_newest w)
  pub all : AreAll v.view w.view.seen.front
  pub point : at ≡ length w.view.seen.front
  pub live : IsLiveIn place id (state_after w.view.seen.front)
  pub was : WasConfirmed w.view.seen.front id place
  pub unowed : times place v.view.places.owed ≡ 0
  pub untaken : is_taken place v.view.places.held ≡ false
  pub agreed : (i : ℕ) → is_kept_for place i v.view.places.held ≡ true → i ≡ id

-- It has seen all events so far, after which no live record has the place.
pub record IsEmpty (place at : ℕ) (v w : PassSight) : Type 0 where
  pub looks : OnlyLooks v w
  pub all : AreAll v.view w.view.seen.front
  pub point : at ≡ length w.view.seen.front
  pub unused : total (of_place place) (records_after w.view.seen.front) ≡ 0

abbrev pub HoldsLive : ℕ → HoldOutcome → PassSight → PassSight → Type 0
HoldsLive place (Held id at) v w = IsHeldFor place id at v w
HoldsLive place (Empty at) v w = IsEmpty place at v w

-- a try, which may tell nothing
abbrev pub Tries : ℕ → Option HoldOutcome → PassSight → PassSight → Type 0
Tries place (Some outcome) v w = HoldsLive place outcome v w
Tries place None v w = OnlyLooks v w

-- The entry that is live in the place was named; or the pass still has its reference, for whatever that is now.
pub record StillHas (place : ℕ) (v w : PassSight) : Type 0 where
  pub has : HasSome place w
  pub looks : OnlyLooks (but_newest v) (but_newest w)

abbrev pub Names : ℕ → Option HoldOutcome → PassSight → PassSight → Type 0
Names place (Some outcome) v w = HoldsLive place outcome (but_newest v) w
Names place None v w = StillHas place v w

-- no live record has the place at this point, if there is one
abbrev pub Finds : ℕ → Option ℕ → PassSight → PassSight → Type 0
Finds place (Some at) v w = IsEmpty place at v w
Finds place None v w = OnlyLooks v w
