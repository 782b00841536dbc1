-- A flow is confirmed, or the entry that stands in its way is named.
use Rattle.std.specs.Prelude.{◌≡◌, ℕ, ◌+◌, ◌<◌, ◌==◌, ◌^◌, Bool, true, false, if◌then◌else◌, Some, None, List, [], ◌∷◌, ◌++◌, length}
use Rattle.history_book.specs.Desk.{IsClash}
use Rattle.history_book.specs.Entry.{is_lawful_flow, record_for}
use Rattle.history_book.specs.History.{is_legal}
use Rattle.history_book.specs.declared.event.Event.{Event}
use Rattle.history_book.specs.declared.outcome.ConfirmOutcome.{ConfirmOutcome}
use Rattle.history_book.specs.declared.outcome.ConfirmOutcome.TheVariants.{Confirmed, Clash}
use Rattle.history_book.specs.declared.record.Flow.{Flow}
use Rattle.tuple_core.specs.declared.Direction.{Direction}
use Rattle.track_rule.specs.BucketSteps.{IsChainOf}
use Rattle.track_rule.specs.Chains.{pair_of}
use Rattle.track_rule.specs.CommitSteps.{dropped}
use Rattle.track_rule.specs.Free.{is_among}
use Rattle.track_rule.specs.History.{state_after}
use Rattle.track_rule.specs.Links.{hooks_of}
use Rattle.track_rule.specs.PhaseSteps.{holds_open}
use Rattle.track_rule.specs.Readings.{added}
use Rattle.track_rule.specs.Records.{has_hand}
use Rattle.track_rule.specs.References.{is_taken}
use Rattle.track_rule.specs.Sights.{PassSight, sizes_of}
use Rattle.track_rule.specs.Steps.{AreAll}
use Rattle.track_rule.specs.TurnSteps.{with_subject}
use Rattle.track_rule.specs.declared.view.Middle.TheVariants.{Calm}
use Rattle.bucket_table.specs.Following.{bucket_in}
use Rattle.bucket_table.specs.LockedChain.{original_link, reply_link}
use Rattle.bucket_table.specs.GoesOn.{ReadingsStand}
use Rattle.bucket_table.specs.Locks.{AreShut, Buckets, buckets_of, changed, gens_of}
use Rattle.shared_desk.specs.Commit.{confirm_of, entered, is_any_up, seen_with, shut_buckets}
use Rattle.shared_desk.specs.Rival.{chain_of}
use Rattle.shared_desk.specs.Tuples.{IsFresh, pair_at, standing}

-- both buckets, the newest lock first; where both are one it is locked once
abbrev pub names_of : Buckets → List ℕ
names_of locked = (if locked.lower == locked.upper then locked.lower ∷ [] else locked.upper ∷ locked.lower ∷ [])

-- The pass has shut the buckets of both tuples, and no other, and knows their chains.
pub record IsLocked (flow : Flow) (locked : Buckets) (v : PassSight) : Type 0 where
  pub locked_are : locked ≡ buckets_of (bucket_in (sizes_of v) flow.original) (bucket_in (sizes_of v) flow.reply)
  pub original_below : bucket_in (sizes_of v) flow.original < (sizes_of v).buckets
  pub reply_below : bucket_in (sizes_of v) flow.reply < (sizes_of v).buckets
  pub shut : AreShut locked v.view
  pub names : shut_buckets v.view.buckets.shut ≡ names_of locked
  pub original_chain : IsChainOf (sizes_of v) (bucket_in (sizes_of v) flow.original) (chain_of (sizes_of v) flow.original v.view.buckets.shut)
  pub reply_chain : IsChainOf (sizes_of v) (bucket_in (sizes_of v) flow.reply) (chain_of (sizes_of v) flow.reply v.view.buckets.shut)

-- The pass changed the generations of the two buckets alone, the lower one first. All else is as it was, but the note of a walk and
-- the readings.
pub record LocksFlow (flow : Flow) (locked : Buckets) (v w : PassSight) : Type 0 where
  pub same : w ≡ record v { view = record v.view { buckets = record v.view.buckets { shut = w.view.buckets.shut }; walk = w.view.walk; readings = w.view.readings } }
  pub is : IsLocked flow locked w
  pub stand : ReadingsStand v w
  pub order : changed (added v.view w.view) ≡ gens_of (sizes_of v) locked

-- The pass has seen all events up to this point, where the entry of the id stood in the flow's way, and has shut no bucket. All else
-- is as it was, but the note of a walk and the readings.
pub record IsBlockedAt (place : ℕ) (flow : Flow) (id : ℕ) (direction : Direction) (both : Bool) (at : ℕ) (v w : PassSight) : Type 0 where
  pub same : w ≡ record v {
    view = record v.view {
      seen = record v.view.seen { front = w.view.seen.front };
      buckets = record v.view.buckets { shut = [] };
      walk = w.view.walk;
      readings = w.view.readings;
    };
  }
  pub all : AreAll v.view w.view.seen.front
  pub point : at ≡ length w.view.seen.front
  pub clash : IsClash place flow id direction both (state_after w.view.seen.front)

abbrev pub BlocksAndOpens : ℕ → Flow → ConfirmOutcome → PassSight → PassSight → Type 0
BlocksAndOpens place flow (Confirmed id) v w = ⊥
BlocksAndOpens place flow (Clash id direction both at) v w = IsBlockedAt place flow id direction both at v w

-- The flow is an entry, by the Confirm of this number, which was lawful after all events before it. The place is held for it, and
-- LIVE; its hooks are gone. The pass has the record out of its slot, under its turn, and has shut no bucket.
pub record EntersAndOpens (place : ℕ) (flow : Flow) (id : ℕ) (v w : PassSight) : Type 0 where
  pub log : List Event
  pub all : AreAll v.view log
  pub number : id ≡ length log
  pub legal : is_legal (sizes_of v) (log ++ confirm_of flow id place ∷ []) ≡ true
  pub same : w ≡ record v {
    view = record v.view {
      seen = seen_with log id (confirm_of flow id place) v.view.seen;
      places = entered place id v.view.places;
      buckets = record { shut = []; hooks = dropped (reply_link place) (dropped (original_link place) v.view.buckets.hooks) };
      commit = record { hand = Some (record { place = place; phase = 3 + id; subject = Some (record_for flow id place) }); middle = Calm };
      walk = None;
      readings = w.view.readings;
    };
    slots = with_subject place (Some (record_for flow id place)) v.slots;
  }

-- The pass has taken the place and owns it. It has one hook at either link of it, with the flow's tuples; no hook is in a chain.
-- It has the turn of the place's record and no other turn, no bucket, and is in the middle of no commit; there is room for an event.
pub record CanEnter (place : ℕ) (flow : Flow) (v : PassSight) : Type 0 where
  pub below : place < (sizes_of v).entries
  pub taken : is_taken place v.view.places.held ≡ true
  pub owned : is_among place v.view.places.owned ≡ true
  pub turn : has_hand place v.view ≡ 1
  pub calm : v.view.commit.middle ≡ Calm
  pub closed : holds_open v.view.places.held ≡ false
  pub free : v.view.free ≡ None
  pub carried : v.view.places.carried ≡ []
  pub few : length v.view.seen.own < 2 ^ 30
  pub protocol : is_lawful_flow flow ≡ true
  pub original : hooks_of (original_link place) v.view.buckets.hooks ≡ 1
  pub reply : hooks_of (reply_link place) v.view.buckets.hooks ≡ 1
  pub down : is_any_up v.view.buckets.hooks ≡ false
  pub original_pair : pair_at (original_link place) v.view.buckets.hooks ≡ pair_of flow.original
  pub reply_pair : pair_at (reply_link place) v.view.buckets.hooks ≡ pair_of flow.reply
  pub shut : v.view.buckets.shut ≡ []

abbrev pub Answers : ℕ → Flow → ConfirmOutcome → PassSight → PassSight → Type 0
Answers place flow (Confirmed id) v w = EntersAndOpens place flow id v w
Answers place flow (Clash id direction both at) v w = IsBlockedAt place flow id direction both at v w

-- The pass has taken the place and owns it, with one hook at either link of it; no hook is in a chain. It has no turn and no bucket,
-- carries no reference, and is in the middle of no commit; there is room for an event.
pub record CanConfirmFlow (place : ℕ) (flow : Flow) (v : PassSight) : Type 0 where
  pub fresh : IsFresh place v
  pub taken : is_taken place v.view.places.held ≡ true
  pub down : is_any_up v.view.buckets.hooks ≡ false
  pub idle : v.view.commit ≡ record { hand = None; middle = Calm }
  pub expected : v.view.expected ≡ None
  pub closed : holds_open v.view.places.held ≡ false
  pub free : v.view.free ≡ None
  pub carried : v.view.places.carried ≡ []
  pub shut : v.view.buckets.shut ≡ []
  pub few : length v.view.seen.own < 2 ^ 30
  pub protocol : is_lawful_flow flow ≡ true

-- The flow is an entry, by the Confirm of this number, which was lawful after all events before it. The place is held for it. Of the
-- hooks those of the place are gone. All else is as it was, but the tuples of hooks, the note of a walk and the readings.
pub record IsConfirmed (place : ℕ) (flow : Flow) (id : ℕ) (v w : PassSight) : Type 0 where
  pub log : List Event
  pub all : AreAll v.view log
  pub number : id ≡ length log
  pub legal : is_legal (sizes_of v) (log ++ confirm_of flow id place ∷ []) ≡ true
  pub same : w ≡ record v {
    view = record v.view {
      seen = seen_with log id (confirm_of flow id place) v.view.seen;
      places = entered place id v.view.places;
      buckets = record v.view.buckets { hooks = w.view.buckets.hooks };
      walk = w.view.walk;
      readings = w.view.readings;
    };
  }
  pub stands : standing w.view.buckets.hooks ≡ standing (dropped (reply_link place) (dropped (original_link place) v.view.buckets.hooks))

-- The pass has seen all events up to this point, where the entry of the id stood in the flow's way. All else is as it was, but the
-- tuples of hooks, the note of a walk and the readings.
pub record IsInTheWay (place : ℕ) (flow : Flow) (id : ℕ) (direction : Direction) (both : Bool) (at : ℕ) (v w : PassSight) : Type 0 where
  pub same : w ≡ record v {
    view = record v.view {
      seen = record v.view.seen { front = w.view.seen.front };
      buckets = record v.view.buckets { hooks = w.view.buckets.hooks };
      walk = w.view.walk;
      readings = w.view.readings;
    };
  }
  pub stands : standing w.view.buckets.hooks ≡ standing v.view.buckets.hooks
  pub all : AreAll v.view w.view.seen.front
  pub point : at ≡ length w.view.seen.front
  pub clash : IsClash place flow id direction both (state_after w.view.seen.front)

abbrev pub ConfirmsFlow : ℕ → Flow → ConfirmOutcome → PassSight → PassSight → Type 0
ConfirmsFlow place flow (Confirmed id) v w = IsConfirmed place flow id v w
ConfirmsFlow place flow (Clash id direction both at) v w = IsInTheWay place flow id direction both at v w
