-- The entry for which a place is held is destroyed, under the turn of the place's record.
use Rattle.std.specs.Prelude.{◌≡◌, ℕ, ◌<◌, ◌≤◌, ◌^◌, true, false, Some, None, List, [], ◌∷◌, ◌++◌, length}
use Rattle.history_book.specs.History.{is_legal}
use Rattle.history_book.specs.Legality.{is_reason, reason_moment_of}
use Rattle.history_book.specs.State.{record_of}
use Rattle.history_book.specs.declared.event.Event.{Event}
use Rattle.history_book.specs.declared.event.Event.TheVariants.{Destroy}
use Rattle.history_book.specs.declared.event.Why.{Why}
use Rattle.history_book.specs.declared.outcome.KillOutcome.{KillOutcome}
use Rattle.history_book.specs.declared.outcome.KillOutcome.TheVariants as kill
use Rattle.history_book.specs.declared.record.Flow.{Flow}
use Rattle.history_book.specs.declared.record.Record.{Record}
use Rattle.track_rule.specs.History.{state_after}
use Rattle.track_rule.specs.KeptWords.{is_kept_for}
use Rattle.track_rule.specs.KillSteps.{without_its}
use Rattle.track_rule.specs.PhaseSteps.{phase_dead}
use Rattle.track_rule.specs.Records.{has_hand}
use Rattle.track_rule.specs.References.{is_held}
use Rattle.track_rule.specs.Sights.{PassSight, sizes_of}
use Rattle.track_rule.specs.Steps.{AreAll, hooks_else}
use Rattle.track_rule.specs.TouchSteps.{known_phase, known_record}
use Rattle.track_rule.specs.declared.view.Commit.{Commit}
use Rattle.track_rule.specs.declared.view.Middle.TheVariants.{Calm}
use Rattle.shared_desk.specs.Commit.{is_any_up, seen_with, shut_buckets}
use Rattle.bucket_table.specs.Finding.{has_hook}
use Rattle.shared_desk.specs.Touching.{IsLeft, IsNotLive}

-- what a record has of the flow that became it
abbrev pub flow_of : Record → Flow
flow_of r = record { original = r.original; reply = r.reply; part = r.part; helper = r.helper; master = r.master }

-- its Destroy
abbrev pub destroy_of : Record → Why → Event
destroy_of r why = Destroy r.id why

-- The pass carries no reference of the table's, has no link in a chain and no link of the place, and has room for an event.
pub record IsClearOf (place : ℕ) (v : PassSight) : Type 0 where
  pub carried : v.view.places.carried ≡ []
  pub down : is_any_up v.view.buckets.hooks ≡ false
  pub bare : has_hook place v.view.buckets.hooks ≡ false
  pub few : length v.view.seen.own < 2 ^ 30

-- The pass holds the place for an entry. It has shut no bucket, and has not the turn of the expectations.
pub record SuitsKill (place : ℕ) (why : Why) (v : PassSight) : Type 0 where
  pub id : ℕ
  pub kept : is_kept_for place id v.view.places.held ≡ true
  pub timely : reason_moment_of why ≤ 10 ^ 16
  pub shut : v.view.buckets.shut ≡ []
  pub expected : v.view.expected ≡ None
  pub clear : IsClearOf place v

-- UNDER THE TURN

-- The pass holds the place, which is LIVE, and has the turn of its record, which it knows. It is in the middle of no commit.
pub record KnowsRecord (place : ℕ) (r : Record) (v : PassSight) : Type 0 where
  pub below : place < (sizes_of v).entries
  pub held : is_held place v.view.places.held ≡ true
  pub turn : has_hand place v.view ≡ 1
  pub live : 3 ≤ known_phase v.view.commit.hand
  pub known : known_record v.view.commit.hand ≡ Some r
  pub calm : v.view.commit.middle ≡ Calm
  pub clear : IsClearOf place v

-- The Destroy of the record was made after all these events, and was lawful. The entry was this record then.
pub record HasEnded (r : Record) (why : Why) (number : ℕ) (v : PassSight) : Type 0 where
  pub log : List Event
  pub all : AreAll v.view log
  pub number_is : number ≡ length log
  pub legal : is_legal (sizes_of v) (log ++ destroy_of r why ∷ []) ≡ true
  pub found : record_of r.id (state_after log) ≡ Some r

-- the pass knows the place as DEAD, and the record as the last one there
abbrev pub dead_commit : ℕ → Record → Commit
dead_commit place r = record { hand = Some (record { place = place; phase = phase_dead; subject = Some r }); middle = Calm }

-- The Destroy was made, and the pass carries the table's reference. Both links are out of their chains; without them the links are as
-- they were, and so are the buckets that are shut.
pub record DestroysLocked (place : ℕ) (r : Record) (why : Why) (number : ℕ) (v w : PassSight) : Type 0 where
  pub ended : HasEnded r why number v
  pub same : w ≡ record v {
    view = record v.view {
      seen = seen_with ended.log number (destroy_of r why) v.view.seen;
      places = record v.view.places { carried = place ∷ v.view.places.carried; ended = place ∷ v.view.places.ended };
      buckets = w.view.buckets;
      commit = dead_commit place r;
      expected = without_its r.id v.view.expected;
      walk = w.view.walk;
      readings = w.view.readings;
    };
  }
  pub down : is_any_up w.view.buckets.hooks ≡ false
  pub others : hooks_else place w.view.buckets.hooks ≡ v.view.buckets.hooks
  pub buckets : shut_buckets w.view.buckets.shut ≡ shut_buckets v.view.buckets.shut

-- The Destroy was made, and the table's reference is let go. All else is as it was, but what was expected for the entry, the note of a
-- walk and the readings.
pub record EndsEntry (place : ℕ) (r : Record) (why : Why) (number : ℕ) (v w : PassSight) : Type 0 where
  pub ended : HasEnded r why number v
  pub same : w ≡ record v {
    view = record v.view {
      seen = seen_with ended.log number (destroy_of r why) v.view.seen;
      places = record v.view.places { ended = w.view.places.ended };
      commit = dead_commit place r;
      expected = without_its r.id v.view.expected;
      walk = w.view.walk;
      readings = w.view.readings;
    };
  }

-- the reason holds of the record, which was destroyed
pub record EndsFor (place : ℕ) (r : Record) (why : Why) (number : ℕ) (subject : Record) (v w : PassSight) : Type 0 where
  pub was : subject ≡ r
  pub reason : is_reason why r ≡ true
  pub ends : EndsEntry place r why number v w

-- it does not, and nothing changed
pub record StaysFor (r : Record) (why : Why) (at a : ℕ) (subject : Record) (v w : PassSight) : Type 0 where
  pub was : subject ≡ r
  pub point : a ≡ at
  pub reason : is_reason why r ≡ false
  pub same : w ≡ v

abbrev pub Judges : ℕ → Record → Why → ℕ → KillOutcome → PassSight → PassSight → Type 0
Judges place r why at (kill.Killed number subject) v w = EndsFor place r why number subject v w
Judges place r why at (kill.Gone a) v w = ⊥
Judges place r why at (kill.Not subject a) v w = StaysFor r why at a subject v w

-- THE WHOLE

-- the entry was this record
abbrev pub IsAsFound : Record → ℕ → List Event → Type 0
IsAsFound r id log = record_of id (state_after log) ≡ Some r

-- The entry for which the place is held was destroyed as this record, for this reason. All else is as it was, but what the pass has
-- of a record, the note of a walk and the readings.
pub record IsKilled (place : ℕ) (why : Why) (number : ℕ) (r : Record) (commit : Commit) (v w : PassSight) : Type 0 where
  pub its : (id : ℕ) → is_kept_for place id v.view.places.held ≡ true → id ≡ r.id
  pub reason : is_reason why r ≡ true
  pub ended : HasEnded r why number v
  pub same : w ≡ record v {
    view = record v.view {
      seen = seen_with ended.log number (destroy_of r why) v.view.seen;
      places = record v.view.places { ended = w.view.places.ended };
      commit = commit;
      walk = w.view.walk;
      readings = w.view.readings;
    };
  }

-- the pass has seen all events so far, after which the entry was this record, of which the reason does not hold
pub record IsSpared (place : ℕ) (why : Why) (at : ℕ) (r : Record) (v w : PassSight) : Type 0 where
  pub reason : is_reason why r ≡ false
  pub left : IsLeft place at (IsAsFound r) v w

abbrev pub KillsUnder : ℕ → Why → KillOutcome → PassSight → PassSight → Type 0
KillsUnder place why (kill.Killed number subject) v w = IsKilled place why number subject (dead_commit place subject) v w
KillsUnder place why (kill.Gone at) v w = IsLeft place at IsNotLive v w
KillsUnder place why (kill.Not subject at) v w = IsSpared place why at subject v w

abbrev pub Kills : ℕ → Why → KillOutcome → PassSight → PassSight → Type 0
Kills place why (kill.Killed number subject) v w = IsKilled place why number subject v.view.commit v w
Kills place why (kill.Gone at) v w = IsLeft place at IsNotLive v w
Kills place why (kill.Not subject at) v w = IsSpared place why at subject v w
