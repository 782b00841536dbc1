-- The entry for which a place is held expects a connection: under the turn of the place's record, and under that of the expectations.
use Rattle.std.specs.Prelude.{◌≡◌, ℕ, ◌+◌, ◌<◌, ◌≤◌, ◌^◌, true, Option, List, length}
use Rattle.expect_table.specs.Expectations.{add_outcome}
use Rattle.expect_table.specs.declared.expectation.Expectation.{Expectation}
use Rattle.expect_table.specs.declared.expectation.Want.{Want}
use Rattle.expect_table.specs.declared.table.AddOutcome.{AddOutcome}
use Rattle.expect_table.specs.declared.table.AddOutcome.TheVariants as add
use Rattle.room_list.specs.Roomed.{Roomed}
use Rattle.history_book.specs.DeskExpectations.{AddGives, expectation_at}
use Rattle.history_book.specs.Entry.{is_helped_entry, zone_of_entry}
use Rattle.history_book.specs.Legality.{expected_for, helps_in}
use Rattle.history_book.specs.declared.event.Event.{Event}
use Rattle.history_book.specs.declared.event.Event.TheVariants.{Expect}
use Rattle.history_book.specs.declared.outcome.ExpectOutcome.{ExpectOutcome}
use Rattle.history_book.specs.declared.outcome.ExpectOutcome.TheVariants as expect
use Rattle.track_rule.specs.History.{state_after}
use Rattle.track_rule.specs.KeptWords.{is_kept_for}
use Rattle.track_rule.specs.Sights.{PassSight, sizes_of}
use Rattle.track_rule.specs.TouchSteps.{known_phase, known_record}
use Rattle.shared_desk.specs.Claiming.{HasMade}
use Rattle.shared_desk.specs.Touching.{IsLeft, IsNotLive}

-- The pass holds the place for an entry, which has the helper, and has room for an event.
pub record SuitsExpect (place moment : ℕ) (v : PassSight) : Type 0 where
  pub id : ℕ
  pub kept : is_kept_for place id v.view.places.held ≡ true
  pub helped : is_helped_entry id v.view.seen.front ≡ true
  pub timely : moment ≤ 10 ^ 16
  pub few : length v.view.seen.own < 2 ^ 30

-- the entry for which the place is held is the master, and expects the connection, in the zone in which it was confirmed, by this event
pub record IsExpected (place : ℕ) (want : Want) (moment id : ℕ) (replaced : Option ℕ) (v w : PassSight) : Type 0 where
  pub master : ℕ
  pub its : (i : ℕ) → is_kept_for place i v.view.places.held ≡ true → i ≡ master
  pub made : HasMade id (Expect (expectation_at id master (zone_of_entry master v.view.seen.front) want moment) replaced moment) v w

-- adding what it expects, in the zone in which it was confirmed by this front, gave this, in a tracker with room for so many
-- expectations
abbrev pub IsRefused : ℕ → ℕ → List Event → Want → ℕ → AddOutcome → ℕ → List Event → Type 0
IsRefused room at front want moment outcome id log = AddGives room at id (zone_of_entry id front) want moment outcome (state_after log)

-- all else is as it was, but the note of a walk and the readings
abbrev pub Expects : ℕ → Want → ℕ → ExpectOutcome → PassSight → PassSight → Type 0
Expects place want moment (expect.Expected id replaced) v w = IsExpected place want moment id replaced v w
Expects place want moment (expect.MasterGone at) v w = IsLeft place at IsNotLive v w
Expects place want moment (expect.Clash id at) v w =
    IsLeft place at (IsRefused (sizes_of v).expectations at v.view.seen.front want moment (add.Clash id)) v w
Expects place want moment (expect.ExpectFull at) v w =
    IsLeft place at (IsRefused (sizes_of v).expectations at v.view.seen.front want moment add.Full) v w

-- UNDER BOTH TURNS

-- The pass has the turn of the record of a place that is LIVE of the master, which has the helper and is in the zone. The
-- expectation ends 300 s after the moment.
pub record IsOfMaster (e : Expectation) (moment : ℕ) (v : PassSight) : Type 0 where
  pub shown : known_phase v.view.commit.hand ≡ 3 + e.master
  pub helper : helps_in e.zone (known_record v.view.commit.hand) ≡ true
  pub deadline : e.deadline ≡ moment + expected_for

-- the table answers this to it, whose id is the point, and nothing changed
pub record Refuses (e : Expectation) (moment : ℕ) (table : Roomed Expectation) (outcome : AddOutcome) (at : ℕ) (v w : PassSight) : Type 0 where
  pub point : at ≡ e.id
  pub gives : add_outcome table.room table.items e moment ≡ outcome
  pub same : w ≡ v

-- it is expected under the number of its event, or the table refuses it
abbrev pub Adds : Expectation → ℕ → Roomed Expectation → ExpectOutcome → PassSight → PassSight → Type 0
Adds e moment table (expect.Expected id replaced) v w = HasMade id (Expect (record e { id = id }) replaced moment) v w
Adds e moment table (expect.MasterGone at) v w = ⊥
Adds e moment table (expect.Clash id at) v w = Refuses e moment table (add.Clash id) at v w
Adds e moment table (expect.ExpectFull at) v w = Refuses e moment table add.Full at v w
