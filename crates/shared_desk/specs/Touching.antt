-- The entry for which a place is held is touched, under the turn of the place's record.
use Rattle.std.specs.Prelude.{◌≡◌, ℕ, ◌+◌, ◌<◌, ◌≤◌, ◌^◌, true, Option, Some, None, List, [], ◌∷◌, ◌++◌, length}
use Rattle.proto_rules.specs.Step.{step_of}
use Rattle.proto_rules.specs.declared.Outcome.{Outcome}
use Rattle.proto_rules.specs.declared.Outcome.TheVariants as outcome
use Rattle.proto_rules.specs.declared.Part.{Part}
use Rattle.history_book.specs.Desk.{StepGives}
use Rattle.history_book.specs.Entry.{is_of_entry}
use Rattle.history_book.specs.History.{is_legal}
use Rattle.history_book.specs.State.{record_of}
use Rattle.history_book.specs.declared.event.Event.{Event}
use Rattle.history_book.specs.declared.event.Event.TheVariants.{Touch}
use Rattle.history_book.specs.declared.event.Note.{Note}
use Rattle.history_book.specs.declared.outcome.TouchOutcome.{TouchOutcome}
use Rattle.history_book.specs.declared.outcome.TouchOutcome.TheVariants as touch
use Rattle.history_book.specs.declared.record.Record.{Record}
use Rattle.track_rule.specs.History.{state_after}
use Rattle.track_rule.specs.KeptWords.{is_kept_for}
use Rattle.track_rule.specs.Sights.{PassSight, looked_on, sizes_of}
use Rattle.track_rule.specs.Steps.{AreAll}
use Rattle.shared_desk.specs.Commit.{seen_with}
use Rattle.track_rule.specs.TouchSteps.{hand_goes_on, known_phase, known_record}
use Rattle.track_rule.specs.TurnSteps.{with_subject}
use Rattle.shared_desk.specs.Looking.{HasRecord}
use Rattle.shared_desk.specs.declared.touching.MadeTouch.{MadeTouch}
use Rattle.shared_desk.specs.declared.touching.EntryPacket.{EntryPacket}

-- The pass holds the place for an entry, whose protocol is that of the packet, and has room for an event.
pub record SuitsEntry (place : ℕ) (p : EntryPacket) (v : PassSight) : Type 0 where
  pub id : ℕ
  pub kept : is_kept_for place id v.view.places.held ≡ true
  pub protocol : is_of_entry p.segment id v.view.seen.front ≡ true
  pub timely : p.moment ≤ 10 ^ 16
  pub few : length v.view.seen.own < 2 ^ 30

-- so many own events are noted: none more, or this one
abbrev pub Notes : Option Note → List Note → List Note → Type 0
Notes None old new = new ≡ old
Notes (Some note) old new = new ≡ old ++ note ∷ []

-- its Touch
abbrev pub touch_of : EntryPacket → ℕ → Part → Event
touch_of p id after = Touch id p.direction p.segment p.moment after

-- as an own event, if it was made
abbrev pub touch_note : EntryPacket → Option MadeTouch → Option Note
touch_note p None = None
touch_note p (Some made) = Some (record { number = made.number; event = touch_of p made.id made.after })

-- The Touch of the entry was made after all these events, and was lawful.
pub record IsTouched (place : ℕ) (p : EntryPacket) (number : ℕ) (before : Record) (v w : PassSight) : Type 0 where
  pub id : ℕ
  pub its : (i : ℕ) → is_kept_for place i v.view.places.held ≡ true → i ≡ id
  pub log : List Event
  pub after : Part
  pub all : AreAll v.view log
  pub number_is : number ≡ length log
  pub legal : is_legal (sizes_of v) (log ++ touch_of p id after ∷ []) ≡ true
  pub found : record_of id (state_after log) ≡ Some before
  pub step : step_of before.part p.direction p.segment p.moment ≡ outcome.Accept after
  pub same : w ≡ record v {
    view = record v.view { seen = seen_with log number (touch_of p id after) v.view.seen; walk = None; readings = w.view.readings };
  }

-- The pass has seen all events so far, and this was so after them of the entry for which it holds the place.
pub record IsLeft (place at : ℕ) (F : ℕ → List Event → Type 0) (v w : PassSight) : Type 0 where
  pub same : w ≡ looked_on v w
  pub all : AreAll v.view w.view.seen.front
  pub point : at ≡ length w.view.seen.front
  pub is : (id : ℕ) → is_kept_for place id v.view.places.held ≡ true → F id w.view.seen.front

-- the step gave this
abbrev pub Gives : EntryPacket → Outcome → ℕ → List Event → Type 0
Gives p o id log = StepGives id p.direction p.segment p.moment o (state_after log)

abbrev pub IsNotLive : ℕ → List Event → Type 0
IsNotLive id log = record_of id (state_after log) ≡ None

-- UNDER THE TURN

-- The pass has the turn of the place's record, knows the place as LIVE of the id, and has this record of it.
pub record KnowsEntry (place id : ℕ) (before : Record) (v : PassSight) : Type 0 where
  pub has : HasRecord place v
  pub shown : known_phase v.view.commit.hand ≡ 3 + id
  pub subject : known_record v.view.commit.hand ≡ Some before

-- The Touch was made, and the record goes on with the part.
pub record GoesOn (place id : ℕ) (before : Record) (p : EntryPacket) (after : Part) (number : ℕ) (v w : PassSight) : Type 0 where
  pub log : List Event
  pub all : AreAll v.view log
  pub number_is : number ≡ length log
  pub legal : is_legal (sizes_of v) (log ++ touch_of p id after ∷ []) ≡ true
  pub found : record_of id (state_after log) ≡ Some before
  pub same : w ≡ record v {
    view = record v.view {
      seen = seen_with log number (touch_of p id after) v.view.seen;
      commit = record v.view.commit { hand = hand_goes_on after v.view.commit.hand };
      walk = None;
      readings = w.view.readings;
    };
    slots = with_subject place (Some (record before { part = after })) v.slots;
  }

-- the step gave this, and nothing changed
pub record IsStill (before : Record) (p : EntryPacket) (o : Outcome) (at a : ℕ) (v w : PassSight) : Type 0 where
  pub point : a ≡ at
  pub step : step_of before.part p.direction p.segment p.moment ≡ o
  pub same : w ≡ v

pub record Accepts (place id : ℕ) (before : Record) (p : EntryPacket) (number : ℕ) (record_was : Record) (v w : PassSight) : Type 0 where
  pub was : record_was ≡ before
  pub after : Part
  pub step : step_of before.part p.direction p.segment p.moment ≡ outcome.Accept after
  pub goes : GoesOn place id before p after number v w

abbrev pub StepsRecord : ℕ → ℕ → Record → EntryPacket → ℕ → TouchOutcome → PassSight → PassSight → Type 0
StepsRecord place id before p at (touch.Touched number record_was) v w = Accepts place id before p number record_was v w
StepsRecord place id before p at (touch.Ignored a) v w = IsStill before p outcome.Ignore at a v w
StepsRecord place id before p at (touch.Invalid a) v w = IsStill before p outcome.Invalid at a v w
StepsRecord place id before p at (touch.Reopen a) v w = IsStill before p outcome.Reopen at a v w
StepsRecord place id before p at (touch.Reset a) v w = IsStill before p outcome.Reset at a v w
StepsRecord place id before p at (touch.Expired a) v w = IsStill before p outcome.Expired at a v w
StepsRecord place id before p at (touch.Gone a) v w = ⊥

-- all else is as it was, but the note of a walk and the readings
abbrev pub TouchesLive : ℕ → EntryPacket → TouchOutcome → PassSight → PassSight → Type 0
TouchesLive place p (touch.Touched number before) v w = IsTouched place p number before v w
TouchesLive place p (touch.Ignored at) v w = IsLeft place at (Gives p outcome.Ignore) v w
TouchesLive place p (touch.Invalid at) v w = IsLeft place at (Gives p outcome.Invalid) v w
TouchesLive place p (touch.Reopen at) v w = IsLeft place at (Gives p outcome.Reopen) v w
TouchesLive place p (touch.Reset at) v w = IsLeft place at (Gives p outcome.Reset) v w
TouchesLive place p (touch.Expired at) v w = IsLeft place at (Gives p outcome.Expired) v w
TouchesLive place p (touch.Gone at) v w = IsLeft place at IsNotLive v w

-- what a Touch is under the turn: the pass knows the record with its new part, which is in the slot's stead
pub record IsTouchedUnder (place : ℕ) (p : EntryPacket) (number : ℕ) (before : Record) (v w : PassSight) : Type 0 where
  pub id : ℕ
  pub its : (i : ℕ) → is_kept_for place i v.view.places.held ≡ true → i ≡ id
  pub after : Part
  pub step : step_of before.part p.direction p.segment p.moment ≡ outcome.Accept after
  pub known : known_record v.view.commit.hand ≡ Some before
  pub goes : GoesOn place id before p after number v w

abbrev pub TouchesUnder : ℕ → EntryPacket → TouchOutcome → PassSight → PassSight → Type 0
TouchesUnder place p (touch.Touched number before) v w = IsTouchedUnder place p number before v w
TouchesUnder place p (touch.Ignored at) v w = IsLeft place at (Gives p outcome.Ignore) v w
TouchesUnder place p (touch.Invalid at) v w = IsLeft place at (Gives p outcome.Invalid) v w
TouchesUnder place p (touch.Reopen at) v w = IsLeft place at (Gives p outcome.Reopen) v w
TouchesUnder place p (touch.Reset at) v w = IsLeft place at (Gives p outcome.Reset) v w
TouchesUnder place p (touch.Expired at) v w = IsLeft place at (Gives p outcome.Expired) v w
TouchesUnder place p (touch.Gone at) v w = IsLeft place at IsNotLive v w
