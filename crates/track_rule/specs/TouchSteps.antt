-- What a Touch tells its pass: v is what it knew before, w what it knows after.
use Rattle.std.specs.Prelude.{◌≡◌, ℕ, ◌+◌, ◌<◌, ◌^◌, true, Option, Some, None, List, [], ◌∷◌, ◌++◌, length}
use Rattle.atomic_table.specs.Table.{Me, Step}
use Rattle.tuple_core.specs.declared.Direction.{Direction}
use Rattle.tuple_core.specs.declared.Segment.{Segment}
use Rattle.proto_rules.specs.declared.Part.{Part}
use Rattle.history_book.specs.History.{is_legal}
use Rattle.history_book.specs.Legality.{may_touch}
use Rattle.history_book.specs.State.{record_of}
use Rattle.history_book.specs.declared.event.Event.{Event}
use Rattle.history_book.specs.declared.event.Event.TheVariants.{Confirm, Touch, Destroy, Expect, Claim, Unexpect}
use Rattle.history_book.specs.declared.record.Record.{Record}
use Rattle.track_rule.specs.declared.slot.Slot.{Slot}
use Rattle.track_rule.specs.declared.view.Hand.{Hand}
use Rattle.track_rule.specs.declared.view.Middle.TheVariants.{Calm}
use Rattle.track_rule.specs.declared.view.View.{View}
use Rattle.track_rule.specs.History.{IsNumber, IsWord, packed, state_after}
use Rattle.track_rule.specs.Readings.{noted, stored}
use Rattle.track_rule.specs.Steps.{AreAll}

-- what a Touch says
pub record Touching : Type 0 where
  pub id : ℕ
  pub direction : Direction
  pub segment : Segment
  pub moment : ℕ
  pub part : Part

abbrev pub touch_in : Event → Option Touching
touch_in (Confirm r) = None
touch_in (Touch id direction segment moment after) =
    Some (record { id = id; direction = direction; segment = segment; moment = moment; part = after })
touch_in (Destroy id why) = None
touch_in (Expect expectation replaced moment) = None
touch_in (Claim expectation master tuple moment) = None
touch_in (Unexpect expectation moment) = None

-- the history with it
abbrev pub with_touch : List Event → Touching → List Event
with_touch log t = log ++ Touch t.id t.direction t.segment t.moment t.part ∷ []

-- the phase and the record that a pass knows under a record's turn
abbrev pub known_phase : Option Hand → ℕ
known_phase None = 0
known_phase (Some h) = h.phase

abbrev pub known_record : Option Hand → Option Record
known_record None = None
known_record (Some h) = h.subject

-- The pass has the turn of the record of a place that is LIVE of the id, and the entry accepts the packet and goes on with this
-- part. The pass is in the middle of no commit, and has room for an event.
pub record MayTouch (t : Touching) (v : View) : Type 0 where
  pub shown : known_phase v.commit.hand ≡ 3 + t.id
  pub may : may_touch (known_record v.commit.hand) t.direction t.segment t.moment t.part ≡ true
  pub calm : v.commit.middle ≡ Calm
  pub few : length v.seen.own < 2 ^ 30

-- the record goes on with another part
abbrev pub goes_on : Part → Option Record → Option Record
goes_on part None = None
goes_on part (Some r) = Some (record r { part = part })

abbrev pub hand_goes_on : Part → Option Hand → Option Hand
hand_goes_on part None = None
hand_goes_on part (Some h) = Some (record h { subject = goes_on part h.subject })

-- the record that a pass knows has the place of the turn
abbrev pub IsItsTurn : Option Hand → Type 0
IsItsTurn hand = (h : Hand) (r : Record) → hand ≡ Some h → h.subject ≡ Some r → r.place ≡ h.place

-- The Touch is made: the record has the part, and the pass knows it so.
abbrev pub touched : List Event → Touching → View → View
touched log t v = noted (stored 0 (packed (with_touch log t))) (record v {
  seen = record v.seen {
    front = with_touch log t;
    own = v.seen.own ++ record { number = length log; event = Touch t.id t.direction t.segment t.moment t.part } ∷ [];
  };
  commit = record v.commit { hand = hand_goes_on t.part v.commit.hand };
  walk = None;
})

-- These were all events before, which the step tells. The Touch was lawful: the record of the id was the one that the pass knows,
-- which has the place of its turn.
pub record MakesTouch (t : Touching) (v : View) (tells : List Event → Type 0) (w : View) : Type 0 where
  pub log : List Event
  pub all : AreAll v log
  pub told : tells log
  pub view : w ≡ touched log t v
  pub legal : is_legal v.passes.sizes (with_touch log t) ≡ true
  pub before : record_of t.id (state_after log) ≡ known_record v.commit.hand
  pub placed : IsItsTurn v.commit.hand

-- WHAT THE STEP IS ON THE TABLE

-- what an event asks that is added as a Touch, and what its step is
abbrev pub CanTouch : Option Touching → View → Type 0
CanTouch None v = ⊥
CanTouch (Some t) v = MayTouch t v

abbrev pub TouchStep : Option Touching → Step Slot → Me Slot View → ℕ → Me Slot View → Type 0
TouchStep None step me n me' = Unit {0}
TouchStep (Some t) step me n me' = MakesTouch t me.0 (IsWord n) me'.0 × (me'.1 ≡ me.1)

-- the number of the Touch is n, with all that its step tells
abbrev pub HasTouched : Option Touching → View → ℕ → View → Type 0
HasTouched None v n w = ⊥
HasTouched (Some t) v n w = MakesTouch t v (IsNumber n) w
