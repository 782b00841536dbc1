-- What the three events of the expectations, an Expect, a Claim and an Unexpect, tell their pass: v is what it knew before, w what
-- it knows after.
use Rattle.std.specs.Prelude.{◌≡◌, ℕ, ◌+◌, ◌<◌, ◌^◌, true, is_some, unwrap_or, find, Option, Some, None, List, [], ◌∷◌, ◌++◌, length}
use Rattle.atomic_table.specs.Table.{Me, Step}
use Rattle.tuple_core.specs.declared.Tuple.{Tuple}
use Rattle.expect_table.specs.Expectations.{add_outcome, matching}
use Rattle.expect_table.specs.Match.{has_id}
use Rattle.expect_table.specs.declared.expectation.Expectation.{Expectation}
use Rattle.expect_table.specs.declared.expectation.Want.{Want}
use Rattle.history_book.specs.History.{is_legal}
use Rattle.history_book.specs.Legality.{expected_for, helps_in, is_added, may_claim, may_happen, may_unexpect}
use Rattle.history_book.specs.State.{State, next, record_of}
use Rattle.history_book.specs.declared.event.Event.{Event}
use Rattle.history_book.specs.declared.event.Event.TheVariants.{Confirm, Touch, Destroy, Expect, Claim, Unexpect}
use Rattle.track_rule.specs.declared.slot.Slot.{Slot}
use Rattle.track_rule.specs.declared.view.View.{View}
use Rattle.track_rule.specs.History.{IsWord, packed, state_after}
use Rattle.track_rule.specs.Readings.{noted, stored}
use Rattle.track_rule.specs.Steps.{AreAll}
use Rattle.track_rule.specs.TouchSteps.{known_phase, known_record}

-- what is expected, as the pass knows it under its turn
abbrev pub known_expected : View → List Expectation
known_expected v = unwrap_or v.expected []

-- what an event leaves of what was expected
abbrev pub expects_after : Event → List Expectation → List Expectation
expects_after e list = (next (record { records = []; expects = list }) e).expects

-- The event is made, and the pass knows what is expected then.
abbrev pub made_expected : List Event → Event → View → View
made_expected log e v = noted (stored 0 (packed (log ++ e ∷ []))) (record v {
  seen = record v.seen { front = log ++ e ∷ []; own = v.seen.own ++ record { number = length log; event = e } ∷ [] };
  expected = Some (expects_after e (known_expected v));
  walk = None;
})

-- EXPECT

-- what an Expect says, but for its number
pub record Expecting : Type 0 where
  pub master : ℕ
  pub want : Want
  pub zone : ℕ
  pub deadline : ℕ
  pub replaced : Option ℕ
  pub moment : ℕ

abbrev pub expect_in : Event → Option Expecting
expect_in (Confirm r) = None
expect_in (Touch id direction segment moment after) = None
expect_in (Destroy id why) = None
expect_in (Expect e replaced moment) =
    Some (record { master = e.master; want = e.want; zone = e.zone; deadline = e.deadline; replaced = replaced; moment = moment })
expect_in (Claim expectation master tuple moment) = None
expect_in (Unexpect expectation moment) = None

-- the expectation with a number, and its event
abbrev pub expectation_as : ℕ → Expecting → Expectation
expectation_as n x = record { id = n; master = x.master; want = x.want; zone = x.zone; deadline = x.deadline }

abbrev pub expect_as : ℕ → Expecting → Event
expect_as n x = Expect (expectation_as n x) x.replaced x.moment

-- the history with it
abbrev pub with_expect : List Event → Expecting → List Event
with_expect log x = log ++ expect_as (length log) x ∷ []

-- The pass has the turn of the expectations, and that of the record of a place that is LIVE of the master, which has the helper
-- and is in the zone. The expectation ends 300 s after the moment, and can be added in place of the older one, whatever its number is. The pass has
-- room for an event.
pub record MayExpect (x : Expecting) (v : View) : Type 0 where
  pub turn : is_some v.expected ≡ true
  pub shown : known_phase v.commit.hand ≡ 3 + x.master
  pub helper : helps_in x.zone (known_record v.commit.hand) ≡ true
  pub deadline : x.deadline ≡ x.moment + expected_for
  pub added : (n : ℕ) → is_added (add_outcome v.passes.sizes.expectations (known_expected v) (expectation_as n x) x.moment) x.replaced ≡ true
  pub few : length v.seen.own < 2 ^ 30

-- what an event asks that is added as an Expect
abbrev pub CanExpect : Option Expecting → View → Type 0
CanExpect None v = ⊥
CanExpect (Some x) v = MayExpect x v

-- These were all events before; the number of this one is how many they are, and is the id of the expectation. It was lawful: this
-- was expected, and the record of the master was the one that the pass knows.
pub record HasExpect (x : Expecting) (v : View) (n : ℕ) (w : View) : Type 0 where
  pub log : List Event
  pub all : AreAll v log
  pub number : n ≡ length log
  pub view : w ≡ made_expected log (expect_as (length log) x) v
  pub legal : is_legal v.passes.sizes (with_expect log x) ≡ true
  pub expects : (state_after log).expects ≡ known_expected v
  pub before : record_of x.master (state_after log) ≡ known_record v.commit.hand

abbrev pub HasExpected : Option Expecting → View → ℕ → View → Type 0
HasExpected None v n w = ⊥
HasExpected (Some x) v n w = HasExpect x v n w

-- CLAIM

-- what a Claim says
pub record Claiming : Type 0 where
  pub expectation : ℕ
  pub master : ℕ
  pub tuple : Tuple
  pub moment : ℕ

abbrev pub claim_in : Event → Option Claiming
claim_in (Confirm r) = None
claim_in (Touch id direction segment moment after) = None
claim_in (Destroy id why) = None
claim_in (Expect expectation replaced moment) = None
claim_in (Claim expectation master tuple moment) =
    Some (record { expectation = expectation; master = master; tuple = tuple; moment = moment })
claim_in (Unexpect expectation moment) = None

-- the event, and the history with it
abbrev pub claim_of : Claiming → Event
claim_of c = Claim c.expectation c.master c.tuple c.moment

abbrev pub with_claim : List Event → Claiming → List Event
with_claim log c = log ++ claim_of c ∷ []

-- The pass has the turn of the expectations, and the first one that matches is that of the id, and of the master. The pass has room
-- for an event.
pub record MayClaim (c : Claiming) (v : View) : Type 0 where
  pub turn : is_some v.expected ≡ true
  pub may : may_claim (matching c.tuple c.moment (known_expected v)) c.expectation c.master ≡ true
  pub few : length v.seen.own < 2 ^ 30

-- what an event asks that is added as a Claim
abbrev pub CanClaim : Option Claiming → View → Type 0
CanClaim None v = ⊥
CanClaim (Some c) v = MayClaim c v

-- These were all events before; the number of this one is how many they are. It was lawful: this was expected.
pub record HasClaim (c : Claiming) (v : View) (n : ℕ) (w : View) : Type 0 where
  pub log : List Event
  pub all : AreAll v log
  pub number : n ≡ length log
  pub view : w ≡ made_expected log (claim_of c) v
  pub legal : is_legal v.passes.sizes (with_claim log c) ≡ true
  pub expects : (state_after log).expects ≡ known_expected v

abbrev pub HasClaimed : Option Claiming → View → ℕ → View → Type 0
HasClaimed None v n w = ⊥
HasClaimed (Some c) v n w = HasClaim c v n w

-- UNEXPECT

-- what an Unexpect says
pub record Unexpecting : Type 0 where
  pub expectation : ℕ
  pub moment : ℕ

abbrev pub unexpect_in : Event → Option Unexpecting
unexpect_in (Confirm r) = None
unexpect_in (Touch id direction segment moment after) = None
unexpect_in (Destroy id why) = None
unexpect_in (Expect expectation replaced moment) = None
unexpect_in (Claim expectation master tuple moment) = None
unexpect_in (Unexpect expectation moment) = Some (record { expectation = expectation; moment = moment })

-- the event, and the history with it
abbrev pub unexpect_of : Unexpecting → Event
unexpect_of u = Unexpect u.expectation u.moment

abbrev pub with_unexpect : List Event → Unexpecting → List Event
with_unexpect log u = log ++ unexpect_of u ∷ []

-- The pass has the turn of the expectations, and the one of the id is there and awaited no longer. The pass has room for an event.
pub record MayUnexpect (u : Unexpecting) (v : View) : Type 0 where
  pub turn : is_some v.expected ≡ true
  pub may : may_unexpect (find (has_id u.expectation) (known_expected v)) u.moment ≡ true
  pub few : length v.seen.own < 2 ^ 30

-- what an event asks that is added as an Unexpect
abbrev pub CanUnexpect : Option Unexpecting → View → Type 0
CanUnexpect None v = ⊥
CanUnexpect (Some u) v = MayUnexpect u v

-- These were all events before; the number of this one is how many they are. It was lawful: this was expected.
pub record HasUnexpect (u : Unexpecting) (v : View) (n : ℕ) (w : View) : Type 0 where
  pub log : List Event
  pub all : AreAll v log
  pub number : n ≡ length log
  pub view : w ≡ made_expected log (unexpect_of u) v
  pub legal : is_legal v.passes.sizes (with_unexpect log u) ≡ true
  pub expects : (state_after log).expects ≡ known_expected v

abbrev pub HasUnexpected : Option Unexpecting → View → ℕ → View → Type 0
HasUnexpected None v n w = ⊥
HasUnexpected (Some u) v n w = HasUnexpect u v n w

-- WHAT THE STEP IS ON THE TABLE

-- the event with a number: only an Expect has it, as the id
abbrev pub numbered : ℕ → Event → Event
numbered n (Confirm r) = Confirm r
numbered n (Touch id direction segment moment after) = Touch id direction segment moment after
numbered n (Destroy id why) = Destroy id why
numbered n (Expect e replaced moment) = Expect (record e { id = n }) replaced moment
numbered n (Claim expectation master tuple moment) = Claim expectation master tuple moment
numbered n (Unexpect expectation moment) = Unexpect expectation moment

-- the record of the id is the one that the pass knows under the turn of a place that is LIVE of it
abbrev pub KnowsLive : View → State → Type 0
KnowsLive v s = (id : ℕ) → known_phase v.commit.hand ≡ 3 + id → record_of id s ≡ known_record v.commit.hand

-- The pass has the turn of the expectations, and room for an event. The event leaves all records, and is lawful in each state that
-- has what the pass knows: what is expected, and the record.
pub record CanChange (e : Event) (v : View) : Type 0 where
  pub turn : is_some v.expected ≡ true
  pub few : length v.seen.own < 2 ^ 30
  pub leaves : (n : ℕ) (s : State) → (next s (numbered n e)).records ≡ s.records
  pub may : (n : ℕ) (s : State) → s.expects ≡ known_expected v → KnowsLive v s → may_happen v.passes.sizes s n (numbered n e) ≡ true

-- These were all events before, which the step tells. The event was lawful: this was expected, and the record that the pass knows was
-- live.
pub record MakesChange (e : Event) (v : View) (tells : List Event → Type 0) (w : View) : Type 0 where
  pub log : List Event
  pub all : AreAll v log
  pub told : tells log
  pub view : w ≡ made_expected log (numbered (length log) e) v
  pub legal : is_legal v.passes.sizes (log ++ numbered (length log) e ∷ []) ≡ true
  pub expects : (state_after log).expects ≡ known_expected v
  pub lives : KnowsLive v (state_after log)

abbrev pub ChangeStep : Event → Step Slot → Me Slot View → ℕ → Me Slot View → Type 0
ChangeStep e step me n me' = MakesChange e me.0 (IsWord n) me'.0 × (me'.1 ≡ me.1)
