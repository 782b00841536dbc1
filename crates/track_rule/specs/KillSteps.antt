-- What the steps of a kill tell its pass: the phase of the place is DEAD, and then the Destroy is made. v is what the pass knew
-- before, w what it knows after.
use Rattle.track_rule.specs.Links.{is_up}
use Rattle.std.specs.Prelude.{◌≡◌, ℕ, ◌+◌, ◌*◌, ◌<◌, ◌^◌, true, false, Option, Some, None, List, [], ◌∷◌, ◌++◌, length}
use Rattle.atomic_table.specs.Table.{Me, Step}
use Rattle.tuple_core.specs.declared.Tuple.{Tuple}
use Rattle.expect_table.specs.Expectations.{without_master}
use Rattle.expect_table.specs.declared.expectation.Expectation.{Expectation}
use Rattle.history_book.specs.History.{is_legal}
use Rattle.history_book.specs.Legality.{is_reason}
use Rattle.history_book.specs.State.{record_of}
use Rattle.history_book.specs.declared.event.Event.{Event}
use Rattle.history_book.specs.declared.event.Event.TheVariants.{Confirm, Touch, Destroy, Expect, Claim, Unexpect}
use Rattle.history_book.specs.declared.event.Why.{Why}
use Rattle.history_book.specs.declared.record.Record.{Record}
use Rattle.track_rule.specs.declared.slot.Slot.{Slot}
use Rattle.track_rule.specs.declared.view.Hook.{Hook}
use Rattle.track_rule.specs.declared.view.Middle.{Middle}
use Rattle.track_rule.specs.declared.view.Middle.TheVariants.{Calm, Born, Dying}
use Rattle.track_rule.specs.declared.view.View.{View}
use Rattle.track_rule.specs.Chains.{bucket_of, pair_of, shuts_of}
use Rattle.track_rule.specs.CommitSteps.{told_in}
use Rattle.track_rule.specs.Commits.{HasItsTurn}
use Rattle.track_rule.specs.History.{IsNumber, IsWord, packed, state_after}
use Rattle.track_rule.specs.Layout.{phase_word}
use Rattle.track_rule.specs.PhaseSteps.{phase_dead}
use Rattle.track_rule.specs.Readings.{noted, stored}
use Rattle.track_rule.specs.Steps.{AreAll}
use Rattle.track_rule.specs.TouchSteps.{known_phase, known_record}

-- DEAD

-- The pass has shut both buckets of the record's tuples, and where the record has the helper, it has the turn of the expectations.
pub record IsShutFor (v : View) (r : Record) : Type 0 where
  pub original : 0 < shuts_of (bucket_of v.passes.sizes (pair_of r.original)) v
  pub reply : 0 < shuts_of (bucket_of v.passes.sizes (pair_of r.reply)) v
  pub helped : HasItsTurn r v.expected

-- there is such a record
abbrev pub MayDie : View → Option Record → Type 0
MayDie v None = ⊥
MayDie v (Some r) = IsShutFor v r

-- The phase is DEAD: the pass carries the table's reference now, and the record is about to be destroyed.
abbrev pub shown_dead : ℕ → Record → View → View
shown_dead place r v = noted (stored (phase_word v.passes.sizes place) phase_dead) (record v {
  places = record v.places { carried = place ∷ v.places.carried };
  commit = record { hand = Some (record { place = place; phase = phase_dead; subject = Some r }); middle = Dying r };
})

-- This was the record of the place and of the id that the phase showed.
pub record ShowsDead (place : ℕ) (r : Record) (v w : View) : Type 0 where
  pub view : w ≡ shown_dead place r v
  pub placed : r.place ≡ place
  pub shown : known_phase v.commit.hand ≡ 3 + r.id

-- DESTROY

-- what a Destroy says
pub record Destroying : Type 0 where
  pub id : ℕ
  pub why : Why

abbrev pub destroy_in : Event → Option Destroying
destroy_in (Confirm r) = None
destroy_in (Touch id direction segment moment after) = None
destroy_in (Destroy id why) = Some (record { id = id; why = why })
destroy_in (Expect expectation replaced moment) = None
destroy_in (Claim expectation master tuple moment) = None
destroy_in (Unexpect expectation moment) = None

-- the history with it
abbrev pub with_destroy : List Event → Destroying → List Event
with_destroy log d = log ++ Destroy d.id d.why ∷ []

-- so it is of the record that dies, if one does
abbrev pub OfDying : (Record → Type 0) → Middle → Type 0
OfDying F Calm = ⊥
OfDying F (Born r) = ⊥
OfDying F (Dying r) = F r

-- The record that dies is that of the id, and the reason holds of it. The pass has room for an event, and no link of its own stands
-- in a chain.
pub record MayDestroy (d : Destroying) (v : View) (r : Record) : Type 0 where
  pub same : r.id ≡ d.id
  pub reason : is_reason d.why r ≡ true
  pub few : length v.seen.own < 2 ^ 30
  pub down : (place : ℕ) → is_up place v.buckets.hooks ≡ false

-- a link of a destroyed record, which still stands in its chain
abbrev pub loose_hook : ℕ → Tuple → Hook
loose_hook link t = record { link = link; pair = pair_of t; next = None; up = true }

-- what is expected, without that of the entry
abbrev pub without_its : ℕ → Option (List Expectation) → Option (List Expectation)
without_its id None = None
without_its id (Some list) = Some (without_master id list)

-- The Destroy is made: the record is live no longer. Its links, which stand in buckets that the pass has shut, are the pass's now,
-- and name no id. The pass still carries the table's reference to the place.
abbrev pub destroyed : List Event → Destroying → Record → View → View
destroyed log d r v = noted (stored 0 (packed (with_destroy log d))) (record v {
  seen = record v.seen {
    front = with_destroy log d;
    own = v.seen.own ++ record { number = length log; event = Destroy d.id d.why } ∷ [];
  };
  places = record v.places { ended = r.place ∷ v.places.ended };
  buckets = record {
    shut = told_in r.place None v.buckets.shut;
    hooks = loose_hook (1 + 2 * r.place) r.original ∷ loose_hook (2 + 2 * r.place) r.reply ∷ v.buckets.hooks;
  };
  commit = record v.commit { middle = Calm };
  expected = without_its d.id v.expected;
  walk = None;
})

-- These were all events before, which the step tells. The Destroy was lawful: the record of the id was the one that the pass knows.
pub record MakesDestroy (d : Destroying) (v : View) (tells : List Event → Type 0) (w : View) (r : Record) : Type 0 where
  pub log : List Event
  pub all : AreAll v log
  pub told : tells log
  pub view : w ≡ destroyed log d r v
  pub legal : is_legal v.passes.sizes (with_destroy log d) ≡ true
  pub before : record_of d.id (state_after log) ≡ Some r

-- WHAT THE STEPS ARE ON THE TABLE

-- the word of the step is the phase of this place
abbrev pub DeadStep : Step Slot → Me Slot View → ℕ → Me Slot View → Type 0
DeadStep step me n me' =
    (p : ℕ) (r : Record) → step.word ≡ phase_word me.0.passes.sizes p → known_record me.0.commit.hand ≡ Some r
    → ShowsDead p r me.0 me'.0 × (me'.1 ≡ me.1)

-- what an event asks that is added as a Destroy, and what its step is
abbrev pub CanDestroy : Option Destroying → View → Type 0
CanDestroy None v = ⊥
CanDestroy (Some d) v = OfDying (MayDestroy d v) v.commit.middle

abbrev pub DestroyStep : Option Destroying → Step Slot → Me Slot View → ℕ → Me Slot View → Type 0
DestroyStep None step me n me' = Unit {0}
DestroyStep (Some d) step me n me' = OfDying (MakesDestroy d me.0 (IsWord n) me'.0) me.0.commit.middle × (me'.1 ≡ me.1)

-- the number of the Destroy is n, with all that its step tells
abbrev pub HasDestroyed : Option Destroying → View → ℕ → View → Type 0
HasDestroyed None v n w = ⊥
HasDestroyed (Some d) v n w = OfDying (MakesDestroy d v (IsNumber n) w) v.commit.middle
