-- What the steps of a commit tell a pass: v is what it knew before, w what it knows after.
use Rattle.std.specs.Prelude.{◌≡◌, ℕ, ◌+◌, ◌*◌, ◌<◌, ◌≤◌, ◌==◌, ◌&&◌, ◌^◌, true, if◌then◌else◌, Option, Some, None, List, [], ◌∷◌, ◌++◌, length, map}
use Rattle.atomic_table.specs.Table.{Me, Step}
use Rattle.tuple_core.specs.declared.Tuple.{Tuple}
use Rattle.history_book.specs.History.{is_legal}
use Rattle.history_book.specs.Legality.{is_of_one_flow}
use Rattle.history_book.specs.declared.event.Event.{Event}
use Rattle.history_book.specs.declared.event.Event.TheVariants.{Confirm, Touch, Destroy, Expect, Claim, Unexpect}
use Rattle.history_book.specs.declared.record.Record.{Record}
use Rattle.track_rule.specs.declared.slot.Slot.{Slot}
use Rattle.track_rule.specs.declared.view.ChainLink.{ChainLink}
use Rattle.track_rule.specs.declared.view.Hook.{Hook}
use Rattle.track_rule.specs.declared.view.Keep.{Keep}
use Rattle.track_rule.specs.declared.view.Middle.{Middle}
use Rattle.track_rule.specs.declared.view.Middle.TheVariants.{Calm, Born, Dying}
use Rattle.track_rule.specs.declared.view.Pair.{Pair}
use Rattle.track_rule.specs.declared.view.Purpose.TheVariants.{For}
use Rattle.track_rule.specs.declared.view.Shut.{Shut}
use Rattle.track_rule.specs.declared.view.View.{View}
use Rattle.track_rule.specs.Chains.{bucket_of, chain_in, loose_of, pair_of, shuts_of}
use Rattle.track_rule.specs.Free.{taken_out, unlisted}
use Rattle.track_rule.specs.History.{IsNumber, IsWord, packed}
use Rattle.track_rule.specs.Layout.{phase_word, place_of}
use Rattle.track_rule.specs.Links.{hook_of, is_raised}
use Rattle.track_rule.specs.Readings.{noted, stored}
use Rattle.track_rule.specs.Records.{has_hand}
use Rattle.track_rule.specs.References.{is_at, is_for_new, is_taken}
use Rattle.track_rule.specs.Steps.{AreAll}
use Rattle.track_rule.specs.Sums.{bit, times, total}

-- CONFIRM

-- 1 where the link of a chain has this tuple
abbrev pub has_pair : Pair → ChainLink → ℕ
has_pair p e = bit (e.pair.first == p.first && e.pair.second == p.second)

-- A link of the pass with this tuple is in its chain, in a bucket that the pass has shut. No other link there has the tuple than
-- those that the pass has put in.
pub record HasLink (link : ℕ) (t : Tuple) (v : View) : Type 0 where
  pub up : is_raised link v.buckets.hooks ≡ true
  pub pair : (hook_of link v.buckets.hooks).pair ≡ pair_of t
  pub shut : 0 < shuts_of (bucket_of v.passes.sizes (pair_of t)) v
  pub clear : total (has_pair (pair_of t)) (chain_in (bucket_of v.passes.sizes (pair_of t)) v.buckets.shut)
      ≤ loose_of v.passes.sizes (bucket_of v.passes.sizes (pair_of t)) (has_pair (pair_of t)) v

-- The pass has taken the record's place, has the turn of its record, carries the reference that is to be the table's, and has put
-- both links into their chains. It is in the middle of no commit, and has room for an event.
pub record CanConfirm (r : Record) (v : View) : Type 0 where
  pub taken : is_taken r.place v.places.held ≡ true
  pub turn : has_hand r.place v ≡ 1
  pub calm : v.commit.middle ≡ Calm
  pub reference : 0 < times r.place v.places.carried
  pub few : length v.seen.own < 2 ^ 30
  pub protocol : is_of_one_flow r ≡ true
  pub original : HasLink (1 + 2 * r.place) r.original v
  pub reply : HasLink (2 + 2 * r.place) r.reply v

-- the place that was taken is held for this id now
abbrev pub held_for : ℕ → ℕ → List Keep → List Keep
held_for place id [] = []
held_for place id (k ∷ ks) = (if is_at place k && is_for_new k.purpose then record k { purpose = For id } ∷ ks else k ∷ held_for place id ks)

-- the links of the pass without the newest one at a link
abbrev pub dropped : ℕ → List Hook → List Hook
dropped link [] = []
dropped link (h ∷ hs) = (if h.link == link then hs else h ∷ dropped link hs)

-- the record with the number of its Confirm as id, and that event
abbrev pub born : ℕ → Record → Record
born n r = record r { id = n }

abbrev pub with_confirm : List Event → Record → List Event
with_confirm log r = log ++ Confirm (born (length log) r) ∷ []

-- a link of the place is that of the entry of this id now, or of none
abbrev pub told : ℕ → Option ℕ → ChainLink → ChainLink
told place id e = record e { id = (if place_of e.link == place then id else e.id) }

abbrev pub named : ℕ → ℕ → ChainLink → ChainLink
named place id e = told place (Some id) e

-- so it is in each of these buckets
abbrev pub told_in : ℕ → Option ℕ → List Shut → List Shut
told_in place id shut = map (λ (s : Shut). record s { chain = map (told place id) s.chain }) shut

abbrev pub named_in : ℕ → ℕ → List Shut → List Shut
named_in place id shut = told_in place (Some id) shut

-- The Confirm is made: the record is live, and its links, which stand in buckets that the pass has shut, are those of a live
-- record and name its id.
abbrev pub confirmed : List Event → Record → View → View
confirmed log r v = noted (stored 0 (packed (with_confirm log r))) (record v {
  seen = record v.seen { front = with_confirm log r; own = v.seen.own ++ record { number = length log; event = Confirm (born (length log) r) } ∷ [] };
  places = record v.places { held = held_for r.place (length log) v.places.held; owned = unlisted (r.place ∷ []) v.places.owned };
  buckets = record {
    shut = named_in r.place (length log) v.buckets.shut;
    hooks = dropped (2 + 2 * r.place) (dropped (1 + 2 * r.place) v.buckets.hooks);
  };
  commit = record v.commit { middle = Born (born (length log) r) };
  walk = None;
})

-- These were all events before, which the step tells. The Confirm was lawful.
pub record MakesConfirm (r : Record) (v : View) (tells : List Event → Type 0) (w : View) : Type 0 where
  pub log : List Event
  pub all : AreAll v log
  pub told : tells log
  pub view : w ≡ confirmed log r v
  pub legal : is_legal v.passes.sizes (with_confirm log r) ≡ true

-- LIVE

-- the phase shows the record: the reference is the table's now, and the turn's holder knows record and phase
abbrev pub shown_live : ℕ → ℕ → Record → View → View
shown_live place id r v = noted (stored (phase_word v.passes.sizes place) (3 + id)) (record v {
  places = record v.places { carried = taken_out place v.places.carried };
  commit = record { hand = Some (record { place = place; phase = 3 + id; subject = Some r }); middle = Calm };
})

-- the pass is in the middle of bringing in the record of this id at this place
abbrev pub IsBorn : ℕ → ℕ → Middle → Type 0
IsBorn place id Calm = ⊥
IsBorn place id (Born r) = (r.place ≡ place) × (r.id ≡ id)
IsBorn place id (Dying r) = ⊥

-- WHAT THE STEPS ARE ON THE TABLE

-- the record of a Confirm
abbrev pub subject_of : Event → Option Record
subject_of (Confirm r) = Some r
subject_of (Touch id direction segment moment after) = None
subject_of (Destroy id why) = None
subject_of (Expect expectation replaced moment) = None
subject_of (Claim expectation master tuple moment) = None
subject_of (Unexpect expectation moment) = None

abbrev pub ConfirmStep : Record → Step Slot → Me Slot View → ℕ → Me Slot View → Type 0
ConfirmStep r step me n me' = MakesConfirm r me.0 (IsWord n) me'.0 × (me'.1 ≡ me.1)

-- what an event asks that is added as a Confirm, and what its step is
abbrev pub CanAdd : Option Record → View → Type 0
CanAdd None v = ⊥
CanAdd (Some r) v = CanConfirm r v

abbrev pub AddStep : Option Record → Step Slot → Me Slot View → ℕ → Me Slot View → Type 0
AddStep None step me n me' = Unit {0}
AddStep (Some r) step me n me' = ConfirmStep r step me n me'

-- the number of the Confirm is n, with all that its step tells
abbrev pub HasAdded : Option Record → View → ℕ → View → Type 0
HasAdded None v n w = ⊥
HasAdded (Some r) v n w = MakesConfirm r v (IsNumber n) w

-- the word of the step is the phase of this place
abbrev pub LiveStep : Step Slot → Me Slot View → ℕ → Me Slot View → Type 0
LiveStep step me n me' =
    (p id : ℕ) (r : Record) → step.word ≡ phase_word me.0.passes.sizes p → n ≡ 3 + id → me.0.commit.middle ≡ Born r
    → (me'.0 ≡ shown_live p id r me.0) × (me'.1 ≡ me.1)
