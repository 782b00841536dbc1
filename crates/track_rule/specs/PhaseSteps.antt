-- What the steps on a phase tell a pass: v is what it knew before, w what it knows after.
use Rattle.std.specs.Prelude.{◌≡◌, ℕ, ◌+◌, ◌-◌, ◌<◌, ◌≤◌, ◌==◌, ◌&&◌, ◌||◌, nat_lt, Bool, if◌then◌else◌, Option, Some, None, List, ◌∷◌, true, false, map, slice_get}
use Rattle.std.specs.List.{list_any}
use Rattle.atomic_table.specs.Table.{Me, Step}
use Rattle.history_book.specs.Desk.{IsLiveIn}
use Rattle.history_book.specs.Entry.{confirmed_by}
use Rattle.history_book.specs.declared.event.Event.{Event}
use Rattle.history_book.specs.declared.record.Record.{Record}
use Rattle.track_rule.specs.declared.slot.Slot.{Slot}
use Rattle.track_rule.specs.declared.view.ChainLink.{ChainLink}
use Rattle.track_rule.specs.declared.view.Hand.{Hand}
use Rattle.track_rule.specs.declared.view.Keep.{Keep}
use Rattle.track_rule.specs.declared.view.Middle.TheVariants.{Calm}
use Rattle.track_rule.specs.declared.view.Purpose.{Purpose}
use Rattle.track_rule.specs.declared.view.Purpose.TheVariants.{Taken, Testing, Shown, For}
use Rattle.track_rule.specs.declared.view.View.{View}
use Rattle.track_rule.specs.BucketSteps.{IsShutAt}
use Rattle.track_rule.specs.Free.{is_among, known_free}
use Rattle.track_rule.specs.History.{state_after}
use Rattle.track_rule.specs.KeptWords.{is_kept_for}
use Rattle.track_rule.specs.Layout.{phase_word, place_of}
use Rattle.track_rule.specs.Notes.{note_where}
use Rattle.track_rule.specs.Readings.{IsSole, found, last_read, noted, stored}
use Rattle.track_rule.specs.References.{WasConfirmed, is_at, is_taken}
use Rattle.track_rule.specs.Sums.{times}

-- the numbers of the phases that a place has while no entry is shown live there
abbrev pub phase_free : ℕ
phase_free = 0

abbrev pub phase_owned : ℕ
phase_owned = 1

-- and of one whose entry dies, or is destroyed
abbrev pub phase_dead : ℕ
phase_dead = 2

-- A pass stores FREE of a place that it owes, and OWNED of one that it has taken.
abbrev pub may_store : ℕ → ℕ → View → Bool
may_store place to v = (to == phase_free && is_among place v.places.owed) || (to == phase_owned && is_taken place v.places.held)

-- the pass has seen that the entry of this id was confirmed at this place
abbrev pub has_place_of : ℕ → Option Record → Bool
has_place_of place None = false
has_place_of place (Some r) = r.place == place

abbrev pub saw_confirm : List Event → ℕ → ℕ → Bool
saw_confirm front id place = has_place_of place (confirmed_by (slice_get front id))

-- a place is held for the entry of this id
abbrev pub kept_for : List Event → ℕ → ℕ → Purpose
kept_for front place id = (if saw_confirm front id place then For id else Shown id)

-- for what a place is held whose phase is LIVE of this id
abbrev pub purpose_at : List Event → ℕ → ℕ → Purpose → Purpose
purpose_at front place id Taken = Taken
purpose_at front place id Testing = kept_for front place id
purpose_at front place id (Shown i) = kept_for front place i
purpose_at front place id (For i) = For i

-- a reference to the place, after a load of its phase
abbrev pub test_at : List Event → ℕ → ℕ → Keep → Keep
test_at front place n k = record k { purpose = (if nat_lt 2 n && is_at place k then purpose_at front place (n - 3) k.purpose else k.purpose) }

abbrev pub tested : List Event → ℕ → ℕ → List Keep → List Keep
tested front place n held = map (test_at front place n) held

-- a place is held to look what stands there, or for an id whose Confirm the pass has not seen
abbrev pub is_open : Purpose → Bool
is_open Taken = false
is_open Testing = true
is_open (Shown id) = true
is_open (For id) = false

abbrev pub holds_open : List Keep → Bool
holds_open held = list_any (λ k. is_open k.purpose) held

-- What a load leaves. A reference to look what stands at the place is for an id of which that is LIVE; the pass holds the place
-- for it once it has seen its Confirm. A walk that met a link of the place has noted where the phase is LIVE of none.
abbrev pub read_phase : ℕ → ℕ → View → View
read_phase place n v = noted (found (phase_word v.passes.sizes place) n) (record v {
  places = record v.places { held = tested v.seen.front place n v.places.held };
  walk = note_where (nat_lt n 3) place v.walk;
})

-- A load: a place of the free list under the pass's own turn is FREE, and so is one whose phase the pass has set to that. One
-- that it has taken and set to OWNED is that, and one whose entry it destroyed is DEAD while it carries the table's reference.
-- One that it holds for an id is LIVE of no other. An id of which it is LIVE, and whose Confirm the pass has seen, is live there
-- after all events that the pass has seen: it does not come back once it was destroyed. A pass that holds no place to look what
-- stands there holds the same as before, and so does one whose newest reference alone may be one, but for that.
-- Under the turn of the place's record it is the one that the pass knows, where that is LIVE, and else none such. Of a link that
-- stands in a bucket which the pass has shut, and names an id, the place is LIVE of this id, unless the pass is in the middle of a
-- commit itself.
pub record LoadsPhase (place : ℕ) (v : View) (n : ℕ) (w : View) : Type 0 where
  pub view : w ≡ read_phase place n v
  pub settled : holds_open v.places.held ≡ false → w ≡ record v { walk = w.walk; readings = w.readings }
  pub newest : (k : Keep) (others : List Keep) → v.places.held ≡ k ∷ others → holds_open others ≡ false
      → w ≡ record v { places = record v.places { held = test_at v.seen.front place n k ∷ others }; walk = w.walk; readings = w.readings }
  pub idle : 0 < times place (known_free v) + times place v.places.clear → n ≡ phase_free
  pub owned : 0 < times place v.places.owned → n ≡ phase_owned
  pub ended : 0 < times place v.places.ended → n ≡ phase_dead
  pub sole : IsSole v → n ≡ last_read (phase_word v.passes.sizes place) v
  pub kept : (id : ℕ) → is_kept_for place id v.places.held ≡ true → 3 ≤ n → n ≡ 3 + id
  pub live : (id : ℕ) → n ≡ 3 + id → WasConfirmed v.seen.front id place → IsLiveIn place id (state_after v.seen.front)
  pub hand : (h : Hand) → v.commit.hand ≡ Some h → h.place ≡ place → (2 < h.phase → n ≡ h.phase) × (h.phase ≤ 2 → n ≤ 2)
  pub linked : (b : ℕ) (passed : List ChainLink) (e : ChainLink) (rest : List ChainLink) (id : ℕ) → b < v.passes.sizes.buckets → IsShutAt b v passed (e ∷ rest)
      → v.commit.middle ≡ Calm → e.id ≡ Some id → place_of e.link ≡ place → n ≡ 3 + id

-- the pass has stored it: a place that is FREE may be given to the free list, and links of one that is OWNED put in chains
abbrev pub phase_stored : ℕ → ℕ → View → View
phase_stored place to v = noted (stored (phase_word v.passes.sizes place) to) (record v {
  places = record v.places {
    clear = (if to == phase_free then place ∷ v.places.clear else v.places.clear);
    owned = (if to == phase_owned then place ∷ v.places.owned else v.places.owned);
  };
})

-- the word of the step is the phase of this place
abbrev pub IsPhaseWord : Step Slot → View → ℕ → Type 0
IsPhaseWord step v place = step.word ≡ phase_word v.passes.sizes place

abbrev pub LoadPhaseStep : Step Slot → Me Slot View → ℕ → Me Slot View → Type 0
LoadPhaseStep step me n me' = (p : ℕ) → IsPhaseWord step me.0 p → LoadsPhase p me.0 n me'.0 × (me'.1 ≡ me.1)

abbrev pub StorePhaseStep : Step Slot → Me Slot View → ℕ → Me Slot View → Type 0
StorePhaseStep step me n me' = (p : ℕ) → IsPhaseWord step me.0 p → (me'.0 ≡ phase_stored p n me.0) × (me'.1 ≡ me.1)
