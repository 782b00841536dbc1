-- What the steps of a pass tell it: v is what it knew before, w what it knows after, n what the step found.
use Rattle.std.specs.Prelude.{◌≡◌, ℕ, ◌+◌, ◌-◌, ◌*◌, ◌<◌, ◌≤◌, ◌==◌, ◌&&◌, ◌^◌, Bool, true, false, min, not, if◌then◌else◌, MatchBool, Option, Some, None, List, ◌∷◌, filter, length, []}
use Rattle.atomic_table.specs.Table.{Me, Step, rest}
use Rattle.expect_table.specs.declared.expectation.Expectation.{Expectation}
use Rattle.room_list.specs.Roomed.{Roomed}
use Rattle.history_book.specs.History.{is_legal}
use Rattle.history_book.specs.Point.{StartsWith}
use Rattle.history_book.specs.Sight.{notes_from}
use Rattle.history_book.specs.State.{record_of}
use Rattle.history_book.specs.declared.event.Event.{Event}
use Rattle.history_book.specs.declared.event.Note.{Note}
use Rattle.track_rule.specs.declared.slot.Slot.{Slot}
use Rattle.track_rule.specs.declared.slot.Slot.TheVariants.{Free}
use Rattle.track_rule.specs.declared.view.ChainLink.{ChainLink}
use Rattle.track_rule.specs.declared.view.Hand.{Hand}
use Rattle.track_rule.specs.declared.view.Hook.{Hook}
use Rattle.track_rule.specs.declared.view.Keep.{Keep}
use Rattle.track_rule.specs.declared.view.Middle.TheVariants.{Calm}
use Rattle.track_rule.specs.declared.view.Places.{Places}
use Rattle.track_rule.specs.declared.view.Purpose.{Purpose}
use Rattle.track_rule.specs.declared.view.Purpose.TheVariants.{Taken, Testing}
use Rattle.track_rule.specs.declared.view.Reading.{Reading}
use Rattle.track_rule.specs.declared.view.View.{View}
use Rattle.track_rule.specs.declared.view.Walk.{Walk}
use Rattle.track_rule.specs.Chains.{chain_in, links_in, loose_of, shuts_of}
use Rattle.track_rule.specs.Free.{is_among, known_free, taken_out, unlisted}
use Rattle.track_rule.specs.History.{events_in, live_in, records_after, state_after}
use Rattle.track_rule.specs.KeptWords.{is_kept_for}
use Rattle.track_rule.specs.Layout.{place_of, refs_word}
use Rattle.track_rule.specs.Notes.{note_where}
use Rattle.track_rule.specs.Passes.{AreFronts}
use Rattle.track_rule.specs.Readings.{IsSole, found, last_read, noted, stored}
use Rattle.track_rule.specs.Phases.{middle_of, of_place}
use Rattle.track_rule.specs.Records.{has_hand}
use Rattle.track_rule.specs.References.{WasConfirmed, held_times, is_taken, keeps, without}
use Rattle.track_rule.specs.Slots.{list_in}
use Rattle.track_rule.specs.Sums.{times, total}

-- a pass keeps a reference to the place
abbrev pub keep : ℕ → Purpose → Keep
keep place purpose = record { place = place; purpose = purpose }

-- THE HISTORY WORD

-- These are all events so far; they are no fewer than the pass had seen, or was told of. The pass has room for its own
-- events among those that the word can count. There are at most 64 passes, and the pass has no more shares than these.
pub record AreAll (v : View) (log : List Event) : Type 0 where
  pub front : StartsWith log v.seen.front
  pub told : AreFronts log v.seen.told
  pub legal : is_legal v.passes.sizes log ≡ true
  pub few : length log + (2 ^ 30 - length v.seen.own) ≤ 2 ^ 30 * v.passes.sizes.passes
  pub passes : v.passes.sizes.passes ≤ 64
  pub shares : v.passes.shares + v.passes.returned ≤ v.passes.sizes.passes
  pub alone : v.passes.sizes.passes ≡ 1 → v.seen.own ≡ notes_from 0 log

-- some other pass has a share; so the table is not one of a single pass
abbrev pub HasOthers : View → Type 0
HasOthers v = (v.passes.shares + v.passes.returned < v.passes.sizes.passes) × (1 < v.passes.sizes.passes)

-- no other pass has one
abbrev pub IsAlone : View → Type 0
IsAlone v = v.passes.shares + v.passes.returned ≡ v.passes.sizes.passes

-- how long the free list is, if the pass knows it
abbrev pub length_of : Option (List ℕ) → Option ℕ
length_of None = None
length_of (Some list) = Some (length list)

-- a reading of the history word, which names the length of the free list under its turn
abbrev pub found_history : ℕ → View → Reading
found_history word v = record { word = 0; value = word; own = false; free = length_of v.free }

-- the note of a walk names this point
abbrev pub at_point : ℕ → Option Walk → Option Walk
at_point point None = None
at_point point (Some n) = Some (record n { at = Some point })

-- the pass has seen these events
abbrev pub saw : List Event → View → View
saw log v = record v { seen = record v.seen { front = log }; walk = at_point (length log) v.walk }

-- how many references the pass keeps, and how many places it owes
abbrev pub kept_places : View → ℕ
kept_places v = length v.places.held + length v.places.owed

-- how often it holds this one, and owes it
abbrev pub uses : ℕ → View → ℕ
uses place v = held_times place v.places.held + times place v.places.owed

-- What a pass knows of all events at a load, by what it has then.

-- Of a bucket that it has shut: its chain weighs what the live records weigh in it, and the pass's own links there.
abbrev pub KnowsChains : View → List Event → Type 0
KnowsChains v log =
    (b : ℕ) → b < v.passes.sizes.buckets → 0 < shuts_of b v → (weight : ChainLink → ℕ)
    → total weight (chain_in b v.buckets.shut) ≡ total (links_in v.passes.sizes b weight) (records_after log) + loose_of v.passes.sizes b weight v

-- Of the places that it holds: no live record has one that it has taken, and it has seen the Confirm of each id for which it
-- holds one.
pub record KnowsHeld (v : View) (log : List Event) : Type 0 where
  pub taken : (p : ℕ) → is_taken p v.places.held ≡ true → total (of_place p) (records_after log) ≡ 0
  pub shown : (place id : ℕ) → is_kept_for place id v.places.held ≡ true → WasConfirmed log id place

-- Under the turn of a place's record: it has the record of the id of which the place is LIVE. Unless it is in the middle of a
-- commit itself, an id for which it holds that place is live no more where the place is not LIVE of it, and no live record has
-- the place where it is LIVE of none.
pub record KnowsHand (v : View) (log : List Event) : Type 0 where
  pub subject : (h : Hand) → v.commit.hand ≡ Some h → 3 ≤ h.phase → h.subject ≡ record_of (h.phase - 3) (state_after log)
  pub gone : (h : Hand) (id : ℕ) → v.commit.hand ≡ Some h → v.commit.middle ≡ Calm → is_kept_for h.place id v.places.held ≡ true
      → (h.phase == 3 + id) ≡ false → record_of id (state_after log) ≡ None
  pub empty : (h : Hand) → v.commit.hand ≡ Some h → v.commit.middle ≡ Calm → h.phase < 3 → total (of_place h.place) (records_after log) ≡ 0

-- Under the turn of the free list it knows how full the table is: there are at most as many places as places on the list, live
-- records, references that it keeps, places that it owes, and four for each share of others; where no other pass has a share,
-- each place is on the list, or a live record's, or the pass holds or owes it.
pub record KnowsFree (v : View) (log : List Event) : Type 0 where
  pub full : (list : List ℕ) → v.free ≡ Some list
      → v.passes.sizes.entries ≤ length list + length (records_after log) + kept_places v
      + 4 * (v.passes.sizes.passes - (v.passes.shares + v.passes.returned))
  pub used : (list : List ℕ) → v.free ≡ Some list → IsAlone v → (p : ℕ) → p < v.passes.sizes.entries
      → 0 < times p list + uses p v + total (of_place p) (records_after log)

-- Under the turn of the expectations: it knows what is expected.
abbrev pub KnowsExpected : View → List Event → Type 0
KnowsExpected v log = (list : List Expectation) → v.expected ≡ Some list → list ≡ (state_after log).expects

-- A load: the pass has seen all events, the word is theirs, and it knows of them what it can. A pass that is the only one knew the
-- word.
pub record Looks (v : View) (word : ℕ) (w : View) : Type 0 where
  pub same : w ≡ noted (found_history word v) (saw w.seen.front v)
  pub all : AreAll v w.seen.front
  pub events : events_in word ≡ length w.seen.front
  pub live : live_in word ≡ length (records_after w.seen.front)
  pub sole : IsSole v → word ≡ last_read 0 v
  pub chains : KnowsChains v w.seen.front
  pub held : KnowsHeld v w.seen.front
  pub hand : KnowsHand v w.seen.front
  pub free : KnowsFree v w.seen.front
  pub expects : KnowsExpected v w.seen.front

-- THE FREE LIST

-- the pass has its turn, and knows it
abbrev pub with_turn : List ℕ → View → View
with_turn free v = noted (stored 1 1) (record v { free = Some free })

-- The turn was free, and the pass has it now, with the list out of its slot. There is room for all places. No place that
-- the pass holds or owes is on the list, which has only places below the entries; and what it owes is owed once. There is
-- room on the list for what it owes. In a table of one pass no live record has a place that is on the list, or owed.
pub record TookFree (v : View) (slots : List (ℕ × Slot)) (w : View) (slots' : List (ℕ × Slot)) : Type 0 where
  pub view : w ≡ with_turn (list_in slots').items v
  pub out : slots' ≡ (0, Free (list_in slots')) ∷ slots
  pub room : v.passes.sizes.entries ≤ (list_in slots').room
  pub fits : length (list_in slots').items + length v.places.owed ≤ v.passes.sizes.entries
  pub apart : (p : ℕ) → times p (list_in slots').items + times p v.places.owed + min (held_times p v.places.held) 1 ≤ 1
  pub below : (p : ℕ) → v.passes.sizes.entries ≤ p → times p (list_in slots').items + times p v.places.owed ≡ 0
  pub clear : (p : ℕ) → 0 < times p v.places.clear → 0 < times p v.places.owed
  pub sole : IsSole v → last_read 1 v ≡ 0
  pub unused : (log : List Event) → IsSole v → v.seen.own ≡ notes_from 0 log → (p : ℕ)
      → 0 < times p (list_in slots').items + times p v.places.owed → total (of_place p) (records_after log) ≡ 0

-- Another pass has it: so there is one, with a share.
pub record MissedFree (v : View) (slots : List (ℕ × Slot)) (w : View) (slots' : List (ℕ × Slot)) : Type 0 where
  pub view : w ≡ noted (found 1 1) v
  pub out : slots' ≡ slots
  pub others : HasOthers v

abbrev pub TakesFree : Bool → View → List (ℕ × Slot) → View → List (ℕ × Slot) → Type 0
TakesFree took v slots w slots' = MatchBool took (TookFree v slots w slots') (MissedFree v slots w slots')

-- What is owed and stands on this list is given up to it, where its phase was set to FREE. There is room for all places, and
-- no place is lost or put there twice: each that was on the list or owed still is.
pub record CanGive (v : View) (list : Roomed ℕ) : Type 0 where
  pub room : v.passes.sizes.entries ≤ list.room
  pub whole : (p : ℕ) → times p list.items + times p (unlisted list.items v.places.owed) ≡ times p (known_free v) + times p v.places.owed
  pub clear : (p : ℕ) → times p list.items ≤ times p (known_free v) + times p v.places.clear

-- the pass has given the list back
abbrev pub gave_free : List ℕ → View → View
gave_free list v = noted (stored 1 0) (record v {
  free = None;
  places = record v.places { owed = unlisted list v.places.owed; clear = unlisted list v.places.clear };
})

-- REFERENCES

-- the references of one place are few
abbrev pub most_keeps : ℕ
most_keeps = 2 ^ 16

-- Two hooks more, one for either link of the place; neither is in a chain.
pub record NewHooks (place : ℕ) (old new : List Hook) : Type 0 where
  pub original : Hook
  pub reply : Hook
  pub all : new ≡ original ∷ reply ∷ old
  pub links : (original.link ≡ 1 + 2 * place) × (reply.link ≡ 2 + 2 * place)
  pub down : (original.up ≡ false) × (reply.up ≡ false)

-- A first reference, which the pass stored in the word of a place of the free list. The reading names the length of the list, so it is
-- told from all other references.
abbrev pub first_ref : ℕ → View → Reading
first_ref place v = record { word = refs_word v.passes.sizes place; value = 1; own = true; free = Some (length (known_free v)) }

-- A place from the free list has a reference now, the pass's own, and the pass has these hooks.
abbrev pub opened : ℕ → List Hook → View → View
opened place hooks v = noted (first_ref place v) (record v {
  free = Some (taken_out place (known_free v));
  places = record v.places { held = keep place Taken ∷ v.places.held };
  buckets = record v.buckets { hooks = hooks };
})

-- So it did not hold the place, nor owe it.
pub record Opens (place : ℕ) (v w : View) : Type 0 where
  pub view : w ≡ opened place w.buckets.hooks v
  pub hooks : NewHooks place v.buckets.hooks w.buckets.hooks
  pub held : held_times place v.places.held ≡ 0
  pub owed : times place v.places.owed ≡ 0

-- All references to a place are those that the only pass keeps, and the table's one while an entry is live there. In the
-- middle of a commit the pass keeps that one itself. Each event is its own, or one that it gathered.
pub record AreOwn (place n : ℕ) (v : View) : Type 0 where
  pub log : List Event
  pub all : AreAll v log
  pub made : (weight : Note → ℕ) → total weight (notes_from 0 log) ≡ total weight v.seen.own + total weight v.seen.gathered
  pub exact : n + middle_of (of_place place) v ≡ keeps place v + total (of_place place) (records_after log)

-- There were so many references to the place. They are few, and at least those that the pass keeps itself.
pub record IsCount (place n : ℕ) (v : View) : Type 0 where
  pub few : n < most_keeps
  pub own : keeps place v ≤ n
  pub alone : IsAlone v → AreOwn place n v
  pub sole : IsSole v → n ≡ last_read (refs_word v.passes.sizes place) v

-- what a load of the references leaves, or an exchange that found others: a walk that met a link of the place has noted where
-- there were none
abbrev pub read_refs : ℕ → ℕ → View → View
read_refs place n v = noted (found (refs_word v.passes.sizes place) n) (record v { walk = note_where (n == 0) place v.walk })

-- A load of the references.
pub record LoadsRefs (place : ℕ) (v : View) (n : ℕ) (w : View) : Type 0 where
  pub view : w ≡ read_refs place n v
  pub count : IsCount place n v

-- A pass that has the turn of the record of a place that it took makes the second reference of a commit, once, which becomes
-- the table's.
abbrev pub is_second : ℕ → View → Bool
is_second place v = is_taken place v.places.held && has_hand place v == 1 && not (is_among place v.places.carried)

-- The further reference is the table's, which the pass carries, or one to look what stands there.
abbrev pub one_more : Bool → ℕ → Places → Places
one_more second place places = record places {
  held = (if second then places.held else keep place Testing ∷ places.held);
  carried = (if second then place ∷ places.carried else places.carried);
}

abbrev pub raised : Bool → ℕ → ℕ → View → View
raised second place seen v = noted (stored (refs_word v.passes.sizes place) (seen + 1)) (record v { places = one_more second place v.places })

-- One reference more where there were so many. A place with references is owed by nobody.
pub record RaisedRefs (place seen : ℕ) (v w : View) : Type 0 where
  pub view : w ≡ raised (is_second place v) place seen v
  pub count : IsCount place seen v
  pub owed : times place v.places.owed ≡ 0

-- There were others.
pub record MissedRefs (place seen : ℕ) (v : View) (n : ℕ) (w : View) : Type 0 where
  pub view : w ≡ read_refs place n v
  pub other : (n == seen) ≡ false
  pub count : IsCount place n v

abbrev pub RaisesRefs : Bool → ℕ → ℕ → View → ℕ → View → Type 0
RaisesRefs same place seen v n w = MatchBool same (RaisedRefs place seen v w) (MissedRefs place seen v n w)

-- A pass owes the place whose last reference it gave up.
abbrev pub owed_then : ℕ → ℕ → List ℕ → List ℕ
owed_then place n owed = (if n == 1 then place ∷ owed else owed)

-- It no longer owns the place where it gave up the reference with which it took it.
abbrev pub owned_then : ℕ → List Keep → List ℕ → List ℕ
owned_then place held owned = (if is_taken place (without place held) then owned else unlisted (place ∷ []) owned)

-- the hooks that are not of the place
abbrev pub hooks_else : ℕ → List Hook → List Hook
hooks_else place hooks = filter (λ (h : Hook). not (place_of h.link == place)) hooks

-- A pass that gave up its last reference to a place has no hooks of it; and one that let go of the table's has none of a place whose
-- entry it destroyed.
abbrev pub hooks_then : ℕ → List Keep → List Hook → List Hook
hooks_then place held hooks = (if held_times place held == 1 then hooks_else place hooks else hooks)

abbrev pub hooks_ended : ℕ → List ℕ → List Hook → List Hook
hooks_ended place ended hooks = (if is_among place ended then hooks_else place hooks else hooks)

-- The pass gave up the table's reference, which it carried, or one of its own, the newest one to the place.
abbrev pub let_go_of : Bool → ℕ → ℕ → View → View
let_go_of carries place n v = noted (stored (refs_word v.passes.sizes place) (n - 1)) (record v {
  places = record v.places {
    held = (if carries then v.places.held else without place v.places.held);
    owed = (if carries then v.places.owed else owed_then place n v.places.owed);
    owned = (if carries then v.places.owned else owned_then place v.places.held v.places.owned);
    carried = (if carries then taken_out place v.places.carried else v.places.carried);
    ended = (if carries then unlisted (place ∷ []) v.places.ended else v.places.ended);
  };
  buckets = record v.buckets { hooks = (if carries then hooks_ended place v.places.ended v.buckets.hooks else hooks_then place v.places.held v.buckets.hooks) };
})

abbrev pub let_go : ℕ → ℕ → View → View
let_go place n v = let_go_of (is_among place v.places.carried) place n v

-- One reference less, of so many. The last one was the only one that the pass kept.
pub record LowersRefs (place : ℕ) (v : View) (n : ℕ) (w : View) : Type 0 where
  pub view : w ≡ let_go place n v
  pub some : 0 < n
  pub count : IsCount place n v
  pub mine : 0 < held_times place v.places.held
  pub owed : times place v.places.owed ≡ 0

-- WHAT THE STEPS ARE ON THE TABLE

abbrev pub LookStep : Step Slot → Me Slot View → ℕ → Me Slot View → Type 0
LookStep step me n me' = Looks me.0 n me'.0 × (me'.1 ≡ me.1)

abbrev pub TakeStep : Step Slot → Me Slot View → ℕ → Me Slot View → Type 0
TakeStep step me n me' = TakesFree (n == 0) me.0 me.1 me'.0 me'.1

abbrev pub GiveStep : Step Slot → Me Slot View → ℕ → Me Slot View → Type 0
GiveStep step me n me' = (me'.0 ≡ gave_free (list_in me.1).items me.0) × (me'.1 ≡ rest me.1)

-- the word of the step is the references word of this place
abbrev pub IsRefsWord : Step Slot → View → ℕ → Type 0
IsRefsWord step v place = step.word ≡ refs_word v.passes.sizes place

abbrev pub OpenStep : Step Slot → Me Slot View → ℕ → Me Slot View → Type 0
OpenStep step me n me' = (p : ℕ) → IsRefsWord step me.0 p → Opens p me.0 me'.0 × (me'.1 ≡ me.1)

abbrev pub LoadStep : Step Slot → Me Slot View → ℕ → Me Slot View → Type 0
LoadStep step me n me' = (p : ℕ) → IsRefsWord step me.0 p → LoadsRefs p me.0 n me'.0 × (me'.1 ≡ me.1)

abbrev pub RaiseStep : Step Slot → Me Slot View → ℕ → Me Slot View → Type 0
RaiseStep step me n me' = (p : ℕ) → IsRefsWord step me.0 p → RaisesRefs (n == step.first) p step.first me.0 n me'.0 × (me'.1 ≡ me.1)

abbrev pub LowerStep : Step Slot → Me Slot View → ℕ → Me Slot View → Type 0
LowerStep step me n me' = (p : ℕ) → IsRefsWord step me.0 p → LowersRefs p me.0 n me'.0 × (me'.1 ≡ me.1)
