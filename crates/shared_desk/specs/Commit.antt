-- A flow becomes an entry: what a pass needs for it, and what it knows then.
use Rattle.std.specs.Prelude.{◌≡◌, ℕ, ◌+◌, ◌<◌, ◌^◌, Bool, true, false, Some, None, List, [], ◌∷◌, ◌++◌, length, map}
use Rattle.std.specs.List.{list_any}
use Rattle.history_book.specs.Entry.{is_lawful_flow, record_for}
use Rattle.history_book.specs.History.{is_legal}
use Rattle.history_book.specs.declared.event.Event.{Event}
use Rattle.history_book.specs.declared.event.Event.TheVariants.{Confirm}
use Rattle.history_book.specs.declared.record.Flow.{Flow}
use Rattle.tuple_core.specs.Words.{address_word, flow_word}
use Rattle.tuple_core.specs.declared.Tuple.{Tuple}
use Rattle.track_rule.specs.Chains.{chain_in, pair_of}
use Rattle.track_rule.specs.CommitSteps.{dropped, held_for}
use Rattle.track_rule.specs.Free.{is_among, unlisted}
use Rattle.track_rule.specs.Links.{hooks_of}
use Rattle.track_rule.specs.Records.{has_hand, slot_of_record}
use Rattle.track_rule.specs.References.{is_taken}
use Rattle.track_rule.specs.Layout.{record_slot}
use Rattle.track_rule.specs.Sights.{PassSight, sizes_of}
use Rattle.track_rule.specs.Steps.{AreAll}
use Rattle.track_rule.specs.declared.view.Hand.{Hand}
use Rattle.track_rule.specs.declared.view.Hook.{Hook}
use Rattle.track_rule.specs.declared.view.Middle.TheVariants.{Calm}
use Rattle.track_rule.specs.declared.view.Places.{Places}
use Rattle.track_rule.specs.declared.view.Seen.{Seen}
use Rattle.track_rule.specs.declared.view.Shut.{Shut}
use Rattle.track_rule.specs.declared.view.View.{View}
use Rattle.bucket_table.specs.Following.{bucket_in}
use Rattle.bucket_table.specs.LockedChain.{found_in, original_link, reply_link}
use Rattle.bucket_table.specs.Locks.{AreShut, Buckets, buckets_of}
use Rattle.shared_desk.specs.Tuples.{pair_at}

-- The pass has the turn of the place's record, with the record that is there, or none, out of its slot. All else is as it was, but
-- the readings.
pub record HasRecordTurn (place : ℕ) (v w : PassSight) : Type 0 where
  pub hand : Hand
  pub its_place : hand.place ≡ place
  pub same : w ≡ record v {
    view = record v.view { commit = record v.view.commit { hand = Some hand }; readings = w.view.readings };
    slots = (record_slot place, slot_of_record hand.subject) ∷ v.slots;
  }

-- The pass carries the table's reference to the place. All else is as it was, but the readings.
pub record AddsReference (place : ℕ) (v w : PassSight) : Type 0 where
  pub same : w ≡ record v {
    view = record v.view { places = record v.view.places { carried = place ∷ v.view.places.carried }; readings = w.view.readings };
  }

-- a hook is in a chain
abbrev pub is_any_up : List Hook → Bool
is_any_up hooks = list_any (λ (h : Hook). h.up) hooks

-- no link in a chain has the tuple
abbrev pub IsAbsentFrom : Tuple → ℕ → View → Type 0
IsAbsentFrom t bucket v = found_in (address_word t) (flow_word t) (chain_in bucket v.buckets.shut) ≡ None

-- The pass has taken the place, owns it, and has the turn of its record, and is in the middle of no commit. It has one hook at either
-- link of the place, with the flow's tuples, and none is in a chain. It has locked both their buckets, and neither tuple is there.
pub record CanCommit (place : ℕ) (flow : Flow) (locked : Buckets) (v : PassSight) : Type 0 where
  pub below : place < (sizes_of v).entries
  pub taken : is_taken place v.view.places.held ≡ true
  pub owned : is_among place v.view.places.owned ≡ true
  pub turn : has_hand place v.view ≡ 1
  pub calm : v.view.commit.middle ≡ Calm
  pub carried : v.view.places.carried ≡ []
  pub few : length v.view.seen.own < 2 ^ 30
  pub protocol : is_lawful_flow flow ≡ true
  pub original : hooks_of (original_link place) v.view.buckets.hooks ≡ 1
  pub reply : hooks_of (reply_link place) v.view.buckets.hooks ≡ 1
  pub down : is_any_up v.view.buckets.hooks ≡ false
  pub original_pair : pair_at (original_link place) v.view.buckets.hooks ≡ pair_of flow.original
  pub reply_pair : pair_at (reply_link place) v.view.buckets.hooks ≡ pair_of flow.reply
  pub locked_are : locked ≡ buckets_of (bucket_in (sizes_of v) flow.original) (bucket_in (sizes_of v) flow.reply)
  pub shut : AreShut locked v.view
  pub original_absent : IsAbsentFrom flow.original (bucket_in (sizes_of v) flow.original) v.view
  pub reply_absent : IsAbsentFrom flow.reply (bucket_in (sizes_of v) flow.reply) v.view

-- the buckets that a pass has shut
abbrev pub shut_buckets : List Shut → List ℕ
shut_buckets shut = map (λ (s : Shut). s.bucket) shut

-- the Confirm of the flow's record
abbrev pub confirm_of : Flow → ℕ → ℕ → Event
confirm_of flow id place = Confirm (record_for flow id place)

-- the pass has seen these events and then this one, its own, of this number
abbrev pub seen_with : List Event → ℕ → Event → Seen → Seen
seen_with log number e s = record s { front = log ++ e ∷ []; own = s.own ++ record { number = number; event = e } ∷ [] }

-- the place that was taken is held for the entry of this id, and owned no longer
abbrev pub entered : ℕ → ℕ → Places → Places
entered place id s = record s { held = held_for place id s.held; owned = unlisted (place ∷ []) s.owned }

-- The flow is an entry, by the Confirm of this number, which was lawful after all events before it. The place is held for it, and
-- LIVE; its hooks are gone. The pass knows the record under its turn, and has the same buckets shut.
pub record Commits (place : ℕ) (flow : Flow) (id : ℕ) (v w : PassSight) : Type 0 where
  pub log : List Event
  pub all : AreAll v.view log
  pub number : id ≡ length log
  pub legal : is_legal (sizes_of v) (log ++ confirm_of flow id place ∷ []) ≡ true
  pub same : w ≡ record v {
    view = record v.view {
      seen = seen_with log id (confirm_of flow id place) v.view.seen;
      places = entered place id v.view.places;
      buckets = w.view.buckets;
      commit = record { hand = Some (record { place = place; phase = 3 + id; subject = Some (record_for flow id place) }); middle = Calm };
      walk = None;
      readings = w.view.readings;
    };
  }
  pub hooks : w.view.buckets.hooks ≡ dropped (reply_link place) (dropped (original_link place) v.view.buckets.hooks)
  pub buckets : shut_buckets w.view.buckets.shut ≡ shut_buckets v.view.buckets.shut
