-- A tuple is looked for once, without a lock. Where a link with it was met, its place is held and tested.
use Rattle.std.specs.Prelude.{◌⊎◌, ◌≡◌, ℕ, ◌+◌, ◌%◌, ◌<◌, ◌≤◌, ◌==◌, ◌&&◌, ◌||◌, not, nat_le, nat_lt, Bool, true, false, if◌then◌else◌, Option, Some, None, List, [], ◌∷◌, ◌++◌, length}
use Rattle.std.specs.List.{list_all, list_any}
use Rattle.tuple_core.specs.Words.{address_word, flow_word}
use Rattle.tuple_core.specs.declared.Direction.{Direction}
use Rattle.tuple_core.specs.declared.Direction.TheVariants.{Original, Reply}
use Rattle.tuple_core.specs.declared.Tuple.{Tuple}
use Rattle.history_book.specs.Desk.{IsLiveIn}
use Rattle.history_book.specs.declared.record.Record.{Record}
use Rattle.history_book.specs.declared.sizes.Sizes.{Sizes}
use Rattle.track_rule.specs.ChangesOnly.{changes_only, has_change, is_last_given, is_refs_of, is_some_refs, no_word}
use Rattle.track_rule.specs.Chains.{pair_of, shuts_of}
use Rattle.track_rule.specs.Free.{is_among}
use Rattle.track_rule.specs.History.{state_after}
use Rattle.track_rule.specs.KeptWords.{is_kept_for, link_of}
use Rattle.track_rule.specs.Layout.{gen_word, place_of, refs_word}
use Rattle.track_rule.specs.Links.{is_up}
use Rattle.track_rule.specs.PhaseSteps.{holds_open}
use Rattle.track_rule.specs.Readings.{Gave, IsSole, added, found, last_read}
use Rattle.track_rule.specs.References.{WasConfirmed, held_times, is_for_new, is_held, is_taken}
use Rattle.track_rule.specs.Sights.{PassSight, sizes_of}
use Rattle.track_rule.specs.Steps.{AreAll, keep}
use Rattle.track_rule.specs.Sums.{times}
use Rattle.track_rule.specs.declared.view.Hook.{Hook}
use Rattle.track_rule.specs.declared.view.Keep.{Keep}
use Rattle.track_rule.specs.declared.view.Pair.{Pair}
use Rattle.track_rule.specs.declared.view.Purpose.{Purpose}
use Rattle.track_rule.specs.declared.view.Purpose.TheVariants.{For}
use Rattle.track_rule.specs.declared.view.Reading.{Reading}
use Rattle.bucket_table.specs.Following.{HasMet, HasPassed, HasSeen, IsEnd, WalksOn, WasShut, bucket_in}
use Rattle.bucket_table.specs.GoesOn.{ReadingsStand}
use Rattle.bucket_table.specs.declared.finding.FindOnce.{FindOnce}
use Rattle.bucket_table.specs.declared.finding.FindOnce.TheVariants.{Found, Absent, Moved}
use Rattle.bucket_table.specs.declared.finding.Shown.{Shown}
use Rattle.bucket_table.specs.declared.finding.Tested.{Tested}
use Rattle.bucket_table.specs.declared.lookup.Goal.{Goal}

-- a tuple has these two words
abbrev pub is_pair : ℕ → ℕ → Pair → Bool
is_pair first second p = p.first == first && p.second == second

-- the direction in which a record has the two words, the original one first
abbrev pub direction_by : ℕ → ℕ → Record → Option Direction
direction_by first second r =
    (if is_pair first second (pair_of r.original) then Some Original else (if is_pair first second (pair_of r.reply) then Some Reply else None))

-- WHAT THE CALL NEEDS, AND WHAT IT ANSWERS

-- a link of the place is among these
abbrev pub has_hook : ℕ → List Hook → Bool
has_hook place hooks = list_any (λ (h : Hook). place_of h.link == place) hooks

-- There is room for one place more. The pass has no turn of a record, carries no reference and has no link in a chain. It looks what
-- stands at no place; it has links of places alone that it holds, and owns those alone that it has taken.
pub record CanTest (v : PassSight) : Type 0 where
  pub few : length v.view.places.held + length v.view.places.owed ≤ 3
  pub hand : v.view.commit.hand ≡ None
  pub carried : v.view.places.carried ≡ []
  pub down : (place : ℕ) → is_up place v.view.buckets.hooks ≡ false
  pub closed : holds_open v.view.places.held ≡ false
  pub hooks : (place : ℕ) → has_hook place v.view.buckets.hooks ≡ true → is_held place v.view.places.held ≡ true
  pub owned : (place : ℕ) → is_among place v.view.places.owned ≡ true → is_taken place v.view.places.held ≡ true

-- The pass holds the place for the entry of this id. It has seen all events up to this point, and after them the entry was live
-- there, with the tuple in this direction, the original one where it has both. Before the call it did not owe the place, had not taken
-- it, and held it for no other id. It changed no word itself but the references of the place. All else is as it was, but the note of a walk and the readings.
pub record FindsEntry (t : Tuple) (place id : ℕ) (direction : Direction) (at : ℕ) (v w : PassSight) : Type 0 where
  pub same : w ≡ record v {
    view = record v.view {
      seen = record v.view.seen { front = w.view.seen.front };
      places = record v.view.places { held = keep place (For id) ∷ v.view.places.held };
      walk = w.view.walk;
      readings = w.view.readings;
    };
  }
  pub stand : ReadingsStand v w
  pub own : changes_only (is_refs_of place (sizes_of v)) (added v.view w.view) ≡ true
  pub below : place < (sizes_of v).entries
  pub owed : times place v.view.places.owed ≡ 0
  pub untaken : is_taken place v.view.places.held ≡ false
  pub agreed : (other : ℕ) → is_kept_for place other v.view.places.held ≡ true → other ≡ id
  pub all : AreAll v.view w.view.seen.front
  pub point : at ≡ length w.view.seen.front
  pub was : WasConfirmed w.view.seen.front id place
  pub live : IsLiveIn place id (state_after w.view.seen.front)
  pub directed : direction_by (address_word t) (flow_word t) was.subject ≡ Some direction

-- a place more is owed, or none
abbrev pub owed_more : Option ℕ → List ℕ → List ℕ
owed_more None owed = owed
owed_more (Some place) owed = place ∷ owed

-- it is one of the pool, and was neither owed nor held before
abbrev pub IsNewlyOwed : Option ℕ → ℕ → List ℕ → List Keep → Type 0
IsNewlyOwed None entries owed held = Unit {0}
IsNewlyOwed (Some place) entries owed held = (place < entries) × (times place owed ≡ 0) × (held_times place held ≡ 0)

-- it is the one that was tested
abbrev pub IsTested : Option ℕ → ℕ → Type 0
IsTested None tested = Unit {0}
IsTested (Some place) tested = place ≡ tested

-- where a place is owed now, some references became 0 by the pass
abbrev pub IsLastGiven : Option ℕ → Sizes → List Reading → Type 0
IsLastGiven None z readings = Unit {0}
IsLastGiven (Some place) z readings = has_change is_last_given z readings ≡ true

-- The generation of the tuple's bucket was odd, though this pass has not shut it, or gave these two different values.
pub record IsBucketMoved (t : Tuple) (word was now : ℕ) (v w : PassSight) : Type 0 where
  pub word_is : word ≡ gen_word (sizes_of v) (bucket_in (sizes_of v) t)
  pub mine : shuts_of (bucket_in (sizes_of v) t) v.view ≡ 0
  pub cause : WasShut word was now (added v.view w.view) ⊎ Gave word was now (added v.view w.view)

-- The references of a place gave these two.
pub record AreRefsMoved (word was now : ℕ) (v w : PassSight) : Type 0 where
  pub place : ℕ
  pub below : place < (sizes_of v).entries
  pub word_is : word ≡ refs_word (sizes_of v) place
  pub gave : Gave word was now (added v.view w.view)

-- Another pass changed a word meanwhile, or had shut the bucket. So the table is not one of a single pass. The pass holds what it held;
-- where it gave up the last reference to a place, it owes it now. It changed no word itself but the references of one place. All else
-- is as it was, but the note of a walk and the readings.
pub record HasMoved (t : Tuple) (word was now : ℕ) (owed : Option ℕ) (v w : PassSight) : Type 0 where
  pub same : w ≡ record v {
    view = record v.view {
      seen = record v.view.seen { front = w.view.seen.front };
      places = record v.view.places { owed = owed_more owed v.view.places.owed };
      walk = w.view.walk;
      readings = w.view.readings;
    };
  }
  pub seen : HasSeen v w
  pub stand : ReadingsStand v w
  pub tested : ℕ
  pub own : changes_only (is_refs_of tested (sizes_of v)) (added v.view w.view) ≡ true
  pub which : IsTested owed tested
  pub owes : IsNewlyOwed owed (sizes_of v).entries v.view.places.owed v.view.places.held
  pub last : IsLastGiven owed (sizes_of v) (added v.view w.view)
  pub cause : IsBucketMoved t word was now v w ⊎ AreRefsMoved word was now v w
  pub many : 1 < (sizes_of v).passes

abbrev pub FindOnceSays : FindOnce → Tuple → PassSight → PassSight → Type 0
FindOnceSays (Found place id direction at) t v w = FindsEntry t place id direction at v w
FindOnceSays (Absent at) t v w = IsEnd t at v w
FindOnceSays (Moved word was now owed) t v w = HasMoved t word was now owed v w

-- It may have changed the references of the place that the pass holds now, or owes; none, where nothing was live under the tuple; and those
-- of some place, where another pass moved what was looked at and no place is owed.
abbrev pub moved_words : Option ℕ → Sizes → Reading → Bool
moved_words None = is_some_refs
moved_words (Some place) = is_refs_of place

abbrev pub once_words : FindOnce → Sizes → Reading → Bool
once_words (Found place id direction at) = is_refs_of place
once_words (Absent at) = no_word
once_words (Moved word was now owed) = moved_words owed

-- ON THE WAY

-- a reading of no generation, and no own change but one of the references of the place
abbrev pub is_of_test : Sizes → ℕ → Reading → Bool
is_of_test z place r = not (nat_le 3 r.word && nat_lt r.word (3 + z.buckets)) && (not r.own || is_refs_of place z r)

-- The pass tests what stands at the place: it has such readings, it may have seen more events, and hold or owe other places.
pub record Tests (place : ℕ) (v w : PassSight) : Type 0 where
  pub more : List Reading
  pub same : w ≡ record v {
    view = record v.view {
      seen = record v.view.seen { front = w.view.seen.front };
      places = record v.view.places { held = w.view.places.held; owed = w.view.places.owed };
      walk = w.view.walk;
      readings = v.view.readings ++ more;
    };
  }
  pub seen : HasSeen v w
  pub quiet : list_all (is_of_test (sizes_of v) place) more ≡ true

-- the references behind the newest one
abbrev pub others_of : List Keep → List Keep
others_of [] = []
others_of (k ∷ ks) = ks

-- The newest reference is to the place, for this. The pass looks what stands at no other place.
pub record IsTesting (place : ℕ) (why : Purpose) (v : PassSight) : Type 0 where
  pub held : v.view.places.held ≡ keep place why ∷ others_of v.view.places.held
  pub closed : holds_open (others_of v.view.places.held) ≡ false

-- The newest reference is still to the place, and for no new entry. What the pass holds and owes besides is as it was.
pub record IsStillHeld (place : ℕ) (v w : PassSight) : Type 0 where
  pub why : Purpose
  pub not_new : is_for_new why ≡ false
  pub held : w.view.places.held ≡ keep place why ∷ others_of v.view.places.held
  pub owed : w.view.places.owed ≡ v.view.places.owed

-- The entry of this id is live at the place after all events up to this point, and the place is held for it. What the pass holds
-- besides has not taken the place, nor is for another id there.
pub record ShowsLive (place id at : ℕ) (v w : PassSight) : Type 0 where
  pub tests : Tests place v w
  pub held : w.view.places.held ≡ keep place (For id) ∷ others_of v.view.places.held
  pub owed : w.view.places.owed ≡ v.view.places.owed
  pub all : AreAll v.view w.view.seen.front
  pub point : at ≡ length w.view.seen.front
  pub was : WasConfirmed w.view.seen.front id place
  pub live : IsLiveIn place id (state_after w.view.seen.front)
  pub untaken : is_taken place (others_of v.view.places.held) ≡ false
  pub agreed : (other : ℕ) → is_kept_for place other (others_of v.view.places.held) ≡ true → other ≡ id
  pub stays : (g : Goal) (link : ℕ) → HasMet g link v.view → HasMet g link w.view

-- No entry was live there all the time: the generation has passed, where a link of the place was met.
pub record ShowsNone (place : ℕ) (v w : PassSight) : Type 0 where
  pub tests : Tests place v w
  pub still : IsStillHeld place v w
  pub lost : (g : Goal) (link : ℕ) → place_of link ≡ place → HasMet g link v.view → HasPassed g w.view

abbrev pub ShowsSays : Option Shown → ℕ → PassSight → PassSight → Type 0
ShowsSays (Some shown) place v w = ShowsLive place shown.id shown.at v w
ShowsSays None place v w = ShowsNone place v w

-- the entry of an id for which the pass holds the place has the tuple in this direction
pub record IsDirected (g : Goal) (place : ℕ) (direction : Direction) (v w : PassSight) : Type 0 where
  pub walks : WalksOn v w
  pub directed : (id : ℕ) → is_kept_for place id v.view.places.held ≡ true → (was : WasConfirmed v.view.seen.front id place)
      → direction_by g.first g.second was.subject ≡ Some direction

-- it has another one there: the generation has passed, where the link was met with the tuple
pub record IsElse (g : Goal) (link : ℕ) (v w : PassSight) : Type 0 where
  pub walks : WalksOn v w
  pub lost : HasMet g link v.view → HasPassed g w.view

abbrev pub DirectionSays : Option Direction → Goal → ℕ → Direction → PassSight → PassSight → Type 0
DirectionSays (Some direction) g place met v w = IsDirected g place direction v w
DirectionSays None g place met v w = IsElse g (link_of met place) v w

-- What is held behind the newest reference is this. The entry of the id is live at the place, after all events up to this point, with
-- the tuple in this direction.
pub record HasEntry (g : Goal) (place id : ℕ) (direction : Direction) (at : ℕ) (others : List Keep) (v w : PassSight) : Type 0 where
  pub tests : Tests place v w
  pub held : w.view.places.held ≡ keep place (For id) ∷ others
  pub owed : w.view.places.owed ≡ v.view.places.owed
  pub all : AreAll v.view w.view.seen.front
  pub point : at ≡ length w.view.seen.front
  pub was : WasConfirmed w.view.seen.front id place
  pub live : IsLiveIn place id (state_after w.view.seen.front)
  pub untaken : is_taken place others ≡ false
  pub agreed : (other : ℕ) → is_kept_for place other others ≡ true → other ≡ id
  pub directed : direction_by g.first g.second was.subject ≡ Some direction

-- No such entry was: the generation has passed, where this link was met with the tuple.
pub record LosesEntry (g : Goal) (link place : ℕ) (v w : PassSight) : Type 0 where
  pub tests : Tests place v w
  pub still : IsStillHeld place v w
  pub lost : place_of link ≡ place → HasMet g link v.view → HasPassed g w.view

abbrev pub EntrySays : Option Tested → Goal → ℕ → Direction → PassSight → PassSight → Type 0
EntrySays (Some e) g place met v w = HasEntry g place e.id e.direction e.at (others_of v.view.places.held) v w
EntrySays None g place met v w = LosesEntry g (link_of met place) place v w

-- The newest reference is to the place, and for no new entry. The pass carries no reference and has no link in a chain. Behind that
-- reference it holds each place of which it has a link, and has taken each that it owns.
pub record CanDropReference (place : ℕ) (v : PassSight) : Type 0 where
  pub why : Purpose
  pub not_new : is_for_new why ≡ false
  pub held : v.view.places.held ≡ keep place why ∷ others_of v.view.places.held
  pub below : place < (sizes_of v).entries
  pub carried : v.view.places.carried ≡ []
  pub down : (p : ℕ) → is_up p v.view.buckets.hooks ≡ false
  pub hooks : (p : ℕ) → has_hook p v.view.buckets.hooks ≡ true → is_held p (others_of v.view.places.held) ≡ true
  pub owned : (p : ℕ) → is_among p v.view.places.owned ≡ true → is_taken p (others_of v.view.places.held) ≡ true

-- The reference was given up, and the place is owed where it was the last of all.
pub record DropsReference (owed : Option ℕ) (place : ℕ) (v w : PassSight) : Type 0 where
  pub tests : Tests place v w
  pub held : w.view.places.held ≡ others_of v.view.places.held
  pub owed_is : w.view.places.owed ≡ owed_more owed v.view.places.owed
  pub which : IsTested owed place
  pub owes : IsNewlyOwed owed (sizes_of v).entries v.view.places.owed (others_of v.view.places.held)
  pub last : IsLastGiven owed (sizes_of v) tests.more
  pub walk : w.view.walk ≡ v.view.walk

-- The generation was loaded again. Where it had passed it is another one; in a table of one pass it is that which the pass read last.
pub record ReadsAgain (g : Goal) (word was now : ℕ) (v w : PassSight) : Type 0 where
  pub word_is : word ≡ gen_word (sizes_of v) g.bucket
  pub was_is : was ≡ g.generation
  pub same : w ≡ record v { view = record v.view { walk = w.view.walk; readings = v.view.readings ++ found (gen_word (sizes_of v) g.bucket) now ∷ [] } }
  pub other : g.generation % 2 ≡ 0 → HasPassed g v.view → (g.generation == now) ≡ false
  pub sole : IsSole v.view → now ≡ last_read (gen_word (sizes_of v) g.bucket) v.view

-- what is answered where something moved: the word, its two values, and the place that is owed then
pub record Movement : Type 0 where
  pub word : ℕ
  pub was : ℕ
  pub now : ℕ
  pub owed : Option ℕ

abbrev pub movement : ℕ → ℕ → ℕ → Option ℕ → Movement
movement word was now owed = record { word = word; was = was; now = now; owed = owed }

-- No entry was found: the pass holds what is behind the newest reference, and the generation was loaded again.
pub record TestMoved (g : Goal) (link place : ℕ) (m : Movement) (others : List Keep) (v w : PassSight) : Type 0 where
  pub between : PassSight
  pub tests : Tests place v between
  pub held : between.view.places.held ≡ others
  pub owed_is : between.view.places.owed ≡ owed_more m.owed v.view.places.owed
  pub which : IsTested m.owed place
  pub owes : IsNewlyOwed m.owed (sizes_of v).entries v.view.places.owed others
  pub last : IsLastGiven m.owed (sizes_of v) tests.more
  pub lost : place_of link ≡ place → HasMet g link v.view → HasPassed g between.view
  pub reads : ReadsAgain g m.word m.was m.now between w

abbrev pub TestSays : FindOnce → Goal → ℕ → Direction → PassSight → PassSight → Type 0
TestSays (Found p id direction at) g place met v w = (p ≡ place) × HasEntry g place id direction at (others_of v.view.places.held) v w
TestSays (Absent at) g place met v w = ⊥
TestSays (Moved word was now owed) g place met v w = TestMoved g (link_of met place) place (movement word was now owed) (others_of v.view.places.held) v w

-- The references gave two values as the place was to be held. So the table is not one of a single pass.
pub record HoldMoved (place word was now : ℕ) (owed : Option ℕ) (v w : PassSight) : Type 0 where
  pub tests : Tests place v w
  pub held : w.view.places.held ≡ v.view.places.held
  pub owed_is : w.view.places.owed ≡ v.view.places.owed
  pub none : owed ≡ None
  pub word_is : word ≡ refs_word (sizes_of v) place
  pub gave : Gave word was now (added v.view w.view)
  pub many : IsSole v.view → ⊥

abbrev pub MeetSays : FindOnce → Goal → ℕ → Direction → PassSight → PassSight → Type 0
MeetSays (Found p id direction at) g place met v w =
    (p ≡ place) × (times place v.view.places.owed ≡ 0) × HasEntry g place id direction at v.view.places.held v w
MeetSays (Absent at) g place met v w = ⊥
MeetSays (Moved word was now owed) g place met v w =
    TestMoved g (link_of met place) place (movement word was now owed) v.view.places.held v w ⊎ HoldMoved place word was now owed v w

abbrev pub AgainSays : FindOnce → Goal → Option ℕ → PassSight → PassSight → Type 0
AgainSays (Found p id direction at) g owed v w = ⊥
AgainSays (Absent at) g owed v w = ⊥
AgainSays (Moved word was now o) g owed v w = (o ≡ owed) × ReadsAgain g word was now v w
