-- A chain is followed without a lock.
use Rattle.std.specs.Prelude.{◌⊎◌, ◌≡◌, ℕ, ◌+◌, ◌%◌, ◌<◌, ◌≤◌, ◌==◌, ◌&&◌, ◌||◌, not, Bool, true, false, nat_le, Option, Some, None, List, [], ◌∷◌, ◌++◌, length, zero, suc, if◌then◌else◌, slice_get}
use Rattle.std.specs.List.{list_any, list_all}
use Rattle.tuple_core.specs.Words.{address_word, flow_word}
use Rattle.tuple_core.specs.declared.Direction.{Direction}
use Rattle.tuple_core.specs.declared.Direction.TheVariants.{Original, Reply}
use Rattle.tuple_core.specs.declared.Tuple.{Tuple}
use Rattle.history_book.specs.Point.{StartsWith}
use Rattle.history_book.specs.declared.event.Event.TheVariants.{Confirm}
use Rattle.history_book.specs.declared.record.Record.{Record}
use Rattle.history_book.specs.declared.sizes.Sizes.{Sizes}
use Rattle.track_rule.specs.BucketSteps.{IsChainOf, IsNoteOf, WasChain}
use Rattle.track_rule.specs.Chains.{bucket_of, pair_of, shuts_of}
use Rattle.track_rule.specs.History.{events_in}
use Rattle.track_rule.specs.KeptWords.{is_kept_for, link_of, pair_in}
use Rattle.track_rule.specs.Layout.{gen_word, place_of, side_of}
use Rattle.track_rule.specs.Links.{last_link}
use Rattle.track_rule.specs.Notes.{is_other, just_met}
use Rattle.track_rule.specs.Readings.{Gave, IsSole, added, changes, found, is_found, of_word, read_from}
use Rattle.track_rule.specs.Sights.{PassSight, looked_on, sizes_of}
use Rattle.track_rule.specs.Steps.{AreAll}
use Rattle.track_rule.specs.Walks.{HasLive, Stands}
use Rattle.track_rule.specs.declared.view.ChainLink.{ChainLink}
use Rattle.track_rule.specs.declared.view.MetLink.{MetLink}
use Rattle.track_rule.specs.declared.view.Pair.{Pair}
use Rattle.track_rule.specs.declared.view.Reading.{Reading}
use Rattle.track_rule.specs.declared.view.View.{View}
use Rattle.track_rule.specs.declared.view.Walk.{Walk}
use Rattle.bucket_table.specs.GoesOn.{ReadingsStand}
use Rattle.bucket_table.specs.declared.lookup.Followed.{Followed}
use Rattle.bucket_table.specs.declared.lookup.Followed.TheVariants.{Link, End, Moved}
use Rattle.bucket_table.specs.declared.lookup.Goal.{Goal}

-- the bucket of a tuple
abbrev pub bucket_in : Sizes → Tuple → ℕ
bucket_in z t = bucket_of z (pair_of t)

-- the direction of a link
abbrev pub direction_at_side : ℕ → Direction
direction_at_side zero = Original
direction_at_side (suc n) = Reply

abbrev pub direction_of : ℕ → Direction
direction_of link = direction_at_side (side_of link)

-- a link was met that has another tuple than these two words
abbrev pub is_another : ℕ → ℕ → MetLink → Bool
is_another first second m = is_other m.first first || is_other m.second second

-- a link was met that has this tuple
abbrev pub met_with : ℕ → ℕ → ℕ → MetLink
met_with link first second = record { link = link; first = Some first; second = Some second }

-- a walk along the chain of this bucket at this generation, which met these links, the newest first; and one that met the end
abbrev pub walk_to : ℕ → ℕ → List MetLink → Walk
walk_to bucket generation met = record { bucket = bucket; generation = generation; met = met; ended = false; at = None; passed = false }

abbrev pub walk_through : ℕ → ℕ → List MetLink → Walk
walk_through bucket generation met = record { bucket = bucket; generation = generation; met = met; ended = true; at = None; passed = false }

-- the same, where the pass has seen all events up to this point
abbrev pub walk_seen : ℕ → ℕ → List MetLink → ℕ → Walk
walk_seen bucket generation met point = record (walk_through bucket generation met) { at = Some point }

-- a link has these two words
abbrev pub has_words : ℕ → ℕ → ChainLink → Bool
has_words first second e = e.pair.first == first && e.pair.second == second

-- The pass has only read: no word was changed, and nothing of what it has. It may have seen more events, and its readings come
-- after those before the call.
pub record OnlyReads (v w : PassSight) : Type 0 where
  pub same : w ≡ looked_on v w
  pub front : StartsWith w.view.seen.front v.view.seen.front
  pub stand : ReadingsStand v w
  pub own : changes (λ word. true) (added v.view w.view) ≡ false

-- What the walk noted at this generation, which is even, and which the one load of it in this call found: links with other
-- tuples were met, and then this link with the tuple. While the generation is that one, the chain of the bucket begins with
-- them; else it says nothing of the chain. The call saw no further event.
pub record IsLink (t : Tuple) (place : ℕ) (direction : Direction) (generation : ℕ) (v w : PassSight) : Type 0 where
  pub reads : OnlyReads v w
  pub even : generation % 2 ≡ 0
  pub read : is_found (gen_word (sizes_of v) (bucket_in (sizes_of v) t)) generation (added v.view w.view) ≡ true
  pub loads : of_word (gen_word (sizes_of v) (bucket_in (sizes_of v) t)) (added v.view w.view)
      ≡ found (gen_word (sizes_of v) (bucket_in (sizes_of v) t)) generation ∷ []
  pub front : w.view.seen.front ≡ v.view.seen.front
  pub link : ℕ
  pub some : 0 < link
  pub below : link ≤ last_link (sizes_of v)
  pub place_is : place ≡ place_of link
  pub direction_is : direction ≡ direction_of link
  pub before : List MetLink
  pub others : list_all (is_another (address_word t) (flow_word t)) before ≡ true
  pub walk : w.view.walk ≡ Some (walk_to (bucket_in (sizes_of v) t) generation (met_with link (address_word t) (flow_word t) ∷ before))

-- The readings of the call begin with a load of this generation, and end with one of the history word and then again one of
-- this generation.
pub record Encloses (word generation : ℕ) (readings : List Reading) : Type 0 where
  pub middle : List Reading
  pub history : Reading
  pub history_is : (history.word ≡ 0) × (history.own ≡ false)
  pub all : readings ≡ found word generation ∷ middle ++ history ∷ found word generation ∷ []

-- The chain of the bucket, which was this one from the first load of the even generation to the second, is the links that the
-- walk met, and has none with the tuple. Between the two the pass has seen all events up to the point, which the history word
-- named; the chain is what was live there, and no other.
pub record IsEnd (t : Tuple) (at : ℕ) (v w : PassSight) : Type 0 where
  pub reads : OnlyReads v w
  pub point : at ≡ length w.view.seen.front
  pub all : AreAll v.view w.view.seen.front
  pub generation : ℕ
  pub even : generation % 2 ≡ 0
  pub between : Encloses (gen_word (sizes_of v) (bucket_in (sizes_of v) t)) generation (added v.view w.view)
  pub events : events_in between.history.value ≡ at
  pub before : List MetLink
  pub others : list_all (is_another (address_word t) (flow_word t)) before ≡ true
  pub walk : w.view.walk ≡ Some (walk_seen (bucket_in (sizes_of v) t) generation before at)
  pub chain : List ChainLink
  pub stands : Stands chain (walk_seen (bucket_in (sizes_of v) t) generation before at)
  pub right : IsChainOf (sizes_of v) (bucket_in (sizes_of v) t) chain
  pub none : list_any (has_words (address_word t) (flow_word t)) chain ≡ false
  pub live : HasLive (sizes_of v) (bucket_in (sizes_of v) t) w.view.seen.front chain

-- the pass has seen no further event, or all events so far
abbrev pub HasSeen : PassSight → PassSight → Type 0
HasSeen v w = (w.view.seen.front ≡ v.view.seen.front) ⊎ AreAll v.view w.view.seen.front

-- another pass had shut the bucket: the call found an odd generation
pub record WasShut (word was now : ℕ) (readings : List Reading) : Type 0 where
  pub odd : was % 2 ≡ 1
  pub read : is_found word was readings ≡ true
  pub same : now ≡ was

-- The generation of the bucket was odd, though this pass has not shut it, or it gave two different values. So the table is not
-- one of a single pass. Where it was odd the call saw no further event. The value that the call read there last is `now`.
pub record IsMoved (t : Tuple) (word was now : ℕ) (v w : PassSight) : Type 0 where
  pub reads : OnlyReads v w
  pub word_is : word ≡ gen_word (sizes_of v) (bucket_in (sizes_of v) t)
  pub mine : shuts_of (bucket_in (sizes_of v) t) v.view ≡ 0
  pub many : 1 < (sizes_of v).passes
  pub cause : WasShut word was now (added v.view w.view) ⊎ Gave word was now (added v.view w.view)
  pub front : was % 2 ≡ 1 → w.view.seen.front ≡ v.view.seen.front
  pub seen : HasSeen v w
  pub last : (value : ℕ) → read_from value word (added v.view w.view) ≡ now

abbrev pub FollowSays : Followed → Tuple → PassSight → PassSight → Type 0
FollowSays (Link place direction generation) t v w = IsLink t place direction generation v w
FollowSays (End at) t v w = IsEnd t at v w
FollowSays (Moved word was now) t v w = IsMoved t word was now v w

-- ON THE WAY

-- the walk met this link last, with the tuple that is looked for
pub record IsMet (g : Goal) (link : ℕ) (note : Walk) : Type 0 where
  pub its : IsNoteOf g.bucket g.generation note
  pub before : List MetLink
  pub met : note.met ≡ met_with link g.first g.second ∷ before

pub record HasMet (g : Goal) (link : ℕ) (view : View) : Type 0 where
  pub note : Walk
  pub walk : view.walk ≡ Some note
  pub is : IsMet g link note

-- it noted that this generation has passed
pub record HasPassed (g : Goal) (view : View) : Type 0 where
  pub note : Walk
  pub walk : view.walk ≡ Some note
  pub its : IsNoteOf g.bucket g.generation note
  pub passed : note.passed ≡ true

-- these are the two words that are looked for
abbrev pub has_pair : Goal → Pair → Bool
has_pair g p = p.first == g.first && p.second == g.second

-- readings of words behind the generations, none of them changed by the pass
abbrev pub is_of_walk : Sizes → Reading → Bool
is_of_walk z r = nat_le (3 + z.buckets) r.word && not r.own

-- the pass has read such words, and noted what it met
pub record WalksOn (v w : PassSight) : Type 0 where
  pub more : List Reading
  pub same : w ≡ record v { view = record v.view { walk = w.view.walk; readings = v.view.readings ++ more } }
  pub quiet : list_all (is_of_walk (sizes_of v)) more ≡ true

-- what is looked for: these two words, in this bucket, at this generation
abbrev pub walk_on : Goal → List MetLink → Walk
walk_on g met = walk_to g.bucket g.generation met

abbrev pub all_others : Goal → List MetLink → Bool
all_others g met = list_all (is_another g.first g.second) met

-- Whether a link has the tuple, which the walk notes where it is the newest one. Another one at a link that was met with the tuple
-- shows that the generation has passed. Of a place that the pass holds for an id it is that of the id's Confirm.
pub record Compares (g : Goal) (link : ℕ) (same : Bool) (v w : PassSight) : Type 0 where
  pub walks : WalksOn v w
  pub has : same ≡ true → (before : List MetLink) → v.view.walk ≡ Some (walk_on g (just_met link ∷ before))
      → w.view.walk ≡ Some (walk_on g (met_with link g.first g.second ∷ before))
  pub another : same ≡ false → (before : List MetLink) → v.view.walk ≡ Some (walk_on g (just_met link ∷ before))
      → (m : MetLink) × (w.view.walk ≡ Some (walk_on g (m ∷ before))) × (m.link ≡ link) × (is_another g.first g.second m ≡ true)
  pub stays : (x : ℕ) → HasMet g x v.view → HasMet g x w.view
  pub lost : same ≡ false → HasMet g link v.view → HasPassed g w.view
  pub kept : (place id : ℕ) (subject : Record) (d : Direction) → is_kept_for place id v.view.places.held ≡ true
      → slice_get v.view.seen.front id ≡ Some (Confirm subject) → link ≡ link_of d place → same ≡ has_pair g (pair_in d subject)

-- so far all links had other tuples, and this is the next one, or the end
abbrev pub note_at : Goal → ℕ → List MetLink → Walk
note_at g link before = (if link == 0 then walk_through g.bucket g.generation before else walk_on g (just_met link ∷ before))

pub record IsSoFar (g : Goal) (z : Sizes) (link left : ℕ) (view : View) : Type 0 where
  pub before : List MetLink
  pub walk : view.walk ≡ Some (note_at g link before)
  pub others : all_others g before ≡ true
  pub count : length before + left ≡ last_link z
  pub low : link ≤ last_link z

-- the walk begins with this link, or there is none
abbrev pub IsStart : Goal → ℕ → View → Type 0
IsStart g link view = view.walk ≡ Some (note_at g link [])

-- A link with the tuple is the first one with it; at the end there is none; and there may be more links than a chain has.
pub record SearchFound (g : Goal) (link : ℕ) (z : Sizes) (view : View) : Type 0 where
  pub some : 0 < link
  pub below : link ≤ last_link z
  pub before : List MetLink
  pub others : all_others g before ≡ true
  pub walk : view.walk ≡ Some (walk_on g (met_with link g.first g.second ∷ before))

pub record SearchEnded (g : Goal) (view : View) : Type 0 where
  pub before : List MetLink
  pub others : all_others g before ≡ true
  pub walk : view.walk ≡ Some (walk_through g.bucket g.generation before)

pub record SearchLong (g : Goal) (z : Sizes) (view : View) : Type 0 where
  pub met : List MetLink
  pub long : last_link z < length met
  pub walk : view.walk ≡ Some (walk_on g met)

abbrev pub SearchSays : Option ℕ → Goal → Sizes → View → Type 0
SearchSays None g z view = SearchLong g z view
SearchSays (Some zero) g z view = SearchEnded g view
SearchSays (Some (suc n)) g z view = SearchFound g (suc n) z view

-- the walk was begun at this generation, and went on
pub record IsBegun (g : Goal) (v w : PassSight) : Type 0 where
  pub more : List Reading
  pub same : w ≡ record v {
    view = record v.view {
      walk = w.view.walk;
      readings = v.view.readings ++ found (gen_word (sizes_of v) g.bucket) g.generation ∷ more;
    };
  }
  pub quiet : list_all (is_of_walk (sizes_of v)) more ≡ true

-- The history word was loaded, and then the generation, which was this one. The pass has seen all events at the history word. In
-- a table of one pass the generation is the value that it read there last.
pub record LooksAgain (g : Goal) (now : ℕ) (v w : PassSight) : Type 0 where
  pub history : Reading
  pub history_is : (history.word ≡ 0) × (history.own ≡ false)
  pub same : w ≡ record v {
    view = record v.view {
      seen = record v.view.seen { front = w.view.seen.front };
      walk = w.view.walk;
      readings = v.view.readings ++ history ∷ found (gen_word (sizes_of v) g.bucket) now ∷ [];
    };
  }
  pub front : StartsWith w.view.seen.front v.view.seen.front
  pub all : AreAll v.view w.view.seen.front
  pub events : events_in history.value ≡ length w.view.seen.front
  pub sole : IsSole v.view → now ≡ read_from 0 (gen_word (sizes_of v) g.bucket) (v.view.readings ++ history ∷ [])

-- The generation still stands: the note was true at this point, which is that of all events that the pass has seen, and it
-- names that point now.
pub record StandsStill (g : Goal) (at : ℕ) (v w : PassSight) : Type 0 where
  pub looks : LooksAgain g g.generation v w
  pub point : at ≡ length w.view.seen.front
  pub noted : (m : Walk) → v.view.walk ≡ Some m → IsNoteOf g.bucket g.generation m → w.view.walk ≡ Some (record m { at = Some (length w.view.seen.front) })
  pub was : (m : Walk) → v.view.walk ≡ Some m → IsNoteOf g.bucket g.generation m → g.generation % 2 ≡ 0
      → WasChain (sizes_of v) w.view.seen.front (record m { at = Some (length w.view.seen.front) })

-- It does not.
pub record StandsNoMore (g : Goal) (word was now : ℕ) (word_of : ℕ) (v w : PassSight) : Type 0 where
  pub looks : LooksAgain g now v w
  pub was_is : was ≡ g.generation
  pub word_is : word ≡ word_of
  pub other : (g.generation == now) ≡ false

abbrev pub EndSays : Followed → ℕ → Goal → PassSight → PassSight → Type 0
EndSays (Link place direction generation) word_of g v w = ⊥
EndSays (End at) word_of g v w = StandsStill g at v w
EndSays (Moved word was now) word_of g v w = StandsNoMore g word was now word_of v w
