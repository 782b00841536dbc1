-- Two locked buckets, which may be one.
use Rattle.std.specs.Prelude.{◌≡◌, ℕ, ◌<◌, ◌==◌, ◌||◌, not, Bool, false, if◌then◌else◌, max, min, map, filter, List, [], ◌∷◌}
use Rattle.history_book.specs.declared.sizes.Sizes.{Sizes}
use Rattle.track_rule.specs.BucketSteps.{IsChainOf, opened_of, shut_now}
use Rattle.track_rule.specs.Chains.{chain_in, each_link, loose_of, shuts_of}
use Rattle.track_rule.specs.Layout.{gen_word}
use Rattle.track_rule.specs.Readings.{added, changes}
use Rattle.track_rule.specs.Sights.{PassSight, sizes_of}
use Rattle.track_rule.specs.declared.view.Reading.{Reading}
use Rattle.track_rule.specs.declared.view.Shut.{Shut}
use Rattle.track_rule.specs.declared.view.HeldBuckets.{HeldBuckets}
use Rattle.track_rule.specs.declared.view.View.{View}
use Rattle.bucket_table.specs.GoesOn.{ReadingsStand}

-- the lower one and the upper one
pub record Buckets : Type 0 where
  pub lower : ℕ
  pub upper : ℕ

-- these two, in any order
abbrev pub buckets_of : ℕ → ℕ → Buckets
buckets_of a b = record { lower = min a b; upper = max a b }

-- the pass has shut both
pub record AreShut (locked : Buckets) (v : View) : Type 0 where
  pub lower : 0 < shuts_of locked.lower v
  pub upper : 0 < shuts_of locked.upper v

-- the pass has shut neither
pub record AreOpen (locked : Buckets) (v : View) : Type 0 where
  pub lower : shuts_of locked.lower v ≡ 0
  pub upper : shuts_of locked.upper v ≡ 0

-- the words that the pass changed itself, in order
abbrev pub changed : List Reading → List ℕ
changed readings = map (λ (r : Reading). r.word) (filter (λ (r : Reading). r.own) readings)

-- no link of the pass that is not of a live entry stands in their chains
pub record AreWhole (z : Sizes) (locked : Buckets) (v : View) : Type 0 where
  pub lower : loose_of z locked.lower each_link v ≡ 0
  pub upper : loose_of z locked.upper each_link v ≡ 0

-- The bucket is shut, and the pass knows its chain. It had not shut it before. All else is as it was, but the note of a walk and
-- the readings, which come after those before the call. It changed no word but the generation of the bucket.
pub record Locks (bucket : ℕ) (v w : PassSight) : Type 0 where
  pub same : w ≡ record v {
    view = record v.view {
      buckets = shut_now bucket (chain_in bucket w.view.buckets.shut) v.view.buckets;
      walk = w.view.walk;
      readings = w.view.readings;
    };
  }
  pub chain : IsChainOf (sizes_of v) bucket (chain_in bucket w.view.buckets.shut)
  pub before : shuts_of bucket v.view ≡ 0
  pub stand : ReadingsStand v w
  pub own : changes (λ word. not (word == gen_word (sizes_of v) bucket)) (added v.view w.view) ≡ false
  pub order : changed (added v.view w.view) ≡ gen_word (sizes_of v) bucket ∷ []

-- a word that is not the generation of either bucket
abbrev pub is_else : Sizes → Buckets → ℕ → Bool
is_else z locked word = not (word == gen_word z locked.lower || word == gen_word z locked.upper)

-- what the pass has of buckets once both are shut, the lower one first; where both are one it is shut once
abbrev pub shut_both : Buckets → HeldBuckets → HeldBuckets → HeldBuckets
shut_both locked after before =
    (if locked.lower == locked.upper then shut_now locked.lower (chain_in locked.lower after.shut) before else
    shut_now locked.upper (chain_in locked.upper after.shut) (shut_now locked.lower (chain_in locked.lower after.shut) before))

-- the generations of both, the lower one first; where both are one it stands once
abbrev pub gens_of : Sizes → Buckets → List ℕ
gens_of z locked = gen_word z locked.lower ∷ (if locked.lower == locked.upper then [] else gen_word z locked.upper ∷ [])

-- both again, the upper one first
abbrev pub gens_back : Sizes → Buckets → List ℕ
gens_back z locked = gen_word z locked.upper ∷ (if locked.lower == locked.upper then [] else gen_word z locked.lower ∷ [])

-- Both are shut, and the pass knows their chains. It had shut neither before. All else is as it was, but the note of a walk and
-- the readings, which come after those before the call. It changed the two generations, the lower one first, and no other word.
pub record LocksTwo (locked : Buckets) (v w : PassSight) : Type 0 where
  pub same : w ≡ record v {
    view = record v.view {
      buckets = shut_both locked w.view.buckets v.view.buckets;
      walk = w.view.walk;
      readings = w.view.readings;
    };
  }
  pub shut : AreShut locked w.view
  pub lower : IsChainOf (sizes_of v) locked.lower (chain_in locked.lower w.view.buckets.shut)
  pub upper : IsChainOf (sizes_of v) locked.upper (chain_in locked.upper w.view.buckets.shut)
  pub before : AreOpen locked v.view
  pub stand : ReadingsStand v w
  pub own : changes (is_else (sizes_of v) locked) (added v.view w.view) ≡ false
  pub order : changed (added v.view w.view) ≡ gens_of (sizes_of v) locked

-- without both
abbrev pub open_both : Buckets → List Shut → List Shut
open_both locked shut =
    (if locked.lower == locked.upper then opened_of locked.lower shut else opened_of locked.lower (opened_of locked.upper shut))

-- Both buckets are given back. All else is as it was, but the readings, which come after those before the call. It changed the
-- two generations, the upper one first, and no other word.
pub record UnlocksTwo (locked : Buckets) (v w : PassSight) : Type 0 where
  pub same : w ≡ record v {
    view = record v.view {
      buckets = record v.view.buckets { shut = open_both locked v.view.buckets.shut };
      readings = w.view.readings;
    };
  }
  pub lower : shuts_of locked.lower w.view ≡ 0
  pub upper : shuts_of locked.upper w.view ≡ 0
  pub stand : ReadingsStand v w
  pub own : changes (is_else (sizes_of v) locked) (added v.view w.view) ≡ false
  pub order : changed (added v.view w.view) ≡ gens_back (sizes_of v) locked
