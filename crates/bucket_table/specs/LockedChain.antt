-- What a pass does with a chain that it has locked.
use Rattle.std.specs.Prelude.{◌≡◌, ℕ, ◌+◌, ◌*◌, ◌<◌, ◌≤◌, ◌==◌, ◌&&◌, ◌||◌, not, Bool, true, false, if◌then◌else◌, Option, Some, None, List, [], ◌∷◌, length, get_or}
use Rattle.tuple_core.specs.Tuple.{is_valid}
use Rattle.tuple_core.specs.Words.{words_of}
use Rattle.tuple_core.specs.declared.Direction.{Direction}
use Rattle.tuple_core.specs.declared.Direction.TheVariants.{Original, Reply}
use Rattle.tuple_core.specs.declared.Tuple.{Tuple}
use Rattle.history_book.specs.declared.sizes.Sizes.{Sizes}
use Rattle.track_rule.specs.BucketSteps.{IsChainOf, IsShutAt, end_word, first_of, has_link, put_in, taken_from}
use Rattle.track_rule.specs.Chains.{bucket_of, chain_in}
use Rattle.track_rule.specs.ChangesOnly.{either, is_head_of, is_next_of, is_some_next}
use Rattle.track_rule.specs.Layout.{place_of, side_of}
use Rattle.track_rule.specs.Links.{hook_of, is_link_word, last_link}
use Rattle.track_rule.specs.Readings.{added, changes}
use Rattle.track_rule.specs.Sights.{PassSight, sizes_of}
use Rattle.track_rule.specs.declared.view.ChainLink.{ChainLink}
use Rattle.track_rule.specs.declared.view.Hook.{Hook}
use Rattle.track_rule.specs.declared.view.HeldBuckets.{HeldBuckets}
use Rattle.track_rule.specs.declared.view.Reading.{Reading}
use Rattle.track_rule.specs.declared.view.View.{View}
use Rattle.bucket_table.specs.Following.{has_words}
use Rattle.bucket_table.specs.GoesOn.{ReadingsStand}
use Rattle.bucket_table.specs.Locks.{Buckets}

-- the bucket is one of the locked ones
abbrev pub has_bucket : Buckets → ℕ → Bool
has_bucket locked bucket = bucket == locked.lower || bucket == locked.upper

-- The pass is as it was, but for the note of a walk, and what it read after its earlier readings. It changed no word.
pub record OnlyLoads (v w : PassSight) : Type 0 where
  pub same : w ≡ record v { view = record v.view { walk = w.view.walk; readings = w.view.readings } }
  pub stand : ReadingsStand v w
  pub own : changes (λ word. true) (added v.view w.view) ≡ false

-- The same, but for its links and its chains, which are these. It changed no words but those of links.
pub record ChangesBuckets (buckets : HeldBuckets) (v w : PassSight) : Type 0 where
  pub same : w ≡ record v { view = record v.view { buckets = buckets; walk = w.view.walk; readings = w.view.readings } }
  pub stand : ReadingsStand v w
  pub own : changes (λ word. not (is_link_word (sizes_of v) word)) (added v.view w.view) ≡ false

-- the heads of two buckets, and the next links of a place, or of any
abbrev pub heads_of : ℕ → ℕ → Sizes → Reading → Bool
heads_of a b = either (is_head_of a) (is_head_of b)

abbrev pub link_words : ℕ → ℕ → ℕ → Sizes → Reading → Bool
link_words a b place = either (heads_of a b) (is_next_of place)

abbrev pub unlink_words : ℕ → ℕ → Sizes → Reading → Bool
unlink_words a b = either (heads_of a b) is_some_next

-- the first link of this direction in the chain that has the two words
abbrev pub link_with : ℕ → ℕ → ℕ → List ChainLink → Option ℕ
link_with side first second [] = None
link_with side first second (e ∷ es) = (if has_words first second e && side_of e.link == side then Some e.link else link_with side first second es)

-- the place of an original link, else that of a reply link
abbrev pub original_first : Option ℕ → Option ℕ → Option (ℕ × Direction)
original_first (Some x) reply = Some (place_of x, Original)
original_first None (Some y) = Some (place_of y, Reply)
original_first None None = None

-- the place and the direction of the link in the chain that has the two words, the original one first
abbrev pub found_in : ℕ → ℕ → List ChainLink → Option (ℕ × Direction)
found_in first second chain = original_first (link_with 0 first second chain) (link_with 1 first second chain)

-- the place of a link, if there is one
abbrev pub place_in : Option ℕ → Option ℕ
place_in None = None
place_in (Some x) = Some (place_of x)

-- the two links of a place
abbrev pub original_link : ℕ → ℕ
original_link place = 1 + 2 * place

abbrev pub reply_link : ℕ → ℕ
reply_link place = 2 + 2 * place

-- the words are those of a valid tuple
pub record IsTuple (first second : ℕ) : Type 0 where
  pub tuple : Tuple
  pub valid : is_valid tuple ≡ true
  pub words : words_of tuple ≡ first ∷ second ∷ []

-- the bucket of a link of the pass
abbrev pub hook_bucket : Sizes → ℕ → List Hook → ℕ
hook_bucket z link hooks = bucket_of z (hook_of link hooks).pair

-- a link of the pass has a valid tuple, of one of the locked buckets
pub record IsReady (z : Sizes) (locked : Buckets) (link : ℕ) (hooks : List Hook) : Type 0 where
  pub tuple : IsTuple (hook_of link hooks).pair.first (hook_of link hooks).pair.second
  pub its_bucket : has_bucket locked (hook_bucket z link hooks) ≡ true

-- both links of the place are in their chains now; the reply link was put in first
abbrev pub linked_buckets : Sizes → ℕ → HeldBuckets → HeldBuckets
linked_buckets z place s =
    put_in (hook_bucket z (original_link place) s.hooks) (original_link place)
    (put_in (hook_bucket z (reply_link place) s.hooks) (reply_link place) s)

-- both are out of them
abbrev pub unlinked_buckets : Sizes → ℕ → HeldBuckets → HeldBuckets
unlinked_buckets z place s =
    taken_from (hook_bucket z (reply_link place) s.hooks) (reply_link place)
    (taken_from (hook_bucket z (original_link place) s.hooks) (original_link place) s)

-- ON THE WAY

-- what a walk finds from here on, where it met this reply link with the tuple, or none, 0
abbrev pub found_from : ℕ → ℕ → ℕ → List ChainLink → Option (ℕ × Direction)
found_from first second reply [] = (if reply == 0 then None else Some (place_of reply, Reply))
found_from first second reply (e ∷ es) =
    (if has_words first second e then
    (if side_of e.link == 0 then Some (place_of e.link, Original) else found_from first second (if reply == 0 then e.link else reply) es) else
    found_from first second reply es)

-- so many links of the chain were passed, and this is the next one
pub record IsPassing (bucket : ℕ) (v : PassSight) (link left : ℕ) (passed rest : List ChainLink) : Type 0 where
  pub at : IsShutAt bucket v.view passed rest
  pub link_is : link ≡ first_of rest
  pub count : length passed + left ≡ last_link (sizes_of v)
  pub low : link ≤ last_link (sizes_of v)
  pub right : IsChainOf (sizes_of v) bucket (chain_in bucket v.view.buckets.shut)

pub record IsWalking (bucket first second : ℕ) (v : PassSight) (link left reply : ℕ) : Type 0 where
  pub passed : List ChainLink
  pub rest : List ChainLink
  pub passing : IsPassing bucket v link left passed rest
  pub finds : found_from first second 0 (chain_in bucket v.view.buckets.shut) ≡ found_from first second reply rest
  pub low : reply ≤ last_link (sizes_of v)

-- so many links of the chain were passed, and none of this direction that has the two words
pub record IsLooking (bucket side first second : ℕ) (v : PassSight) (link left : ℕ) : Type 0 where
  pub passed : List ChainLink
  pub rest : List ChainLink
  pub passing : IsPassing bucket v link left passed rest
  pub finds : link_with side first second (chain_in bucket v.view.buckets.shut) ≡ link_with side first second rest

-- the word has the next link, and the one that is looked for is not passed yet
pub record IsSeeking (bucket sought : ℕ) (v : PassSight) (word link left : ℕ) : Type 0 where
  pub passed : List ChainLink
  pub rest : List ChainLink
  pub passing : IsPassing bucket v link left passed rest
  pub word_is : word ≡ end_word (sizes_of v) bucket passed
  pub there : has_link sought rest ≡ true

-- whether the next link of a locked chain has these two words
abbrev pub IsThere : Sizes → ℕ → List ℕ → Bool → View → Type 0
IsThere z link goal result v =
    (bucket : ℕ) (passed : List ChainLink) (e : ChainLink) (rest : List ChainLink) → bucket < z.buckets → IsShutAt bucket v passed (e ∷ rest) → link ≡ e.link
    → result ≡ has_words (get_or goal 0 0) (get_or goal 1 0) e
