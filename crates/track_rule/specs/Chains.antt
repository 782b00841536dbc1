-- The chains of the buckets. A chain is a list of links, each of a place below the entries and each with the two words of
-- its tuple, which belongs to the bucket. While a generation is odd, one pass has the bucket, and knows its chain. However
-- tuples are weighed, the chain of a bucket weighs what the live records weigh in it, and the tuples of places that a pass
-- has linked and not yet confirmed, or not yet unlinked. So it has each of these once, and no other. Such tuples are in
-- buckets that the pass has shut. Where both links of a place are in one chain, that of its original tuple comes first. A link
-- of a live record names the record's id, and no other link names one; no word shows that.
use Rattle.std.specs.Prelude.{◌≡◌, ℕ, ◌+◌, ◌-◌, ◌*◌, ◌%◌, ◌<◌, ◌≤◌, ◌==◌, if◌then◌else◌, bit_xor, Some, None, List, [], ◌∷◌, slice_index}
use Rattle.tuple_core.specs.Hash.{mix}
use Rattle.tuple_core.specs.Words.{address_word, flow_word}
use Rattle.tuple_core.specs.declared.Tuple.{Tuple}
use Rattle.history_book.specs.declared.event.Event.{Event}
use Rattle.history_book.specs.declared.record.Record.{Record}
use Rattle.history_book.specs.declared.sizes.Sizes.{Sizes}
use Rattle.track_rule.specs.declared.view.ChainLink.{ChainLink}
use Rattle.track_rule.specs.declared.view.Hook.{Hook}
use Rattle.track_rule.specs.declared.view.Pair.{Pair}
use Rattle.track_rule.specs.declared.view.Shut.{Shut}
use Rattle.track_rule.specs.declared.view.View.{View}
use Rattle.track_rule.specs.History.{records_after}
use Rattle.track_rule.specs.Layout.{first_word, gen_at, head_word, next_word, place_of, second_word, side_of}
use Rattle.track_rule.specs.Phases.{of_place}
use Rattle.track_rule.specs.Sums.{Each, bit, total}

-- the bucket of the two words of a tuple, and these words
abbrev pub bucket_of : Sizes → Pair → ℕ
bucket_of z p = mix (bit_xor (mix (bit_xor p.first z.seed)) p.second) % z.buckets

abbrev pub pair_of : Tuple → Pair
pair_of t = record { first = address_word t; second = flow_word t }

-- the link, and its tuple, stand in the words so, and the tuple belongs to the bucket
pub record IsLinked (z : Sizes) (words : List ℕ) (bucket : ℕ) (e : ChainLink) : Type 0 where
  pub some : 0 < e.link
  pub below : place_of e.link < z.entries
  pub first : slice_index words (first_word z e.link) ≡ e.pair.first
  pub second : slice_index words (second_word z e.link) ≡ e.pair.second
  pub placed : bucket_of z e.pair ≡ bucket

-- 1 where it is the link of this number
abbrev pub is_at_link : ℕ → ChainLink → ℕ
is_at_link link e = bit (e.link == link)

-- no original link stands behind the reply link of its place
abbrev pub IsOrdered : List ChainLink → Type 0
IsOrdered [] = Unit {0}
IsOrdered (e ∷ es) = (side_of e.link ≡ 1 → total (is_at_link (e.link - 1)) es ≡ 0) × IsOrdered es

-- from the link of this number on these links follow, to the end
abbrev pub IsChain : Sizes → List ℕ → ℕ → ℕ → List ChainLink → Type 0
IsChain z words bucket link [] = link ≡ 0
IsChain z words bucket link (e ∷ es) =
    (link ≡ e.link) × IsLinked z words bucket e × IsChain z words bucket (slice_index words (next_word z e.link)) es

-- the two links of a record, and that of a hook
abbrev pub original_of : Record → ChainLink
original_of r = record { link = 1 + 2 * r.place; pair = pair_of r.original; id = Some r.id }

abbrev pub reply_of : Record → ChainLink
reply_of r = record { link = 2 + 2 * r.place; pair = pair_of r.reply; id = Some r.id }

abbrev pub chain_link : Hook → ChainLink
chain_link h = record { link = h.link; pair = h.pair; id = None }

-- what a link weighs in a bucket
abbrev pub side : Sizes → ℕ → (ChainLink → ℕ) → ChainLink → ℕ
side z bucket weight e = (if bucket_of z e.pair == bucket then weight e else 0)

-- what a record weighs in it
abbrev pub links_in : Sizes → ℕ → (ChainLink → ℕ) → Record → ℕ
links_in z bucket weight r = side z bucket weight (original_of r) + side z bucket weight (reply_of r)

-- what the links of a pass weigh that stand and are not those of a live record
abbrev pub loose_of : Sizes → ℕ → (ChainLink → ℕ) → View → ℕ
loose_of z bucket weight v = total (λ (h : Hook). (if h.up then side z bucket weight (chain_link h) else 0)) v.buckets.hooks

-- each link weighs one
abbrev pub each_link : ChainLink → ℕ
each_link e = 1

-- how often a pass has shut the bucket, and how many hooks it has at a link
abbrev pub shuts_of : ℕ → View → ℕ
shuts_of bucket v = total (λ (s : Shut). bit (s.bucket == bucket)) v.buckets.shut

abbrev pub hooks_at : ℕ → View → ℕ
hooks_at link v = total (λ (h : Hook). bit (h.link == link)) v.buckets.hooks

-- the chain of a bucket as the pass that shut it knows it
abbrev pub chain_in : ℕ → List Shut → List ChainLink
chain_in bucket [] = []
chain_in bucket (s ∷ rest) = (if s.bucket == bucket then s.chain else chain_in bucket rest)

pub record AreChains (z : Sizes) (log : List Event) (words : List ℕ) (views : List View) (chains : ℕ → List ChainLink) : Type 0 where
  pub linked : (b : ℕ) → b < z.buckets → IsChain z words b (slice_index words (head_word z b)) (chains b)
  pub ordered : (b : ℕ) → b < z.buckets → IsOrdered (chains b)
  pub gens : (b : ℕ) → b < z.buckets → gen_at z words b % 2 ≡ total (shuts_of b) views
  pub mine : (b : ℕ) → b < z.buckets → Each (λ v. 0 < shuts_of b v → chain_in b v.buckets.shut ≡ chains b) views
  pub chained : (b : ℕ) → b < z.buckets → (weight : ChainLink → ℕ) → total weight (chains b) ≡ total (links_in z b weight) (records_after log) + total (loose_of z b weight) views
  pub home : Each (λ v. (b : ℕ) → b < z.buckets → 0 < loose_of z b each_link v → 0 < shuts_of b v) views
  pub lone : (link : ℕ) → 0 < link → total (hooks_at link) views + total (of_place (place_of link)) (records_after log) ≤ 1
