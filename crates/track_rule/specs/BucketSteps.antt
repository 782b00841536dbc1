-- What the steps on the buckets tell a pass: v is what it knew before, w what it knows after, n what the step found.
use Rattle.std.specs.Prelude.{◌⊎◌, ◌≡◌, ℕ, ◌+◌, ◌-◌, ◌%◌, ◌<◌, ◌≤◌, ◌==◌, ◌&&◌, ◌||◌, not, Bool, true, false, if◌then◌else◌, MatchBool, Some, None, List, [], ◌∷◌, map, length, slice_get}
use Rattle.std.specs.List.{list_any}
use Rattle.atomic_table.specs.Table.{Me, Step}
use Rattle.tuple_core.specs.declared.Direction.{Direction}
use Rattle.history_book.specs.declared.event.Event.{Event}
use Rattle.history_book.specs.declared.event.Event.TheVariants.{Confirm}
use Rattle.history_book.specs.declared.record.Record.{Record}
use Rattle.history_book.specs.declared.sizes.Sizes.{Sizes}
use Rattle.track_rule.specs.declared.slot.Slot.{Slot}
use Rattle.track_rule.specs.declared.view.ChainLink.{ChainLink}
use Rattle.track_rule.specs.declared.view.Hook.{Hook}
use Rattle.track_rule.specs.declared.view.Shut.{Shut}
use Rattle.track_rule.specs.declared.view.HeldBuckets.{HeldBuckets}
use Rattle.track_rule.specs.declared.view.Pair.{Pair}
use Rattle.track_rule.specs.declared.view.View.{View}
use Rattle.track_rule.specs.declared.view.Walk.{Walk}
use Rattle.track_rule.specs.Chains.{IsOrdered, bucket_of, chain_in, chain_link, shuts_of}
use Rattle.track_rule.specs.KeptWords.{is_kept_for, link_of, pair_in}
use Rattle.track_rule.specs.Layout.{first_word, gen_word, head_word, next_word, place_of, second_word, side_of}
use Rattle.track_rule.specs.Free.{is_among}
use Rattle.track_rule.specs.Links.{hook_of, hooks_of, is_down, is_up, is_raised, last_gen, last_link}
use Rattle.track_rule.specs.Notes.{link_note, note_then, tuple_note}
use Rattle.track_rule.specs.Readings.{IsSole, found, last_read, noted, stored}
use Rattle.track_rule.specs.Steps.{HasOthers}
use Rattle.track_rule.specs.Sums.{Each}
use Rattle.track_rule.specs.Walks.{HasLive, Stands, rev_onto}

-- GENERATIONS

-- a link of a place below the entries, whose tuple belongs to the bucket
pub record IsLinkIn (z : Sizes) (bucket : ℕ) (e : ChainLink) : Type 0 where
  pub some : 0 < e.link
  pub below : e.link ≤ last_link z
  pub placed : bucket_of z e.pair ≡ bucket

-- A chain of a bucket: it is no longer than there are links, and an original link comes before the reply link of its place.
pub record IsChainOf (z : Sizes) (bucket : ℕ) (chain : List ChainLink) : Type 0 where
  pub each : Each (IsLinkIn z bucket) chain
  pub few : length chain ≤ last_link z
  pub ordered : IsOrdered chain

-- This was the chain all the time from the load that began the note to this one: what was met begins it, and it is what was
-- live at the noted point, which is that of all events that the pass has seen.
pub record WasChain (z : Sizes) (front : List Event) (m : Walk) : Type 0 where
  pub chain : List ChainLink
  pub right : IsChainOf z m.bucket chain
  pub stands : Stands chain m
  pub live : (point : ℕ) → m.at ≡ Some point → (point ≡ length front) × HasLive z m.bucket front chain

-- the note is of this generation of this bucket
pub record IsNoteOf (bucket generation : ℕ) (m : Walk) : Type 0 where
  pub bucket_is : m.bucket ≡ bucket
  pub generation_is : m.generation ≡ generation

-- A load of a generation. It is the noted one of the bucket or a later one. Where it is that, the note stays, and where it is
-- even besides, the note is true, and nothing was met that shows that it has passed. Else there is a new note.
pub record LoadsGen (bucket : ℕ) (v : View) (n : ℕ) (w : View) : Type 0 where
  pub view : w ≡ noted (found (gen_word v.passes.sizes bucket) n) (record v { walk = Some (note_then bucket n v.walk) })
  pub walk : IsNoteOf bucket n (note_then bucket n v.walk)
  pub last : n ≤ last_gen
  pub shut : 0 < shuts_of bucket v → n % 2 ≡ 1
  pub others : n % 2 ≡ 1 → shuts_of bucket v ≡ 0 → HasOthers v
  pub sole : IsSole v → n ≡ last_read (gen_word v.passes.sizes bucket) v
  pub least : (m : Walk) → v.walk ≡ Some m → m.bucket ≡ bucket → m.generation ≤ n
  pub again : (m : Walk) → v.walk ≡ Some m → IsNoteOf bucket n m → n % 2 ≡ 0 → (m.passed ≡ false) × WasChain v.passes.sizes v.seen.front m

-- the pass has shut the bucket, and knows its chain
abbrev pub shut_now : ℕ → List ChainLink → HeldBuckets → HeldBuckets
shut_now bucket chain s = record s { shut = record { bucket = bucket; chain = chain } ∷ s.shut }

-- The generation was this even one, and is odd now. The pass has the bucket.
pub record ShutsGen (bucket even : ℕ) (v w : View) : Type 0 where
  pub view : w ≡ noted (stored (gen_word v.passes.sizes bucket) (even + 1)) (record v { buckets = shut_now bucket (chain_in bucket w.buckets.shut) v.buckets })
  pub chain : IsChainOf v.passes.sizes bucket (chain_in bucket w.buckets.shut)
  pub before : shuts_of bucket v ≡ 0
  pub sole : IsSole v → even ≡ last_read (gen_word v.passes.sizes bucket) v

-- It was another one. Where that is odd and the pass has not shut the bucket, another pass has.
pub record MissesGen (bucket even : ℕ) (v : View) (n : ℕ) (w : View) : Type 0 where
  pub view : w ≡ noted (found (gen_word v.passes.sizes bucket) n) v
  pub other : (n == even) ≡ false
  pub last : n ≤ last_gen
  pub others : n % 2 ≡ 1 → shuts_of bucket v ≡ 0 → HasOthers v
  pub sole : IsSole v → n ≡ last_read (gen_word v.passes.sizes bucket) v

abbrev pub ShutsOrMisses : Bool → ℕ → ℕ → View → ℕ → View → Type 0
ShutsOrMisses same bucket even v n w = MatchBool same (ShutsGen bucket even v w) (MissesGen bucket even v n w)

-- without the bucket
abbrev pub opened_of : ℕ → List Shut → List Shut
opened_of bucket [] = []
opened_of bucket (s ∷ rest) = (if s.bucket == bucket then rest else s ∷ opened_of bucket rest)

-- The pass has given the bucket back: its generation is even again.
pub record OpensGen (bucket : ℕ) (v : View) (w : View) : Type 0 where
  pub generation : ℕ
  pub odd : generation % 2 ≡ 1
  pub sole : IsSole v → generation ≡ last_read (gen_word v.passes.sizes bucket) v
  pub view : w ≡ noted (stored (gen_word v.passes.sizes bucket) (generation + 1)) (record v { buckets = record v.buckets { shut = opened_of bucket v.buckets.shut } })
  pub after : shuts_of bucket w ≡ 0
  pub others : (b : ℕ) → (b ≡ bucket → ⊥) → (shuts_of b w ≡ shuts_of b v) × (chain_in b w.buckets.shut ≡ chain_in b v.buckets.shut)

-- LOADS OF LINKS AND OF TUPLES

-- the word that has the number of the link after these links of a chain, the newest first
abbrev pub end_word : Sizes → ℕ → List ChainLink → ℕ
end_word z bucket [] = head_word z bucket
end_word z bucket (e ∷ es) = next_word z e.link

-- the number of the link with which links begin
abbrev pub first_of : List ChainLink → ℕ
first_of [] = 0
first_of (e ∷ es) = e.link

-- the chain of a bucket that the pass has shut is these links, the first of them passed
pub record IsShutAt (bucket : ℕ) (v : View) (passed rest : List ChainLink) : Type 0 where
  pub mine : 0 < shuts_of bucket v
  pub all : chain_in bucket v.buckets.shut ≡ rev_onto passed rest

-- a chain has the link
abbrev pub has_link : ℕ → List ChainLink → Bool
has_link link chain = list_any (λ (e : ChainLink). e.link == link) chain

-- a hook at this link of this bucket is in its chain
abbrev pub is_up_in : Sizes → ℕ → ℕ → List Hook → Bool
is_up_in z bucket link hooks = list_any (λ (h : Hook). h.link == link && (h.up && bucket_of z h.pair == bucket)) hooks

-- A load of a head, or of a next link. It is 0 or a link of a place below the entries, and in a bucket that the pass has
-- shut it is the next link of the chain. There the chain is one of the bucket, and has each link of the pass that is up.
pub record LoadsLink (word : ℕ) (v : View) (n : ℕ) (w : View) : Type 0 where
  pub view : w ≡ noted (found word n) (record v { walk = link_note v.passes.sizes word n v.walk })
  pub link : n ≤ last_link v.passes.sizes
  pub sole : IsSole v → n ≡ last_read word v
  pub next : (bucket : ℕ) (passed rest : List ChainLink) → bucket < v.passes.sizes.buckets → IsShutAt bucket v passed rest
      → word ≡ end_word v.passes.sizes bucket passed → n ≡ first_of rest
  pub up : (bucket link : ℕ) → bucket < v.passes.sizes.buckets → 0 < shuts_of bucket v → is_raised link v.buckets.hooks ≡ true
      → bucket_of v.passes.sizes (hook_of link v.buckets.hooks).pair ≡ bucket → has_link link (chain_in bucket v.buckets.shut) ≡ true
  pub whole : (bucket : ℕ) → bucket < v.passes.sizes.buckets → 0 < shuts_of bucket v → IsChainOf v.passes.sizes bucket (chain_in bucket v.buckets.shut)

-- the word that was loaded, where it is one of the tuple of this link, is that of this tuple
pub record ReadsPair (z : Sizes) (word n link : ℕ) (p : Pair) : Type 0 where
  pub first : word ≡ first_word z link → n ≡ p.first
  pub second : word ≡ second_word z link → n ≡ p.second

-- A load of a word of a tuple. In a bucket that the pass has shut it is that of the chain, and of a link of its own it is the
-- one that the pass knows. Of a place that the pass holds for an id it is that of the tuple of the id's Confirm.
pub record LoadsTuple (word : ℕ) (v : View) (n : ℕ) (w : View) : Type 0 where
  pub view : w ≡ noted (found word n) (record v { walk = tuple_note v.passes.sizes word n v.walk })
  pub sole : IsSole v → n ≡ last_read word v
  pub first : (bucket : ℕ) (passed : List ChainLink) (e : ChainLink) (rest : List ChainLink) → bucket < v.passes.sizes.buckets
      → IsShutAt bucket v passed (e ∷ rest) → word ≡ first_word v.passes.sizes e.link → n ≡ e.pair.first
  pub second : (bucket : ℕ) (passed : List ChainLink) (e : ChainLink) (rest : List ChainLink) → bucket < v.passes.sizes.buckets
      → IsShutAt bucket v passed (e ∷ rest) → word ≡ second_word v.passes.sizes e.link → n ≡ e.pair.second
  pub own_first : (link : ℕ) → 0 < hooks_of link v.buckets.hooks → word ≡ first_word v.passes.sizes link → n ≡ (hook_of link v.buckets.hooks).pair.first
  pub own_second : (link : ℕ) → 0 < hooks_of link v.buckets.hooks → word ≡ second_word v.passes.sizes link → n ≡ (hook_of link v.buckets.hooks).pair.second
  pub kept : (place id : ℕ) (subject : Record) (d : Direction) → is_kept_for place id v.places.held ≡ true → slice_get v.seen.front id ≡ Some (Confirm subject)
      → ReadsPair v.passes.sizes word n (link_of d place) (pair_in d subject)

-- STORES

-- a hook whose word this is has this in it
abbrev pub tuple_in : Sizes → ℕ → ℕ → Hook → Hook
tuple_in z word to h =
    (if first_word z h.link == word then record h { pair = record h.pair { first = to } } else
    (if second_word z h.link == word then record h { pair = record h.pair { second = to } } else h))

-- it is a word of the tuple of a link of the pass, of a place that it has set to OWNED and of which no link is in a chain
abbrev pub is_own_tuple : Sizes → ℕ → HeldBuckets → List ℕ → Bool
is_own_tuple z word buckets owned =
    list_any (λ (h : Hook). (not (is_up (place_of h.link) buckets.hooks) && (first_word z h.link == word || second_word z h.link == word))
    && is_among (place_of h.link) owned) buckets.hooks

-- the word of a tuple was stored
abbrev pub tuple_stored : ℕ → ℕ → View → View
tuple_stored word to v = noted (stored word to) (record v { buckets = record v.buckets { hooks = map (tuple_in v.passes.sizes word to) v.buckets.hooks } })

-- the next link of a link that is in no chain was stored
abbrev pub aim : ℕ → ℕ → Hook → Hook
aim link to h = (if h.link == link then record h { next = Some to } else h)

abbrev pub aimed : ℕ → ℕ → HeldBuckets → HeldBuckets
aimed link to s = record s { hooks = map (aim link to) s.hooks }

-- a bucket that the pass has shut has this chain
abbrev pub with_chain : ℕ → List ChainLink → List Shut → List Shut
with_chain bucket chain [] = []
with_chain bucket chain (s ∷ rest) = (if s.bucket == bucket then record s { chain = chain } ∷ rest else s ∷ with_chain bucket chain rest)

-- a link is in its chain
abbrev pub raise : ℕ → Hook → Hook
raise link h = (if h.link == link then record h { next = None; up = true } else h)

-- the link begins the chain of the bucket
abbrev pub put_in : ℕ → ℕ → HeldBuckets → HeldBuckets
put_in bucket link s = record {
  shut = with_chain bucket (chain_link (hook_of link s.hooks) ∷ chain_in bucket s.shut) s.shut;
  hooks = map (raise link) s.hooks;
}

-- a link is in no chain
abbrev pub lower : ℕ → Hook → Hook
lower link h = (if h.link == link then record h { next = None; up = false } else h)

-- a chain without the link
abbrev pub without_link : ℕ → List ChainLink → List ChainLink
without_link link [] = []
without_link link (e ∷ es) = (if e.link == link then es else e ∷ without_link link es)

-- the link is taken out of the chain of the bucket
abbrev pub taken_from : ℕ → ℕ → HeldBuckets → HeldBuckets
taken_from bucket link s = record {
  shut = with_chain bucket (without_link link (chain_in bucket s.shut)) s.shut;
  hooks = map (lower link) s.hooks;
}

-- The next link of a link of the pass that is in no chain may be any.
pub record Aims (word to : ℕ) (v : View) : Type 0 where
  pub link : ℕ
  pub down : is_down link v.buckets.hooks ≡ true
  pub word_is : word ≡ next_word v.passes.sizes link
  pub to_low : to ≤ last_link v.passes.sizes

-- Such a link, whose next one is the first of a chain of its bucket, which the pass has shut, may begin that chain, where the
-- pass has set the phase of its place to OWNED, and no link of another place of the pass stands in a chain. A reply link does so
-- before the original link of its place.
pub record Puts (word to : ℕ) (v : View) : Type 0 where
  pub bucket : ℕ
  pub below : bucket < v.passes.sizes.buckets
  pub mine : 0 < shuts_of bucket v
  pub word_is : word ≡ head_word v.passes.sizes bucket
  pub down : is_down to v.buckets.hooks ≡ true
  pub next : (hook_of to v.buckets.hooks).next ≡ Some (first_of (chain_in bucket v.buckets.shut))
  pub placed : bucket_of v.passes.sizes (hook_of to v.buckets.hooks).pair ≡ bucket
  pub owned : is_among (place_of to) v.places.owned ≡ true
  pub before : side_of to ≡ 1 → is_down (to - 1) v.buckets.hooks ≡ true
  pub alone : (place : ℕ) → is_up place v.buckets.hooks ≡ true → place ≡ place_of to

-- A link of the pass is taken out of its chain, in a bucket that the pass has shut, where the link before it, or the head, gets
-- its next one.
pub record Cuts (word to : ℕ) (v : View) : Type 0 where
  pub bucket : ℕ
  pub below : bucket < v.passes.sizes.buckets
  pub passed : List ChainLink
  pub link : ChainLink
  pub rest : List ChainLink
  pub at : IsShutAt bucket v passed (link ∷ rest)
  pub word_is : word ≡ end_word v.passes.sizes bucket passed
  pub to_is : to ≡ first_of rest
  pub up : is_raised link.link v.buckets.hooks ≡ true

-- what a pass may store in a head, or as the next link of a link
abbrev pub MayString : ℕ → ℕ → View → Type 0
MayString word to v = Aims word to v ⊎ Puts word to v ⊎ Cuts word to v

abbrev pub strung : ℕ → ℕ → HeldBuckets → View → View
strung word to buckets v = noted (stored word to) (record v { buckets = buckets })

-- A link was stored: as the next one of a link that is in no chain, as the first of a chain, or behind a link that is taken out.
pub record Strings (word to : ℕ) (v w : View) : Type 0 where
  pub aims : (link : ℕ) → is_down link v.buckets.hooks ≡ true → word ≡ next_word v.passes.sizes link → w ≡ strung word to (aimed link to v.buckets) v
  pub puts : (bucket : ℕ) → bucket < v.passes.sizes.buckets → word ≡ head_word v.passes.sizes bucket → is_down to v.buckets.hooks ≡ true
      → w ≡ strung word to (put_in bucket to v.buckets) v
  pub cuts : (bucket : ℕ) (passed : List ChainLink) (e : ChainLink) (rest : List ChainLink) → bucket < v.passes.sizes.buckets → IsShutAt bucket v passed (e ∷ rest)
      → word ≡ end_word v.passes.sizes bucket passed → to ≡ first_of rest → w ≡ strung word to (taken_from bucket e.link v.buckets) v
  pub same : w ≡ strung word to w.buckets v

-- WHAT THE STEPS ARE ON THE TABLE

-- the word of the step is the generation of this bucket
abbrev pub IsGenWord : Step Slot → View → ℕ → Type 0
IsGenWord step v bucket = step.word ≡ gen_word v.passes.sizes bucket

abbrev pub LoadGenStep : Step Slot → Me Slot View → ℕ → Me Slot View → Type 0
LoadGenStep step me n me' = (b : ℕ) → IsGenWord step me.0 b → LoadsGen b me.0 n me'.0 × (me'.1 ≡ me.1)

abbrev pub ShutGenStep : Step Slot → Me Slot View → ℕ → Me Slot View → Type 0
ShutGenStep step me n me' =
    (b : ℕ) → IsGenWord step me.0 b → ShutsOrMisses (n == step.first) b step.first me.0 n me'.0 × (me'.1 ≡ me.1) × (step.second ≡ step.first + 1)

abbrev pub OpenGenStep : Step Slot → Me Slot View → ℕ → Me Slot View → Type 0
OpenGenStep step me n me' = (b : ℕ) → IsGenWord step me.0 b → OpensGen b me.0 me'.0 × (me'.1 ≡ me.1)

abbrev pub LoadLinkStep : Step Slot → Me Slot View → ℕ → Me Slot View → Type 0
LoadLinkStep step me n me' = LoadsLink step.word me.0 n me'.0 × (me'.1 ≡ me.1)

abbrev pub LoadTupleStep : Step Slot → Me Slot View → ℕ → Me Slot View → Type 0
LoadTupleStep step me n me' = LoadsTuple step.word me.0 n me'.0 × (me'.1 ≡ me.1)

abbrev pub StoreTupleStep : Step Slot → Me Slot View → ℕ → Me Slot View → Type 0
StoreTupleStep step me n me' = (me'.0 ≡ tuple_stored step.word n me.0) × (me'.1 ≡ me.1)

abbrev pub StoreLinkStep : Step Slot → Me Slot View → ℕ → Me Slot View → Type 0
StoreLinkStep step me n me' = Strings step.word n me.0 me'.0 × (me'.1 ≡ me.1)
