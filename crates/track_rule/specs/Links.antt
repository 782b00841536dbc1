-- The words of links, and the hooks of a pass. Each head and each word of a next link is 0 or a link of a place below the
-- entries. A generation leaves room for one change more and back. A hook of a pass is of a place that it holds; the words of
-- its tuple stand as the pass knows them, and so does the next link, where the pass stored it and the link is not in a chain.
-- Those in chains are of one place at most.
use Rattle.std.specs.Prelude.{◌≡◌, ℕ, ◌+◌, ◌-◌, ◌*◌, ◌%◌, ◌^◌, ◌<◌, ◌≤◌, ◌==◌, ◌&&◌, ◌||◌, nat_le, nat_lt, not, if◌then◌else◌, Bool, true, false, Some, None, List, [], ◌∷◌, slice_index}
use Rattle.std.specs.List.{list_any}
use Rattle.history_book.specs.declared.sizes.Sizes.{Sizes}
use Rattle.track_rule.specs.declared.view.Hook.{Hook}
use Rattle.track_rule.specs.declared.view.Places.{Places}
use Rattle.track_rule.specs.declared.view.View.{View}
use Rattle.track_rule.specs.Layout.{first_word, gen_at, head_word, next_word, place_of, second_word, word_count}
use Rattle.track_rule.specs.References.{held_times}
use Rattle.track_rule.specs.Sums.{Each, bit, times, total}

-- the greatest link
abbrev pub last_link : Sizes → ℕ
last_link z = 2 * z.entries

-- which word of its place a word is
abbrev pub kind_of : Sizes → ℕ → ℕ
kind_of z word = (word - (3 + 2 * z.buckets)) % 9

-- the word of a head, or of a next link
abbrev pub is_link_word : Sizes → ℕ → Bool
is_link_word z word =
    (nat_le (3 + z.buckets) word && nat_lt word (3 + 2 * z.buckets))
    || (nat_le (3 + 2 * z.buckets) word && nat_lt word (word_count z) && nat_le 7 (kind_of z word))

-- a word of a tuple
abbrev pub is_tuple_word : Sizes → ℕ → Bool
is_tuple_word z word =
    nat_le (3 + 2 * z.buckets) word && nat_lt word (word_count z) && nat_le 3 (kind_of z word) && nat_lt (kind_of z word) 7

-- no generation passes this one, which is the greatest even number of 64 bits
abbrev pub last_gen : ℕ
last_gen = 2 ^ 64 - 2

-- how many of these hooks are at the link
abbrev pub hooks_of : ℕ → List Hook → ℕ
hooks_of link hooks = total (λ (h : Hook). bit (h.link == link)) hooks

-- one that is not in a chain
abbrev pub is_down : ℕ → List Hook → Bool
is_down link hooks = list_any (λ (h : Hook). h.link == link && not h.up) hooks

-- one that is
abbrev pub is_raised : ℕ → List Hook → Bool
is_raised link hooks = list_any (λ (h : Hook). h.link == link && h.up) hooks

-- the hook at the link
abbrev pub hook_of : ℕ → List Hook → Hook
hook_of link [] = record { link = 0; pair = record { first = 0; second = 0 }; next = None; up = false }
hook_of link (h ∷ hs) = (if h.link == link then h else hook_of link hs)

-- a hook of the place is in a chain
abbrev pub is_up : ℕ → List Hook → Bool
is_up place hooks = list_any (λ (h : Hook). place_of h.link == place && h.up) hooks

-- of no place a link came into a chain
abbrev pub RaisesNone : List Hook → List Hook → Type 0
RaisesNone old new = (place : ℕ) → is_up place old ≡ false → is_up place new ≡ false

pub record IsHook (z : Sizes) (words : List ℕ) (h : Hook) : Type 0 where
  pub some : 0 < h.link
  pub below : h.link ≤ last_link z
  pub first : slice_index words (first_word z h.link) ≡ h.pair.first
  pub second : slice_index words (second_word z h.link) ≡ h.pair.second
  pub next : (n : ℕ) → h.up ≡ false → h.next ≡ Some n → slice_index words (next_word z h.link) ≡ n

-- where a hook is in a chain, the pass has set the phase of its place to OWNED, or it has destroyed the entry of the place, whose
-- phase is DEAD
abbrev pub IsOwned : Places → Hook → Type 0
IsOwned places h = h.up ≡ true → 0 < times (place_of h.link) places.owned + times (place_of h.link) places.ended

-- the links of one place at most stand in chains without being those of a live entry
abbrev pub AreOfOne : List Hook → Type 0
AreOfOne hooks = (p q : ℕ) → is_up p hooks ≡ true → is_up q hooks ≡ true → p ≡ q

pub record HasHooks (z : Sizes) (words : List ℕ) (places : Places) (hooks : List Hook) : Type 0 where
  pub each : Each (IsHook z words) hooks
  pub held : (link : ℕ) → 0 < hooks_of link hooks → 0 < held_times (place_of link) places.held
  pub linked : Each (IsOwned places) hooks
  pub one : AreOfOne hooks

pub record AreLinks (z : Sizes) (words : List ℕ) (views : List View) : Type 0 where
  pub heads : (b : ℕ) → b < z.buckets → slice_index words (head_word z b) ≤ last_link z
  pub nexts : (x : ℕ) → 0 < x → x ≤ last_link z → slice_index words (next_word z x) ≤ last_link z
  pub gens : (b : ℕ) → b < z.buckets → gen_at z words b ≤ last_gen
  pub hooks : Each (λ v. HasHooks z words v.places v.buckets.hooks) views
