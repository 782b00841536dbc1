-- The place of a test: its tuples are stored, and its links go into their chains and out of them.
use Rattle.std.proofs.Common.{◌⊎◌, ◌≡◌, ◌≢◌, ℕ, suc, ◌+◌, ◌%◌, ◌<◌, Bool, true, false, Some, None, List, [], ◌∷◌, map, refl, sym, ap, subst, ◌∙◌, ⊎_elim, arith}
use Rattle.std.specs.Prelude.{◌==◌, ◌&&◌, ◌||◌, not, if◌then◌else◌, bit_xor}
use Rattle.tuple_core.specs.Hash.{mix}
use Rattle.std.specs.List.{list_any, slice_get}
use Rattle.std.proofs.lemmas.Bool.{and_from, cond_both, eq-eqb, ne_eqb}
use Rattle.history_book.specs.declared.sizes.Sizes.{Sizes}
use Rattle.tuple_core.specs.Tuple.{is_valid}
use Rattle.tuple_core.specs.declared.Tuple.{Tuple}
use Rattle.track_rule.specs.BucketSteps.{is_own_tuple, lower, put_in, raise, taken_from, tuple_in, tuple_stored}
use Rattle.track_rule.specs.Chains.{bucket_of, each_link, chain_link, loose_of, pair_of, shuts_of, side}
use Rattle.track_rule.specs.Free.{is_among}
use Rattle.track_rule.specs.Layout.{first_word, place_of, second_word}
use Rattle.track_rule.specs.Links.{hook_of, is_down, is_raised, is_up}
use Rattle.track_rule.specs.Sights.{PassSight, sizes_of}
use Rattle.track_rule.specs.Sums.{bit, total}
use Rattle.track_rule.specs.declared.view.HeldBuckets.{HeldBuckets}
use Rattle.track_rule.specs.declared.view.Hook.{Hook}
use Rattle.track_rule.specs.declared.view.Pair.{Pair}
use Rattle.track_rule.specs.declared.view.Shut.{Shut}
use Rattle.track_rule.specs.declared.view.View.{View}
use Rattle.bucket_table.specs.LockedChain.{IsReady, IsTuple, has_bucket, linked_buckets, original_link, reply_link, unlinked_buckets}
use Rattle.bucket_table.specs.Locks.{AreShut, Buckets}
use Rattle.bucket_table.specs.TestPlace.{HasLinks, HasOriginal, HasTestPlace, only_bucket}
use Rattle.bucket_table.proofs.Pairs.{put_keeps, take_keeps}
use Rattle.bucket_table.proofs.Stringing.{lower_else, lower_link, raise_else, raise_link}

-- the first place of a list is on it
pub listed : (place : ℕ) (list : List ℕ) → slice_get list 0 ≡ Some place → is_among place list ≡ true
listed place [] e = cc
listed place (x ∷ xs) e =
    let same : x ≡ place = cc in
    ap (λ (b : Bool). b || is_among place xs) (eq-eqb x place same)

or_true : (a b : Bool) → b ≡ true → (a || b) ≡ true
or_true true b e = refl
or_true false b e = e

raise_pair : (x : ℕ) (h : Hook) → (raise x h).pair ≡ h.pair
raise_pair x h = cond_both (h.link == x) (record h { next = None; up = true }) h (λ (t : Hook). t.pair ≡ h.pair) (λ e. refl) (λ e. refl)

lower_pair : (x : ℕ) (h : Hook) → (lower x h).pair ≡ h.pair
lower_pair x h = cond_both (h.link == x) (record h { next = None; up = false }) h (λ (t : Hook). t.pair ≡ h.pair) (λ e. refl) (λ e. refl)

raise_up : (x : ℕ) (h : Hook) → h.link ≡ x → (raise x h).up ≡ true
raise_up x h e = ap (λ (b : Bool). (if b then record h { next = None; up = true } else h).up) (eq-eqb h.link x e)

lower_up : (x : ℕ) (h : Hook) → h.link ≡ x → not (lower x h).up ≡ true
lower_up x h e = ap (λ (b : Bool). not (if b then record h { next = None; up = false } else h).up) (eq-eqb h.link x e)

-- what a store leaves of a hook, by whether the word is its first or its second one
abbrev stored_by : Bool → Bool → ℕ → Hook → Hook
stored_by b c to h = (if b then record h { pair = record h.pair { first = to } } else (if c then record h { pair = record h.pair { second = to } } else h))

tuple_link : (z : Sizes) (word to : ℕ) (h : Hook) → (tuple_in z word to h).link ≡ h.link
tuple_link z word to h = one (first_word z h.link == word) (second_word z h.link == word)
  where
    one : (b c : Bool) → (stored_by b c to h).link ≡ h.link
    one true c = refl
    one false true = refl
    one false false = refl

tuple_up : (z : Sizes) (word to : ℕ) (h : Hook) → (tuple_in z word to h).up ≡ h.up
tuple_up z word to h = one (first_word z h.link == word) (second_word z h.link == word)
  where
    one : (b c : Bool) → (stored_by b c to h).up ≡ h.up
    one true c = refl
    one false true = refl
    one false false = refl

-- the words of the tuple of one link are not those of another one
firsts : (z : Sizes) (x y : ℕ) → 0 < x → 0 < y → x ≢ y → first_word z x ≢ first_word z y
firsts z x y some some' other e = other (omega (arith, e, some, some'))

seconds : (z : Sizes) (x y : ℕ) → 0 < x → 0 < y → x ≢ y → second_word z x ≢ second_word z y
seconds z x y some some' other e = other (omega (arith, e, some, some'))

never : (z : Sizes) (x y : ℕ) → first_word z x ≢ second_word z y
never z x y e = omega (arith, e)

-- both words of the tuple of a link, stored
module _ (z : Sizes) (x a b : ℕ) where
  pub one_pair : (k : Hook) → k.link ≡ x → (tuple_in z (second_word z x) b (tuple_in z (first_word z x) a k)).pair ≡ record { first = a; second = b }
  one_pair k at =
      let first : tuple_in z (first_word z x) a k ≡ record k { pair = record k.pair { first = a } } =
      ap (λ (t : Bool). stored_by t (second_word z k.link == first_word z x) a k) (eq-eqb (first_word z k.link) (first_word z x) (ap (first_word z) at)) in
      ap (λ (y : Hook). (tuple_in z (second_word z x) b y).pair) first
      ∙ (λ i. (stored_by (ne_eqb (first_word z k.link) (second_word z x) (never z k.link x) i)
      (eq-eqb (second_word z k.link) (second_word z x) (ap (second_word z) at) i) b (record k { pair = record k.pair { first = a } })).pair)

  one_else : (word to : ℕ) (k : Hook) → first_word z k.link ≢ word → second_word z k.link ≢ word → (tuple_in z word to k).pair ≡ k.pair
  one_else word to k f g = (λ i. (stored_by (ne_eqb (first_word z k.link) word f i) (ne_eqb (second_word z k.link) word g i) to k).pair)

  pub other_pair : (k : Hook) → 0 < x → 0 < k.link → k.link ≢ x → (tuple_in z (second_word z x) b (tuple_in z (first_word z x) a k)).pair ≡ k.pair
  other_pair k some_x some_k other =
      let link : (tuple_in z (first_word z x) a k).link ≡ k.link = tuple_link z (first_word z x) a k in
      one_else (second_word z x) b (tuple_in z (first_word z x) a k)
      (λ e. never z k.link x (ap (first_word z) (sym link) ∙ e))
      (λ e. seconds z k.link x some_k some_x other (ap (second_word z) (sym link) ∙ e))
      ∙ one_else (first_word z x) a k (firsts z k.link x some_k some_x other) (λ e. never z x k.link (sym e))

-- the buckets that are shut stay so
next_other : (x : ℕ) → suc x ≢ x
next_other x e = omega (arith, e)

pub linked_shuts : (z : Sizes) (place : ℕ) (s : HeldBuckets) (c : ℕ)
    → total (λ (k : Shut). bit (k.bucket == c)) (linked_buckets z place s).shut ≡ total (λ (k : Shut). bit (k.bucket == c)) s.shut
linked_shuts z place s c =
    (put_keeps z _ (original_link place) (suc (original_link place)) (put_in _ (reply_link place) s) (next_other (original_link place))).shuts c
    ∙ (put_keeps z _ (reply_link place) (suc (reply_link place)) s (next_other (reply_link place))).shuts c

pub unlinked_shuts : (z : Sizes) (place : ℕ) (s : HeldBuckets) (c : ℕ)
    → total (λ (k : Shut). bit (k.bucket == c)) (unlinked_buckets z place s).shut ≡ total (λ (k : Shut). bit (k.bucket == c)) s.shut
unlinked_shuts z place s c =
    (take_keeps z _ (reply_link place) (suc (reply_link place)) (taken_from _ (original_link place) s) (next_other (reply_link place))).shuts c
    ∙ (take_keeps z _ (original_link place) (suc (original_link place)) s (next_other (original_link place))).shuts c

pub shut_stays : (locked : Buckets) (v w : View) → ((c : ℕ) → shuts_of c w ≡ shuts_of c v) → AreShut locked v → AreShut locked w
shut_stays locked v w e h = record {
  lower = omega (arith, e locked.lower, h.lower);
  upper = omega (arith, e locked.upper, h.upper);
}

-- THE TWO LINKS OF A PLACE

module _ (place : ℕ) (k : Hook) where
  is_original : k.link ≡ original_link place → ((k.link == original_link place) ≡ true) × ((k.link == reply_link place) ≡ false) × (place_of k.link ≡ place)
  is_original e = (eq-eqb k.link (original_link place) e, ne_eqb k.link (reply_link place) (λ f. omega (arith, e, f)), omega (arith, e))

  is_reply : k.link ≡ reply_link place → ((k.link == original_link place) ≡ false) × ((k.link == reply_link place) ≡ true) × (place_of k.link ≡ place)
  is_reply e = (ne_eqb k.link (original_link place) (λ f. omega (arith, e, f)), eq-eqb k.link (reply_link place) e, omega (arith, e))

or_none : (b : Bool) → (b || false) ≡ b
or_none true = refl
or_none false = refl

module _ (place : ℕ) (o r : Hook) (lo : o.link ≡ original_link place) (lr : r.link ≡ reply_link place) where
  at_original : hook_of (original_link place) (o ∷ r ∷ []) ≡ o
  at_original = ap (λ (b : Bool). if b then o else hook_of (original_link place) (r ∷ [])) (is_original place o lo).0

  at_reply : hook_of (reply_link place) (o ∷ r ∷ []) ≡ r
  at_reply =
      ap (λ (b : Bool). if b then o else hook_of (reply_link place) (r ∷ [])) (is_original place o lo).1
      ∙ ap (λ (b : Bool). if b then r else hook_of (reply_link place) []) (is_reply place r lr).1

  any_original : (t : Hook → Bool) → t o ≡ true → list_any (λ (h : Hook). h.link == original_link place && t h) (o ∷ r ∷ []) ≡ true
  any_original t e = (λ i. ((is_original place o lo).0 i && e i) || list_any (λ (h : Hook). h.link == original_link place && t h) (r ∷ []))

  any_reply : (t : Hook → Bool) → t r ≡ true → list_any (λ (h : Hook). h.link == reply_link place && t h) (o ∷ r ∷ []) ≡ true
  any_reply t e =
      (λ i. ((is_original place o lo).1 i && t o) || (((is_reply place r lr).1 i && e i) || false))

  -- no link of a place is in a chain where neither is
  none_up : o.up ≡ false → r.up ≡ false → (q : ℕ) → is_up q (o ∷ r ∷ []) ≡ false
  none_up f g q = (λ i. (place_of o.link == q && f i) || ((place_of r.link == q && g i) || false)) ∙ dead (place_of o.link == q) (place_of r.link == q)
    where
      dead : (a b : Bool) → ((a && false) || ((b && false) || false)) ≡ false
      dead true true = refl
      dead true false = refl
      dead false true = refl
      dead false false = refl

-- a word of a tuple of the place may be stored
module _ (place : ℕ) (v : PassSight) (h : HasLinks false place v) where
  pub calm_links : (q : ℕ) → is_up q v.view.buckets.hooks ≡ false
  calm_links q = ap (is_up q) h.all ∙ none_up place h.original h.reply h.links.0 h.links.1 h.ups.0 h.ups.1 q

  abbrev test : ℕ → Hook → Bool
  test word k =
      (not (is_up (place_of k.link) v.view.buckets.hooks) && (first_word (sizes_of v) k.link == word || second_word (sizes_of v) k.link == word)) && is_among (place_of k.link) v.view.places.owned

  passes : (word : ℕ) (k : Hook) → place_of k.link ≡ place → (first_word (sizes_of v) k.link == word || second_word (sizes_of v) k.link == word) ≡ true → test word k ≡ true
  passes word k at is =
      and_from (not (is_up (place_of k.link) v.view.buckets.hooks) && (first_word (sizes_of v) k.link == word || second_word (sizes_of v) k.link == word))
      (is_among (place_of k.link) v.view.places.owned)
      (and_from (not (is_up (place_of k.link) v.view.buckets.hooks)) (first_word (sizes_of v) k.link == word || second_word (sizes_of v) k.link == word)
      (ap not (calm_links (place_of k.link))) is)
      (ap (λ (q : ℕ). is_among q v.view.places.owned) at ∙ h.owned)

  either : (word link : ℕ) → (word ≡ first_word (sizes_of v) link) ⊎ (word ≡ second_word (sizes_of v) link)
      → (first_word (sizes_of v) link == word || second_word (sizes_of v) link == word) ≡ true
  either word link e =
      ⊎_elim
      (λ (f : word ≡ first_word (sizes_of v) link). ap (λ (b : Bool). b || second_word (sizes_of v) link == word) (eq-eqb (first_word (sizes_of v) link) word (sym f)))
      (λ (f : word ≡ second_word (sizes_of v) link).
      or_true (first_word (sizes_of v) link == word) (second_word (sizes_of v) link == word) (eq-eqb (second_word (sizes_of v) link) word (sym f)))
      e

  pub own_original : (word : ℕ) → (word ≡ first_word (sizes_of v) (original_link place)) ⊎ (word ≡ second_word (sizes_of v) (original_link place))
      → is_own_tuple (sizes_of v) word v.view.buckets v.view.places.owned ≡ true
  own_original word e =
      ap (list_any (test word)) h.all
      ∙ ap (λ (b : Bool). b || (test word h.reply || false)) (passes word h.original (is_original place h.original h.links.0).2
      (either word h.original.link (subst (λ (x : ℕ). (word ≡ first_word (sizes_of v) x) ⊎ (word ≡ second_word (sizes_of v) x)) (sym h.links.0) e)))

  pub own_reply : (word : ℕ) → (word ≡ first_word (sizes_of v) (reply_link place)) ⊎ (word ≡ second_word (sizes_of v) (reply_link place))
      → is_own_tuple (sizes_of v) word v.view.buckets v.view.places.owned ≡ true
  own_reply word e =
      ap (list_any (test word)) h.all
      ∙ or_true (test word h.original) (test word h.reply || false)
      (ap (λ (b : Bool). b || false) (passes word h.reply (is_reply place h.reply h.links.1).2
      (either word h.reply.link (subst (λ (x : ℕ). (word ≡ first_word (sizes_of v) x) ⊎ (word ≡ second_word (sizes_of v) x)) (sym h.links.1) e))))

  -- what is there after a store
  pub links_stored : (word to : ℕ) (w : PassSight) → w ≡ record v { view = tuple_stored word to v.view } → HasLinks false place w
  links_stored word to w e =
      let z : Sizes = sizes_of v in
      record {
        below = subst (λ (y : Sizes). place < y.entries) (sym (ap sizes_of e)) h.below;
        buckets = ap (λ (x : PassSight). (sizes_of x).buckets) e ∙ h.buckets;
        owned = ap (λ (x : PassSight). is_among place x.view.places.owned) e ∙ h.owned;
        calm = ap (λ (x : PassSight). x.view.commit.middle) e ∙ h.calm;
        original = tuple_in z word to h.original;
        reply = tuple_in z word to h.reply;
        all = ap (λ (x : PassSight). x.view.buckets.hooks) e ∙ ap (map (tuple_in z word to)) h.all;
        links = (tuple_link z word to h.original ∙ h.links.0, tuple_link z word to h.reply ∙ h.links.1);
        ups = (tuple_up z word to h.original ∙ h.ups.0, tuple_up z word to h.reply ∙ h.ups.1);
      }

  -- both links are ready
  pub down_original : is_down (original_link place) v.view.buckets.hooks ≡ true
  down_original = ap (is_down (original_link place)) h.all ∙ any_original place h.original h.reply h.links.0 h.links.1 (λ (k : Hook). not k.up) (ap not h.ups.0)

  pub down_reply : is_down (reply_link place) v.view.buckets.hooks ≡ true
  down_reply = ap (is_down (reply_link place)) h.all ∙ any_reply place h.original h.reply h.links.0 h.links.1 (λ (k : Hook). not k.up) (ap not h.ups.1)

  -- nothing that is not of a live entry is in the chains
  pub whole_links : (b : ℕ) → loose_of (sizes_of v) b each_link v.view ≡ 0
  whole_links b =
      ap (total (λ (k : Hook). (if k.up then side (sizes_of v) b each_link (chain_link k) else 0))) h.all
      ∙ (λ i. (if h.ups.0 i then side (sizes_of v) b each_link (chain_link h.original) else 0) + ((if h.ups.1 i then side (sizes_of v) b each_link (chain_link h.reply) else 0) + 0))

-- the only bucket
only_one : (z : Sizes) (p : Pair) → z.buckets ≡ 1 → has_bucket only_bucket (bucket_of z p) ≡ true
only_one z p e = ap (has_bucket only_bucket) (lone (mix (bit_xor (mix (bit_xor p.first z.seed)) p.second)) z.buckets e)
  where
    lone : (n m : ℕ) → m ≡ 1 → n % m ≡ 0
    lone n m one = ap (λ (k : ℕ). n % k) one ∙ omega arith

-- LINKED, AND UNLINKED

module _ (up : Bool) (place : ℕ) (v : PassSight) (h : HasTestPlace up place v) where
  pub ready_original : IsReady (sizes_of v) only_bucket (original_link place) v.view.buckets.hooks
  ready_original =
      let here : hook_of (original_link place) v.view.buckets.hooks ≡ h.has.original =
      ap (hook_of (original_link place)) h.has.all ∙ at_original place h.has.original h.has.reply h.has.links.0 h.has.links.1 in
      record {
        tuple = subst (λ (k : Hook). IsTuple k.pair.first k.pair.second) (sym here) h.original;
        its_bucket = only_one (sizes_of v) (hook_of (original_link place) v.view.buckets.hooks).pair h.has.buckets;
      }

  pub ready_reply : IsReady (sizes_of v) only_bucket (reply_link place) v.view.buckets.hooks
  ready_reply =
      let here : hook_of (reply_link place) v.view.buckets.hooks ≡ h.has.reply =
      ap (hook_of (reply_link place)) h.has.all ∙ at_reply place h.has.original h.has.reply h.has.links.0 h.has.links.1 in
      record {
        tuple = subst (λ (k : Hook). IsTuple k.pair.first k.pair.second) (sym here) h.reply;
        its_bucket = only_one (sizes_of v) (hook_of (reply_link place) v.view.buckets.hooks).pair h.has.buckets;
      }

module _ (place : ℕ) (v : PassSight) (h : HasTestPlace true place v) where
  pub raised_original : is_raised (original_link place) v.view.buckets.hooks ≡ true
  raised_original =
      ap (is_raised (original_link place)) h.has.all
      ∙ any_original place h.has.original h.has.reply h.has.links.0 h.has.links.1 (λ (k : Hook). k.up) h.has.ups.0

  pub raised_reply : is_raised (reply_link place) v.view.buckets.hooks ≡ true
  raised_reply =
      ap (is_raised (reply_link place)) h.has.all ∙ any_reply place h.has.original h.has.reply h.has.links.0 h.has.links.1 (λ (k : Hook). k.up) h.has.ups.1

-- what changes both hooks, but neither their links nor their pairs
module _ (old new : Bool) (place : ℕ) (v w : PassSight) (f : Hook → Hook) (same : (k : Hook) → ((f k).link ≡ k.link) × ((f k).pair ≡ k.pair))
    (first : (k : Hook) → k.link ≡ original_link place → (f k).up ≡ new) (second : (k : Hook) → k.link ≡ reply_link place → (f k).up ≡ new)
    (sizes : sizes_of w ≡ sizes_of v) (owned : w.view.places.owned ≡ v.view.places.owned) (calm : w.view.commit.middle ≡ v.view.commit.middle)
    (hooks : w.view.buckets.hooks ≡ map f v.view.buckets.hooks) where
  place_changed : HasTestPlace old place v → HasTestPlace new place w
  place_changed h = record {
    has = record {
      below = subst (λ (y : Sizes). place < y.entries) (sym sizes) h.has.below;
      buckets = ap (λ (y : Sizes). y.buckets) sizes ∙ h.has.buckets;
      owned = ap (is_among place) owned ∙ h.has.owned;
      calm = calm ∙ h.has.calm;
      original = f h.has.original;
      reply = f h.has.reply;
      all = hooks ∙ ap (map f) h.has.all;
      links = ((same h.has.original).0 ∙ h.has.links.0, (same h.has.reply).0 ∙ h.has.links.1);
      ups = (first h.has.original h.has.links.0, second h.has.reply h.has.links.1);
    };
    original = subst (λ (p : Pair). IsTuple p.first p.second) (sym (same h.has.original).1) h.original;
    reply = subst (λ (p : Pair). IsTuple p.first p.second) (sym (same h.has.reply).1) h.reply;
  }

-- two maps are one
map_twice : (f g : Hook → Hook) (hooks : List Hook) → map f (map g hooks) ≡ map (λ (k : Hook). f (g k)) hooks
map_twice f g [] = refl
map_twice f g (k ∷ ks) = ap (λ (xs : List Hook). f (g k) ∷ xs) (map_twice f g ks)

module _ (place : ℕ) (v w : PassSight) (sizes : sizes_of w ≡ sizes_of v) (owned : w.view.places.owned ≡ v.view.places.owned)
    (calm : w.view.commit.middle ≡ v.view.commit.middle) where
  apart : original_link place ≢ reply_link place
  apart e = omega (arith, e)

  pub place_raised : w.view.buckets.hooks ≡ map (raise (original_link place)) (map (raise (reply_link place)) v.view.buckets.hooks)
      → HasTestPlace false place v → HasTestPlace true place w
  place_raised hooks =
      place_changed false true place v w (λ (k : Hook). raise (original_link place) (raise (reply_link place) k))
      (λ k. (
        raise_link (original_link place) (raise (reply_link place) k) ∙ raise_link (reply_link place) k,
        raise_pair (original_link place) (raise (reply_link place) k) ∙ raise_pair (reply_link place) k,
      ))
      (λ k e. raise_up (original_link place) (raise (reply_link place) k) (raise_link (reply_link place) k ∙ e))
      (λ k e.
      ap (λ (y : Hook). y.up) (raise_else (original_link place) (raise (reply_link place) k) (λ o. apart (sym o ∙ raise_link (reply_link place) k ∙ e)))
      ∙ raise_up (reply_link place) k e)
      sizes owned calm (hooks ∙ map_twice (raise (original_link place)) (raise (reply_link place)) v.view.buckets.hooks)

  pub place_lowered : w.view.buckets.hooks ≡ map (lower (reply_link place)) (map (lower (original_link place)) v.view.buckets.hooks)
      → HasTestPlace true place v → HasTestPlace false place w
  place_lowered hooks =
      place_changed true false place v w (λ (k : Hook). lower (reply_link place) (lower (original_link place) k))
      (λ k. (
        lower_link (reply_link place) (lower (original_link place) k) ∙ lower_link (original_link place) k,
        lower_pair (reply_link place) (lower (original_link place) k) ∙ lower_pair (original_link place) k,
      ))
      (λ k e.
      ap (λ (y : Hook). y.up) (lower_else (reply_link place) (lower (original_link place) k) (λ o. apart (sym e ∙ sym (lower_link (original_link place) k) ∙ o)))
      ∙ lowered_up (original_link place) k e)
      (λ k e. lowered_up (reply_link place) (lower (original_link place) k) (lower_link (original_link place) k ∙ e))
      sizes owned calm (hooks ∙ map_twice (lower (reply_link place)) (lower (original_link place)) v.view.buckets.hooks)
    where
      lowered_up : (x : ℕ) (k : Hook) → k.link ≡ x → (lower x k).up ≡ false
      lowered_up x k e = ap (λ (b : Bool). (if b then record k { next = None; up = false } else k).up) (eq-eqb k.link x e)

-- BOTH TUPLES

-- the words of the first tuple
pub first_stored : (place : ℕ) (t : Tuple) (a b word word' : ℕ) (v u w : PassSight) → pair_of t ≡ record { first = a; second = b }
    → word ≡ first_word (sizes_of v) (original_link place) → word' ≡ second_word (sizes_of v) (original_link place) → HasLinks false place v
    → u ≡ record v { view = tuple_stored word a v.view } → w ≡ record u { view = tuple_stored word' b u.view } → HasOriginal t place w
unfolding links_stored
first_stored place t a b word word' v u w words first second h e f =
    let one = links_stored place v h word a u e in
    let two = links_stored place u one word' b w f in
    let z : Sizes = sizes_of v in
    record {
      has = two;
      pair = (λ i. (tuple_in (ap sizes_of e i) (second i) b (tuple_in z (first i) a h.original)).pair) ∙ one_pair z (original_link place) a b h.original h.links.0 ∙ sym words;
    }

-- those of the second one
pub second_stored : (place : ℕ) (t y : Tuple) (a b word word' : ℕ) (v u w : PassSight) → pair_of y ≡ record { first = a; second = b } → is_valid t ≡ true
    → is_valid y ≡ true → word ≡ first_word (sizes_of v) (reply_link place) → word' ≡ second_word (sizes_of v) (reply_link place) → HasOriginal t place v
    → u ≡ record v { view = tuple_stored word a v.view } → w ≡ record u { view = tuple_stored word' b u.view } → HasTestPlace false place w
unfolding links_stored
second_stored place t y a b word word' v u w words valid valid' first second h e f =
    let one = links_stored place v h.has word a u e in
    let two = links_stored place u one word' b w f in
    let z : Sizes = sizes_of v in
    record {
      has = two;
      original = subst (λ (p : Pair). IsTuple p.first p.second)
          (sym ((λ i. (tuple_in (ap sizes_of e i) (second i) b (tuple_in z (first i) a h.has.original)).pair)
          ∙ other_pair z (reply_link place) a b h.has.original (omega arith) (omega (arith, h.has.links.0)) (λ x. omega (arith, x, h.has.links.0)) ∙ h.pair))
          (record { tuple = t; valid = valid; words = refl });
      reply = subst (λ (p : Pair). IsTuple p.first p.second)
          (sym ((λ i. (tuple_in (ap sizes_of e i) (second i) b (tuple_in z (first i) a h.has.reply)).pair) ∙ one_pair z (reply_link place) a b h.has.reply h.has.links.1 ∙ sym words))
          (record { tuple = y; valid = valid'; words = refl });
    }

-- what leaves the hooks
pub place_stays : (up : Bool) (place : ℕ) (v w : PassSight) → sizes_of w ≡ sizes_of v → w.view.places.owned ≡ v.view.places.owned
    → w.view.commit.middle ≡ v.view.commit.middle → w.view.buckets.hooks ≡ v.view.buckets.hooks → HasTestPlace up place v → HasTestPlace up place w
place_stays up place v w sizes owned calm hooks h = record {
  has = record {
    below = subst (λ (y : Sizes). place < y.entries) (sym sizes) h.has.below;
    buckets = ap (λ (y : Sizes). y.buckets) sizes ∙ h.has.buckets;
    owned = ap (is_among place) owned ∙ h.has.owned;
    calm = calm ∙ h.has.calm;
    original = h.has.original;
    reply = h.has.reply;
    all = hooks ∙ h.has.all;
    links = h.has.links;
    ups = h.has.ups;
  };
  original = h.original;
  reply = h.reply;
}
