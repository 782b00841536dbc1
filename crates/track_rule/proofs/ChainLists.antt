-- Chains as lists: where a chain goes on behind entries that were passed, how often a link stands in it, and how long it is.
use Rattle.std.proofs.Common.{◌≡◌, ◌≢◌, ℕ, zero, suc, ◌+◌, ◌-◌, ◌*◌, ◌<◌, ◌≤◌, Bool, true, false, List, [], ◌∷◌, length, map, refl, sym, ap, subst, ◌∙◌, ⊎_elim, arith}
use Rattle.std.specs.Prelude.{slice_index, ◌==◌, ◌&&◌, ◌||◌, not, if◌then◌else◌, is_some}
use Rattle.std.proofs.lemmas.Bool.{and_parts, cases_Bool, cases_eq}
use mathlib.Core.Option.{some, some-injective, some-ne-none}
use lib.ListN.{get_elem?}
use Rattle.history_book.specs.declared.event.Event.{Event}
use Rattle.history_book.specs.declared.record.Record.{Record}
use Rattle.history_book.specs.declared.sizes.Sizes.{Sizes}
use Rattle.track_rule.specs.declared.view.ChainLink.{ChainLink}
use Rattle.track_rule.specs.declared.view.Hook.{Hook}
use Rattle.track_rule.specs.declared.view.View.{View}
use Rattle.track_rule.specs.BucketSteps.{IsChainOf, IsLinkIn, end_word, first_of, has_link, is_up_in}
use Rattle.track_rule.specs.Chains.{AreChains, IsChain, IsLinked, bucket_of, chain_link, hooks_at, is_at_link, links_in, loose_of, original_of, reply_of, side}
use Rattle.track_rule.specs.History.{records_after}
use Rattle.track_rule.specs.Layout.{next_word, place_of}
use Rattle.track_rule.specs.Links.{is_down, last_link}
use Rattle.track_rule.specs.Phases.{of_place}
use Rattle.track_rule.specs.Sums.{Each, bit, times, total}
use Rattle.track_rule.specs.Walks.{rev_onto}
use Rattle.track_rule.proofs.Counting.{few_places}
use Rattle.track_rule.proofs.Lists.{bit_both, bit_fails, bit_low, other_bit, same_bit, some_of}
use Rattle.track_rule.proofs.Sums.{total_gap, total_le, total_term}

-- what entries weigh that were passed, and those after them
pub total_rev : (f : ChainLink → ℕ) (passed rest : List ChainLink) → total f (rev_onto passed rest) ≡ total f passed + total f rest
total_rev f [] rest = omega arith
total_rev f (p ∷ ps) rest = omega (arith, total_rev f ps (p ∷ rest))

pub length_rev : (passed rest : List ChainLink) → length (rev_onto passed rest) ≡ length passed + length rest
length_rev [] rest = omega arith
length_rev (p ∷ ps) rest = omega (arith, length_rev ps (p ∷ rest))

module _ (z : Sizes) (ws : List ℕ) (b : ℕ) where
  -- behind what was passed the chain goes on
  pub chain_at : (passed rest : List ChainLink) → (head : ℕ) → head ≡ slice_index ws (end_word z b []) → IsChain z ws b head (rev_onto passed rest)
      → IsChain z ws b (slice_index ws (end_word z b passed)) rest
  chain_at [] rest head e h = subst (λ (n : ℕ). IsChain z ws b n rest) e h
  chain_at (p ∷ ps) rest head e h = (chain_at ps (p ∷ rest) head e h).2

  pub chain_first : (link : ℕ) (es : List ChainLink) → IsChain z ws b link es → link ≡ first_of es
  chain_first link [] h = h
  chain_first link (e ∷ es) h = h.0

  -- its entries are of the bucket
  pub chain_each : (link : ℕ) (es : List ChainLink) → IsChain z ws b link es → Each (IsLinked z ws b) es
  chain_each link [] h i x at = absurd (some-ne-none x (sym at))
  chain_each link (e ∷ es) h zero x at = subst (IsLinked z ws b) (some-injective e x at) h.1
  chain_each link (e ∷ es) h (suc i) x at = chain_each (slice_index ws (next_word z e.link)) es h.2 i x at

  pub links_each : (es : List ChainLink) → Each (IsLinked z ws b) es → Each (IsLinkIn z b) es
  links_each es h i x at =
      let k = h i x at in
      record { some = k.some; below = low_link x.link k.some k.below; placed = k.placed }
    where
      low_link : (x : ℕ) → 0 < x → place_of x < z.entries → x ≤ last_link z
      low_link x any low = omega (arith, any, low)

-- where no item counts, all count nothing
pub total_zero : {X : Type 0} (f : X → ℕ) (xs : List X) → Each (λ x. f x ≡ 0) xs → total f xs ≡ 0
total_zero f [] h = refl
total_zero f (x ∷ xs) h = omega (arith, h 0 x refl, total_zero f xs (λ i y at. h (suc i) y at))

times_map : (f : ChainLink → ℕ) (p : ℕ) (es : List ChainLink) → times p (map f es) ≡ total (λ e. bit (f e == p)) es
times_map f p [] = refl
times_map f p (e ∷ es) = omega (arith, times_map f p es)

length_links : (f : ChainLink → ℕ) (es : List ChainLink) → length (map f es) ≡ length es
length_links f [] = refl
length_links f (e ∷ es) = omega (arith, length_links f es)

-- a chain in which each link stands once at most is no longer than there are links
pub few_links : (z : Sizes) (b : ℕ) (es : List ChainLink) → Each (IsLinkIn z b) es → ((x : ℕ) → 0 < x → total (is_at_link x) es ≤ 1) → length es ≤ last_link z
few_links z b es each lone =
    omega (
      arith,
      few_places (last_link z) (map (λ (e : ChainLink). e.link - 1) es) []
          (λ p low. omega (
            arith,
            times_map (λ (e : ChainLink). e.link - 1) p es,
            lone (p + 1) (omega arith),
            total_le (λ (e : ChainLink). bit (e.link - 1 == p)) (is_at_link (p + 1)) es (λ i e at. next_bit e.link p (each i e at).some),
          ))
          (λ p above. omega (
            arith,
            times_map (λ (e : ChainLink). e.link - 1) p es,
            total_zero (λ (e : ChainLink). bit (e.link - 1 == p)) es
                (λ i e at. other_bit (e.link - 1) p (λ x. omega (arith, x, above, (each i e at).some, (each i e at).below))),
          )),
      length_links (λ (e : ChainLink). e.link - 1) es,
    )
  where
    next_bit : (x p : ℕ) → 0 < x → bit (x - 1 == p) ≤ bit (x == p + 1)
    next_bit x p any =
        ⊎_elim (λ (e : x - 1 ≡ p). omega (arith, same_bit x (p + 1) (omega (arith, e, any)), bit_low (x - 1 == p)))
        (λ (e : x - 1 ≢ p). omega (arith, other_bit (x - 1) p e))
        (cases_eq (x - 1) p)

-- in a bucket an entry weighs what it weighs, or nothing
pub side_low : (z : Sizes) (b : ℕ) (f : ChainLink → ℕ) (e : ChainLink) → side z b f e ≤ f e
side_low z b f e = pick (bucket_of z e.pair == b) (f e)
  where
    pick : (b : Bool) (n : ℕ) → (if b then n else 0) ≤ n
    pick true n = omega arith
    pick false n = omega arith

-- a record has a link where it has its place
record_links : (z : Sizes) (b x : ℕ) → 0 < x → (r : Record) → links_in z b (is_at_link x) r ≤ of_place (place_of x) r
record_links z b x any r =
    let first = side_low z b (is_at_link x) (original_of r) in
    let second = side_low z b (is_at_link x) (reply_of r) in
    ⊎_elim
    (λ (e : 1 + 2 * r.place ≡ x).
    omega (
      arith,
      first,
      second,
      same_bit (1 + 2 * r.place) x e,
      other_bit (2 + 2 * r.place) x (λ k. omega (arith, k, e)),
      same_bit r.place (place_of x) (omega (arith, e)),
    ))
    (λ (e : 1 + 2 * r.place ≢ x).
    ⊎_elim
    (λ (k : 2 + 2 * r.place ≡ x).
    omega (arith, first, second, other_bit (1 + 2 * r.place) x e, same_bit (2 + 2 * r.place) x k, same_bit r.place (place_of x) (omega (arith, k))))
    (λ (k : 2 + 2 * r.place ≢ x). omega (arith, first, second, other_bit (1 + 2 * r.place) x e, other_bit (2 + 2 * r.place) x k))
    (cases_eq (2 + 2 * r.place) x))
    (cases_eq (1 + 2 * r.place) x)

-- a hook counts in a chain where it is up, and of this bucket
hook_weight : Sizes → ℕ → ℕ → Hook → ℕ
hook_weight z b x h = (if h.up then side z b (is_at_link x) (chain_link h) else 0)

hook_low : (z : Sizes) (b x : ℕ) (h : Hook) → (if h.up then side z b (is_at_link x) (chain_link h) else 0) ≤ bit (h.link == x)
hook_low z b x h = pick h.up (bucket_of z h.pair == b) (bit (h.link == x))
  where
    pick : (u b : Bool) (n : ℕ) → (if u then (if b then n else 0) else 0) ≤ n
    pick true true n = omega arith
    pick true false n = omega arith
    pick false b n = omega arith

pub loose_low : (z : Sizes) (b x : ℕ) (v : View) → loose_of z b (is_at_link x) v ≤ hooks_at x v
loose_low z b x v = total_le (λ (h : Hook). (if h.up then side z b (is_at_link x) (chain_link h) else 0)) (λ (h : Hook). bit (h.link == x)) v.buckets.hooks
    (λ i h at. hook_low z b x h)

-- one that is down counts less
down_low : (z : Sizes) (b x : ℕ) (hooks : List Hook) → is_down x hooks ≡ true
    → total (λ (h : Hook). (if h.up then side z b (is_at_link x) (chain_link h) else 0)) hooks + 1 ≤ total (λ (h : Hook). bit (h.link == x)) hooks
down_low z b x [] e = cc
down_low z b x (h ∷ hs) e =
    ⊎_elim
    (λ (t : (h.link == x && not h.up) ≡ true).
    let parts = and_parts (h.link == x) (not h.up) t in
    omega (
      arith,
      ap bit parts.0,
      off h.up (side z b (is_at_link x) (chain_link h)) parts.1,
      total_le (λ (h : Hook). (if h.up then side z b (is_at_link x) (chain_link h) else 0)) (λ (h : Hook). bit (h.link == x)) hs (λ i h at. hook_low z b x h),
    ))
    (λ (t : (h.link == x && not h.up) ≡ false).
    omega (arith, hook_low z b x h, down_low z b x hs (sym (ap (λ (k : Bool). k || is_down x hs) t) ∙ e)))
    (cases_Bool (h.link == x && not h.up))
  where
    off : (u : Bool) (n : ℕ) → not u ≡ true → (if u then n else 0) ≡ 0
    off true n e = cc
    off false n e = refl

-- and one that is up in this bucket counts
up_some : (z : Sizes) (b x : ℕ) (hooks : List Hook) → is_up_in z b x hooks ≡ true
    → 1 ≤ total (λ (h : Hook). (if h.up then side z b (is_at_link x) (chain_link h) else 0)) hooks
up_some z b x [] e = cc
up_some z b x (h ∷ hs) e =
    ⊎_elim
    (λ (t : (h.link == x && (h.up && bucket_of z h.pair == b)) ≡ true).
    let parts = and_parts (h.link == x) (h.up && bucket_of z h.pair == b) t in
    let more = and_parts h.up (bucket_of z h.pair == b) parts.1 in
    omega (arith, on h.up (bucket_of z h.pair == b) (bit (h.link == x)) more.0 more.1, ap bit parts.0))
    (λ (t : (h.link == x && (h.up && bucket_of z h.pair == b)) ≡ false).
    omega (arith, up_some z b x hs (sym (ap (λ (k : Bool). k || is_up_in z b x hs) t) ∙ e)))
    (cases_Bool (h.link == x && (h.up && bucket_of z h.pair == b)))
  where
    on : (u b : Bool) (n : ℕ) → u ≡ true → b ≡ true → (if u then (if b then n else 0) else 0) ≡ n
    on u b n e f = rw (e, f) refl

-- what weighs less weighs less in a bucket, and what weighs nothing weighs nothing there
pub side_le : (z : Sizes) (b : ℕ) (f g : ChainLink → ℕ) (e : ChainLink) → f e ≤ g e → side z b f e ≤ side z b g e
side_le z b f g e le = low (bucket_of z e.pair == b)
  where
    low : (k : Bool) → (if k then f e else 0) ≤ (if k then g e else 0)
    low true = le
    low false = omega arith

pub loose_zero : (z : Sizes) (b : ℕ) (f : ChainLink → ℕ) (hooks : List Hook) → Each (λ h. f (chain_link h) ≡ 0) hooks
    → total (λ (h : Hook). (if h.up then side z b f (chain_link h) else 0)) hooks ≡ 0
loose_zero z b f hooks none =
    total_zero (λ (h : Hook). (if h.up then side z b f (chain_link h) else 0)) hooks (λ i h at. off h.up (bucket_of z h.pair == b) (f (chain_link h)) (none i h at))
  where
    off : (u k : Bool) (n : ℕ) → n ≡ 0 → (if u then (if k then n else 0) else 0) ≡ 0
    off true true n e = e
    off true false n e = refl
    off false k n e = refl

module _ (z : Sizes) (log : List Event) (ws : List ℕ) (vs : List View) (chains : ℕ → List ChainLink) (h : AreChains z log ws vs chains)
    (b : ℕ) (below : b < z.buckets) where
  -- a link stands in a chain once at most
  pub alone : (x : ℕ) → 0 < x → total (is_at_link x) (chains b) ≤ 1
  alone x any =
      omega (
        arith,
        h.chained b below (is_at_link x),
        h.lone x any,
        total_le (links_in z b (is_at_link x)) (of_place (place_of x)) (records_after log) (λ i r at. record_links z b x any r),
        total_le (loose_of z b (is_at_link x)) (hooks_at x) vs (λ i v at. loose_low z b x v),
      )

  -- and one that is down in none
  pub unlinked : (x i : ℕ) (v : View) → get_elem? vs i ≡ some v → 0 < x → is_down x v.buckets.hooks ≡ true → total (is_at_link x) (chains b) ≡ 0
  unlinked x i v at any down =
      omega (
        arith,
        h.chained b below (is_at_link x),
        h.lone x any,
        total_le (links_in z b (is_at_link x)) (of_place (place_of x)) (records_after log) (λ i r at. record_links z b x any r),
        total_gap (loose_of z b (is_at_link x)) (hooks_at x) vs i v at (λ i v at. loose_low z b x v),
        down_low z b x v.buckets.hooks down,
      )

  -- a link of a pass names no id
  pub unnamed : (x i : ℕ) (v : View) → get_elem? vs i ≡ some v → 0 < x → 0 < hooks_at x v → total (λ (e : ChainLink). bit (e.link == x && is_some e.id)) (chains b) ≡ 0
  unnamed x i v at any mine =
      omega (
        arith,
        h.chained b below (λ (e : ChainLink). bit (e.link == x && is_some e.id)),
        h.lone x any,
        total_term (hooks_at x) vs i v at,
        total_le (links_in z b (λ (e : ChainLink). bit (e.link == x && is_some e.id))) (of_place (place_of x)) (records_after log) (λ j r there. omega (
          arith,
          record_links z b x any r,
          side_le z b (λ (e : ChainLink). bit (e.link == x && is_some e.id)) (is_at_link x) (original_of r) (bit_both (1 + 2 * r.place == x) true),
          side_le z b (λ (e : ChainLink). bit (e.link == x && is_some e.id)) (is_at_link x) (reply_of r) (bit_both (2 + 2 * r.place == x) true),
        )),
        total_zero (loose_of z b (λ (e : ChainLink). bit (e.link == x && is_some e.id))) vs (λ j u there.
            loose_zero z b (λ (e : ChainLink). bit (e.link == x && is_some e.id)) u.buckets.hooks (λ k m at'. bit_fails (m.link == x))),
      )

  -- one that is up in this bucket stands in its chain
  pub linked_up : (x i : ℕ) (v : View) → get_elem? vs i ≡ some v → is_up_in z b x v.buckets.hooks ≡ true → has_link x (chains b) ≡ true
  linked_up x i v at up =
      some_of (λ (e : ChainLink). e.link == x) (chains b) (omega (
        arith,
        h.chained b below (is_at_link x),
        total_term (loose_of z b (is_at_link x)) vs i v at,
        up_some z b x v.buckets.hooks up,
      ))

  pub chain_of : IsChainOf z b (chains b)
  chain_of =
      let each = links_each z ws b (chains b) (chain_each z ws b (slice_index ws (end_word z b [])) (chains b) (h.linked b below)) in
      record { each = each; few = few_links z b (chains b) each alone; ordered = h.ordered b below }
