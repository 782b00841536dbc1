-- A pass stores in the words of a link of its own that is in no chain: a word of the tuple, or the next link.
use Rattle.std.proofs.Common.{◌⊎◌, ◌≡◌, ◌≢◌, ℕ, ◌+◌, ◌%◌, ◌<◌, ◌≤◌, Bool, true, false, cond, Some, List, [], ◌∷◌, map, length, refl, sym, ap, subst, ◌∙◌, ⊎_elim, inl, inr, arith, set}
use Rattle.std.specs.Prelude.{slice_index, slice_set, ◌==◌, ◌&&◌, ◌||◌, not, if◌then◌else◌}
use Rattle.std.specs.List.{list_any}
use Rattle.std.proofs.lemmas.Bool.{and_parts, cases_Bool, cases_eq, cond_both, eq-eqb, eqb-true, false≢true, ne_eqb, or_parts}
use Rattle.std.proofs.lemmas.List.{length-set}
use mathlib.Core.Option.{none, some}
use lib.ListN.{get_elem?}
use Rattle.atomic_table.specs.Table.{Allows, State, keeps as unchanged, step}
use Rattle.history_book.specs.declared.event.Event.{Event}
use Rattle.history_book.specs.declared.sizes.Sizes.{Sizes}
use Rattle.track_rule.specs.declared.slot.Slot.{Slot}
use Rattle.track_rule.specs.declared.view.ChainLink.{ChainLink}
use Rattle.track_rule.specs.declared.view.Hook.{Hook}
use Rattle.track_rule.specs.declared.view.View.{View}
use Rattle.track_rule.specs.declared.view.Walk.{Walk}
use Rattle.track_rule.specs.BucketSteps.{StoreTupleStep, aim, aimed, is_own_tuple, strung, tuple_in, tuple_stored}
use Rattle.track_rule.specs.Chains.{IsChain, chain_in, chain_link, hooks_at, links_in, loose_of, shuts_of, side, each_link}
use Rattle.track_rule.specs.History.{records_after}
use Rattle.track_rule.specs.Free.{is_among}
use Rattle.track_rule.specs.KeptWords.{link_of, shows_held}
use Rattle.track_rule.specs.Layout.{first_word, gen_at, head_word, next_word, place_of, second_word}
use Rattle.track_rule.specs.Links.{HasHooks, IsHook, IsOwned, hook_of, hooks_of, is_down, last_link, is_up}
use Rattle.track_rule.specs.Readings.{stored}
use Rattle.track_rule.specs.References.{takes}
use Rattle.track_rule.specs.Rule.{RuleHolds, IsKept, Ledger}
use Rattle.track_rule.specs.Sums.{Each, bit, total, times}
use Rattle.track_rule.specs.Walks.{IsWalk}
use Rattle.track_rule.proofs.LastRead.{stored_on}
use Rattle.track_rule.proofs.BucketMoves.{bucket_moved}
use Rattle.track_rule.proofs.ChainLists.{chain_each, unlinked}
use Rattle.track_rule.proofs.ChainWords.{IsString, SameAt, chain_local, each_other_link, first_head, first_next, first_second, next_head, one_first, one_next, one_second, second_head, second_next, string_first, string_gens, string_next, string_rest, string_second, word_else, word_here}
use Rattle.track_rule.proofs.HookLists.{each_change, hook_test, hook_there, links_kept, some_hook, total_change}
use Rattle.track_rule.proofs.KeptWords.{SamePairs, place_link, some_link}
use Rattle.track_rule.proofs.Lists.{total_some}
use Rattle.track_rule.proofs.Sums.{each_other, each_put, total_same, total_term, total_two}
use Rattle.track_rule.proofs.UpHooks.{one_fewer, up_map}

-- a note stays true where no generation changes, and no chain
pub walk_gens : (z : Sizes) (ws ws' : List ℕ) (chains : ℕ → List ChainLink) (front : List Event) (m : Walk)
    → ((b : ℕ) → b < z.buckets → gen_at z ws' b ≡ gen_at z ws b) → IsWalk z ws chains front m → IsWalk z ws' chains front m
walk_gens z ws ws' chains front m same w = record {
  bucket = w.bucket;
  least = omega (arith, w.least, same m.bucket w.bucket);
  stands = λ here even. w.stands (sym (same m.bucket w.bucket) ∙ here) even;
  known = λ point at. let k = w.known point at in record { seen = k.seen; live = λ here even. k.live (sym (same m.bucket w.bucket) ∙ here) even };
  gone = λ passed even. omega (arith, w.gone passed even, same m.bucket w.bucket);
}

-- the word is one of this link alone
pub record IsOf (z : Sizes) (word x : ℕ) : Type 0 where
  pub string : IsString z word
  pub heads : (b : ℕ) → b < z.buckets → head_word z b ≢ word
  pub others : (y : ℕ) → 0 < y → y ≢ x → (first_word z y ≢ word) × (second_word z y ≢ word) × (next_word z y ≢ word)

pub of_next : (z : Sizes) (x : ℕ) → 0 < x → IsOf z (next_word z x) x
of_next z x any = record {
  string = string_next z x;
  heads = λ b below e. next_head z x b below (sym e);
  others = λ y some_y other. (first_next z y x, second_next z y x, λ e. other (one_next z y x some_y any e));
}

of_first : (z : Sizes) (x : ℕ) → 0 < x → IsOf z (first_word z x) x
of_first z x any = record {
  string = string_first z x;
  heads = λ b below e. first_head z x b below (sym e);
  others = λ y some_y other. ((λ e. other (one_first z y x some_y any e)), (λ e. first_second z x y (sym e)), λ e. first_next z x y (sym e));
}

of_second : (z : Sizes) (x : ℕ) → 0 < x → IsOf z (second_word z x) x
of_second z x any = record {
  string = string_second z x;
  heads = λ b below e. second_head z x b below (sym e);
  others = λ y some_y other. (first_second z y x, (λ e. other (one_second z y x some_y any e)), λ e. second_next z x y (sym e));
}

-- the words of another link are as they were
pub other_at : (z : Sizes) (ws : List ℕ) (word to x : ℕ) → IsOf z word x → (y : ℕ) → 0 < y → y ≢ x → SameAt z ws (slice_set ws word to) y
other_at z ws word to x of y any other =
    let t = of.others y any other in
    record { first = word_else z ws word to (first_word z y) t.0; second = word_else z ws word to (second_word z y) t.1; next = word_else z ws word to (next_word z y) t.2 }

-- a hook at another link stays one
pub hook_stays : (z : Sizes) (ws ws' : List ℕ) (h : Hook) → SameAt z ws ws' h.link → IsHook z ws h → IsHook z ws' h
hook_stays z ws ws' h same k = record {
  some = k.some;
  below = k.below;
  first = same.first ∙ k.first;
  second = same.second ∙ k.second;
  next = λ n down e. same.next ∙ k.next n down e;
}

-- hooks at other links
pub hooks_elsewhere : (x : ℕ) (hooks : List Hook) → hooks_of x hooks ≡ 0 → Each (λ h. h.link ≢ x) hooks
hooks_elsewhere x hooks zero_x i h at = λ e. omega (arith, zero_x, total_term (λ (k : Hook). bit (k.link == x)) hooks i h at, ap (λ (k : ℕ). bit (k == x)) e, ap bit (eq-eqb x x refl))

-- where one hook at the link changes, and is in no chain before and after
module _ (l : Ledger) (s : State Slot View) (id : ℕ) (v : View) (h : IsKept v.passes.sizes l s) (at : get_elem? s.views id ≡ some v)
    (has_some : 0 < v.passes.shares) (x : ℕ) (down : is_down x v.buckets.hooks ≡ true) where
  pub own_link : (0 < x) × (x ≤ last_link v.passes.sizes) × (0 < hooks_of x v.buckets.hooks) × (hooks_of x v.buckets.hooks ≤ 1) × ((hook_of x v.buckets.hooks).up ≡ false)
  own_link =
      let any : 0 < hooks_of x v.buckets.hooks = some_hook x (λ (k : Hook). not k.up) v.buckets.hooks down in
      let there = hook_there x (IsHook v.passes.sizes s.words) v.buckets.hooks any (h.links.hooks id v at).each in
      let some_x : 0 < x = omega (arith, there.0.some, there.1) in
      let one : hooks_of x v.buckets.hooks ≤ 1 = omega (arith, h.chains.lone x some_x, total_term (hooks_at x) s.views id v at) in
      (some_x, omega (arith, there.0.below, there.1), any, one, was_false (hook_of x v.buckets.hooks).up (hook_test x (λ (k : Hook). not k.up) v.buckets.hooks one down))
    where
      was_false : (b : Bool) → not b ≡ true → b ≡ false
      was_false true e = absurd (false≢true e)
      was_false false e = refl

  pub own_moved : (word to : ℕ) (f : Hook → Hook) → word < length s.words → IsOf v.passes.sizes word x
      → Each (λ k. k.link ≢ x → f k ≡ k) v.buckets.hooks → ((k : Hook) → ((f k).link ≡ k.link) × ((f k).up ≡ k.up))
      → ((k : Hook) → IsHook v.passes.sizes s.words k → IsHook v.passes.sizes (slice_set s.words word to) (f k))
      → ((y : ℕ) → 0 < y → y ≤ last_link v.passes.sizes → slice_index (slice_set s.words word to) (next_word v.passes.sizes y) ≤ last_link v.passes.sizes)
      → ((p : ℕ) → 0 < total (shows_held p) s.views → SamePairs v.passes.sizes s.words (slice_set s.words word to) p)
      → IsKept v.passes.sizes l (record {
        words = slice_set s.words word to;
        homes = s.homes;
        views = set s.views id (strung word to (record v.buckets { hooks = map f v.buckets.hooks }) v);
      })
  own_moved word to f low of others keeps_link hook nexts pairs =
      let z : Sizes = v.passes.sizes in
      let new : List ℕ = slice_set s.words word to in
      let w : View = strung word to (record v.buckets { hooks = map f v.buckets.hooks }) v in
      let own = own_link in
      bucket_moved z l s id v w new l.chains h at (record { made = record { passes = refl; own = refl; gathered = refl }; commit = refl; expected = refl }) has_some refl refl refl
      (string_rest z s.words word to of.string) (length-set s.words word to) pairs
      (record {
        linked = λ b below.
            subst (λ (k : ℕ). IsChain z new b k (l.chains b)) (sym (word_else z s.words word to (head_word z b) (of.heads b below)))
            (chain_local z s.words new b (slice_index s.words (head_word z b)) (l.chains b) (h.chains.linked b below)
            (λ i e at'.
            other_at z s.words word to x of e.link (chain_each z s.words b (slice_index s.words (head_word z b)) (l.chains b) (h.chains.linked b below) i e at').some
            (each_other_link x (l.chains b) (unlinked z l.log s.words s.views l.chains h.chains b below x id v at own.0 down) i e at')));
        ordered = h.chains.ordered;
        gens = λ b below.
            ap (λ (k : ℕ). k % 2) (string_gens z s.words word to of.string b below) ∙ h.chains.gens b below ∙ sym (total_same (shuts_of b) s.views id v w at refl);
        mine = λ b below. each_put (λ u. 0 < shuts_of b u → chain_in b u.buckets.shut ≡ l.chains b) s.views id w (h.chains.mine b below) (h.chains.mine b below id v at);
        chained = λ b below weight.
            h.chains.chained b below weight
            ∙ ap (λ (k : ℕ). total (links_in z b weight) (records_after l.log) + k) (sym (total_same (loose_of z b weight) s.views id v w at (loose_stays b weight)));
        lone = λ link any. omega (
          arith,
          h.chains.lone link any,
          total_same (hooks_at link) s.views id v w at (links_kept link f (λ k. (keeps_link k).0) v.buckets.hooks),
        );
        home = each_put (λ (u : View). (c : ℕ) → c < z.buckets → 0 < loose_of z c each_link u → 0 < shuts_of c u) s.views id w h.chains.home
            (λ c under any. omega (arith, h.chains.home id v at c under (omega (arith, any, loose_stays c each_link))));
      })
      (record {
        heads = λ b below. omega (arith, h.links.heads b below, word_else z s.words word to (head_word z b) (of.heads b below));
        nexts = nexts;
        gens = λ b below. omega (arith, h.links.gens b below, string_gens z s.words word to of.string b below);
        hooks = each_other (λ u. HasHooks z new u.places u.buckets.hooks) s.views id w
            (λ j u apart at'.
            let k = h.links.hooks j u at' in
            let elsewhere : hooks_of x u.buckets.hooks ≡ 0 = omega (arith, h.chains.lone x own.0, total_two (hooks_at x) s.views id j v u at at' apart, own.2) in
            record {
              each = λ i y there. hook_stays z s.words new y (other_at z s.words word to x of y.link (k.each i y there).some (hooks_elsewhere x u.buckets.hooks elsewhere i y there)) (k.each i y there);
              held = k.held;
              linked = k.linked;
              one = k.one;
            })
            (let k = h.links.hooks id v at in
            record {
              each = each_change (IsHook z s.words) (IsHook z new) f v.buckets.hooks k.each hook;
              held = λ link any. k.held link (omega (arith, any, links_kept link f (λ y. (keeps_link y).0) v.buckets.hooks));
              linked = each_change (IsOwned v.places) (IsOwned v.places) f v.buckets.hooks k.linked (λ y is up.
                  subst (λ (n : ℕ). 0 < times (place_of n) v.places.owned + times (place_of n) v.places.ended) (sym (keeps_link y).0) (is (sym (keeps_link y).1 ∙ up)));
              one = one_fewer v.buckets.hooks (map f v.buckets.hooks)
                  (λ q e. up_map f (λ y up. ((keeps_link y).0, sym (keeps_link y).1 ∙ up)) q v.buckets.hooks e) k.one;
            });
      })
      (record {
        each = each_put (λ (u : View). (m : Walk) → u.walk ≡ Some m → IsWalk z new l.chains u.seen.front m) s.views id w
            (λ i u at' m e. walk_gens z s.words new l.chains u.seen.front m (string_gens z s.words word to of.string) (h.walks.each i u at' m e))
            (λ m e. walk_gens z s.words new l.chains v.seen.front m (string_gens z s.words word to of.string) (h.walks.each id v at m e));
      })
      (stored_on z l.log s.words s.views id word to v w h.passes at has_some low (record { reading = stored word to; more = refl; word = refl; value = refl }) h.readings)
      (h.commits id v at)
    where
      loose_stays : (b : ℕ) (weight : ChainLink → ℕ)
          → total (λ (k : Hook). (if k.up then side v.passes.sizes b weight (chain_link k) else 0)) (map f v.buckets.hooks)
          ≡ total (λ (k : Hook). (if k.up then side v.passes.sizes b weight (chain_link k) else 0)) v.buckets.hooks
      loose_stays b weight =
          let own = own_link in
          let k : Hook = hook_of x v.buckets.hooks in
          let F : Hook → ℕ = λ (k : Hook). (if k.up then side v.passes.sizes b weight (chain_link k) else 0) in
          omega (
            arith,
            total_change x f (λ (k : Hook). (if k.up then side v.passes.sizes b weight (chain_link k) else 0)) v.buckets.hooks others own.2 own.3,
            ap (λ (u : Bool). if u then side v.passes.sizes b weight (chain_link k) else 0) own.4,
            ap (λ (u : Bool). if u then side v.passes.sizes b weight (chain_link (f k)) else 0) ((keeps_link k).1 ∙ own.4),
          )

-- the next link of a link in no chain
pub aims_kept : (l : Ledger) (s : State Slot View) (id : ℕ) (v : View) (x to : ℕ) (h : IsKept v.passes.sizes l s) → get_elem? s.views id ≡ some v
    → 0 < v.passes.shares → is_down x v.buckets.hooks ≡ true → to ≤ last_link v.passes.sizes
    → IsKept v.passes.sizes l (record {
      words = slice_set s.words (next_word v.passes.sizes x) to;
      homes = s.homes;
      views = set s.views id (strung (next_word v.passes.sizes x) to (aimed x to v.buckets) v);
    })
aims_kept l s id v x to h at has_some down low =
    let z : Sizes = v.passes.sizes in
    let own = own_link l s id v h at has_some x down in
    let here : slice_index (slice_set s.words (next_word z x) to) (next_word z x) ≡ to = word_here z s.words (next_word z x) to (omega (arith, h.count, own.0, own.1)) in
    own_moved l s id v h at has_some x down (next_word z x) to (aim x to) (omega (arith, h.count, own.0, own.1)) (of_next z x own.0)
    (λ i k there other. ap (λ (t : Bool). if t then record k { next = Some to } else k) (ne_eqb k.link x other))
    (λ k. cond_both (k.link == x) (record k { next = Some to }) k (λ y. (y.link ≡ k.link) × (y.up ≡ k.up)) (λ e. (refl, refl)) (λ e. (refl, refl)))
    (λ k is.
    cond_both (k.link == x) (record k { next = Some to }) k (IsHook z (slice_set s.words (next_word z x) to))
    (λ e.
    let same : k.link ≡ x = eqb-true k.link x e in
    record {
      some = is.some;
      below = is.below;
      first = word_else z s.words (next_word z x) to (first_word z k.link) (first_next z k.link x) ∙ is.first;
      second = word_else z s.words (next_word z x) to (second_word z k.link) (second_next z k.link x) ∙ is.second;
      next = λ n off eq. ap (λ (y : ℕ). slice_index (slice_set s.words (next_word z x) to) (next_word z y)) same ∙ here ∙ some_same to n eq;
    })
    (λ e.
    let other : k.link ≢ x = λ same. false≢true (sym e ∙ eq-eqb k.link x same) in
    hook_stays z s.words (slice_set s.words (next_word z x) to) k (other_at z s.words (next_word z x) to x (of_next z x own.0) k.link is.some other) is))
    (λ y any under.
    ⊎_elim
    (λ (e : y ≡ x). omega (arith, ap (λ (k : ℕ). slice_index (slice_set s.words (next_word z x) to) (next_word z k)) e, here, low))
    (λ (e : y ≢ x). omega (arith, (other_at z s.words (next_word z x) to x (of_next z x own.0) y any e).next, h.links.nexts y any under))
    (cases_eq y x))
    (λ p any d. record {
      first = word_else z s.words (next_word z x) to (first_word z (link_of d p)) (first_next z (link_of d p) x);
      second = word_else z s.words (next_word z x) to (second_word z (link_of d p)) (second_next z (link_of d p) x);
    })
  where
    some_same : (a b : ℕ) → Some a ≡ Some b → a ≡ b
    some_same a b e = cc

-- a word of the tuple of such a link
tuple_hook : (z : Sizes) (ws : List ℕ) (word to : ℕ) → word < length ws → ((y : ℕ) → next_word z y ≢ word) → (k : Hook) → IsHook z ws k → IsHook z (slice_set ws word to) (tuple_in z word to k)
tuple_hook z ws word to low apart k is =
    cond_both (first_word z k.link == word) (record k { pair = record k.pair { first = to } }) (cond (second_word z k.link == word) (record k { pair = record k.pair { second = to } }) k) (IsHook z (slice_set ws word to))
    (λ e.
    let here : first_word z k.link ≡ word = eqb-true (first_word z k.link) word e in
    record {
      some = is.some;
      below = is.below;
      first = ap (slice_index (slice_set ws word to)) here ∙ word_here z ws word to low;
      second = word_else z ws word to (second_word z k.link) (λ t. first_second z k.link k.link (here ∙ sym t)) ∙ is.second;
      next = λ n off eq. word_else z ws word to (next_word z k.link) (λ t. first_next z k.link k.link (here ∙ sym t)) ∙ is.next n off eq;
    })
    (λ e.
    let not_first : first_word z k.link ≢ word = λ t. false≢true (sym e ∙ eq-eqb (first_word z k.link) word t) in
    cond_both (second_word z k.link == word) (record k { pair = record k.pair { second = to } }) k (IsHook z (slice_set ws word to))
    (λ f.
    let here : second_word z k.link ≡ word = eqb-true (second_word z k.link) word f in
    record {
      some = is.some;
      below = is.below;
      first = word_else z ws word to (first_word z k.link) not_first ∙ is.first;
      second = ap (slice_index (slice_set ws word to)) here ∙ word_here z ws word to low;
      next = λ n off eq. word_else z ws word to (next_word z k.link) (λ t. second_next z k.link k.link (here ∙ sym t)) ∙ is.next n off eq;
    })
    (λ f. record {
      some = is.some;
      below = is.below;
      first = word_else z ws word to (first_word z k.link) not_first ∙ is.first;
      second = word_else z ws word to (second_word z k.link) (λ t. false≢true (sym f ∙ eq-eqb (second_word z k.link) word t)) ∙ is.second;
      next = λ n off eq. word_else z ws word to (next_word z k.link) (apart k.link) ∙ is.next n off eq;
    }))

-- the words of the links of another place
other_pairs : (z : Sizes) (ws : List ℕ) (word to x p : ℕ) → IsOf z word x → p ≢ place_of x → SamePairs z ws (slice_set ws word to) p
other_pairs z ws word to x p of other d =
    let t = other_at z ws word to x of (link_of d p) (some_link d p) (λ e. other (sym (place_link d p) ∙ ap place_of e)) in
    record { first = t.first; second = t.second }

-- the link of such a word
own_tuple : (z : Sizes) (ws : List ℕ) (word : ℕ) (owned : List ℕ) (all hooks : List Hook) → ((q : ℕ) → is_up q all ≡ false → is_up q hooks ≡ false)
    → list_any (λ (h : Hook). (not (is_up (place_of h.link) all) && (first_word z h.link == word || second_word z h.link == word)) && is_among (place_of h.link) owned) hooks ≡ true
    → (x : ℕ) × (is_down x hooks ≡ true) × ((word ≡ first_word z x) ⊎ (word ≡ second_word z x)) × (is_among (place_of x) owned ≡ true)
own_tuple z ws word owned all [] within e = absurd (false≢true e)
own_tuple z ws word owned all (k ∷ ks) within e =
    ⊎_elim
    (λ (t : ((not (is_up (place_of k.link) all) && (first_word z k.link == word || second_word z k.link == word)) && is_among (place_of k.link) owned) ≡ true).
    let all_parts = and_parts (not (is_up (place_of k.link) all) && (first_word z k.link == word || second_word z k.link == word)) (is_among (place_of k.link) owned) t in
    let parts = and_parts (not (is_up (place_of k.link) all)) (first_word z k.link == word || second_word z k.link == word) all_parts.0 in
    let down : not k.up ≡ true = ap not (down_here (within (place_of k.link) (was_false (is_up (place_of k.link) all) parts.0))) in (
      k.link,
      ap (λ (b : Bool). (k.link == k.link && b) || is_down k.link ks) down ∙ ap (λ (b : Bool). (b && true) || is_down k.link ks) (eq-eqb k.link k.link refl),
      either_word (first_word z k.link) (second_word z k.link) word parts.1,
      all_parts.1,
    ))
    (λ (t : ((not (is_up (place_of k.link) all) && (first_word z k.link == word || second_word z k.link == word)) && is_among (place_of k.link) owned) ≡ false).
    let rest = own_tuple z ws word owned all ks (λ q calm. (or_parts (place_of k.link == q && k.up) (is_up q ks) (within q calm)).1)
    (sym (ap (λ (b : Bool). b || list_any
    (λ (h : Hook). (not (is_up (place_of h.link) all) && (first_word z h.link == word || second_word z h.link == word)) && is_among (place_of h.link) owned) ks) t) ∙ e) in
    (rest.0, down_more rest.0 k.link (not k.up) ks rest.1, rest.2, rest.3))
    (cases_Bool ((not (is_up (place_of k.link) all) && (first_word z k.link == word || second_word z k.link == word)) && is_among (place_of k.link) owned))
  where
    was_false : (b : Bool) → not b ≡ true → b ≡ false
    was_false true h = absurd (false≢true h)
    was_false false h = refl

    down_here : is_up (place_of k.link) (k ∷ ks) ≡ false → k.up ≡ false
    down_here calm =
        let both : (place_of k.link == place_of k.link && k.up) ≡ false = (or_parts (place_of k.link == place_of k.link && k.up) (is_up (place_of k.link) ks) calm).0 in
        sym (ap (λ (b : Bool). b && k.up) (eq-eqb (place_of k.link) (place_of k.link) refl)) ∙ both

    either_word : (a b w : ℕ) → (a == w || b == w) ≡ true → (w ≡ a) ⊎ (w ≡ b)
    either_word a b w e =
        ⊎_elim (λ (t : (a == w) ≡ true). inl (sym (eqb-true a w t)))
        (λ (t : (a == w) ≡ false). inr (sym (eqb-true b w (sym (ap (λ (k : Bool). k || b == w) t) ∙ e)))) (cases_Bool (a == w))

    down_more : (x y : ℕ) (b : Bool) (hooks : List Hook) → is_down x hooks ≡ true → ((y == x && b) || is_down x hooks) ≡ true
    down_more x y b hooks e = ap (λ (k : Bool). (y == x && b) || k) e ∙ or_true (y == x && b)
      where
        or_true : (a : Bool) → (a || true) ≡ true
        or_true true = refl
        or_true false = refl

tuples_kept : (l : Ledger) (s : State Slot View) (id : ℕ) (v : View) (x word to : ℕ) (h : IsKept v.passes.sizes l s) → get_elem? s.views id ≡ some v
    → 0 < v.passes.shares → is_down x v.buckets.hooks ≡ true → IsOf v.passes.sizes word x → word < length s.words
    → ((y : ℕ) → next_word v.passes.sizes y ≢ word) → is_among (place_of x) v.places.owned ≡ true
    → IsKept v.passes.sizes l (record {
      words = slice_set s.words word to;
      homes = s.homes;
      views = set s.views id (tuple_stored word to v);
    })
tuples_kept l s id v x word to h at has_some down of low apart owned =
    let z : Sizes = v.passes.sizes in
    let own = own_link l s id v h at has_some x down in
    own_moved l s id v h at has_some x down word to (tuple_in z word to) low of
    (λ i k there other.
    let t = of.others k.link ((h.links.hooks id v at).each i k there).some other in
    ap (λ (b : Bool). if b then record k { pair = record k.pair { first = to } } else (if second_word z k.link == word then record k { pair = record k.pair { second = to } } else k)) (ne_eqb (first_word z k.link) word t.0)
    ∙ ap (λ (b : Bool). if b then record k { pair = record k.pair { second = to } } else k) (ne_eqb (second_word z k.link) word t.1))
    (λ k.
    cond_both (first_word z k.link == word) (record k { pair = record k.pair { first = to } }) (cond (second_word z k.link == word) (record k { pair = record k.pair { second = to } }) k)
    (λ y. (y.link ≡ k.link) × (y.up ≡ k.up)) (λ e. (refl, refl))
    (λ e. cond_both (second_word z k.link == word) (record k { pair = record k.pair { second = to } }) k (λ y. (y.link ≡ k.link) × (y.up ≡ k.up)) (λ f. (refl, refl)) (λ f. (refl, refl))))
    (tuple_hook z s.words word to low apart)
    (λ y any under. omega (arith, word_else z s.words word to (next_word z y) (apart y), h.links.nexts y any under))
    (λ p any. other_pairs z s.words word to x p of (λ e. omega (arith, any, none_shown, ap (λ (k : ℕ). total (shows_held k) s.views) e)))
  where
    -- the pass has taken the place, and so none holds it for an id
    none_shown : total (shows_held (place_of x)) s.views ≡ 0
    none_shown =
        let p : ℕ = place_of x in
        let some_owned : 1 ≤ times p v.places.owned = total_some (λ q. q == p) v.places.owned owned in
        h.kept_words.apart p (omega (arith, (h.free_list.owned id v at p some_owned).0, total_term (takes p) s.views id v at))

-- storing a word of the tuple of a link in no chain keeps the rule
pub stores_tuple : (slots id word to : ℕ) (v : View) (c : List (ℕ × Slot)) → is_own_tuple v.passes.sizes word v.buckets v.places.owned ≡ true → 0 < v.passes.shares
    → Allows (RuleHolds v.passes.sizes) slots id (v, c) word (λ _. to) (λ _. StoreTupleStep (step slots word to 0 none) (v, c) to)
stores_tuple slots id word to v c own has_some s (l, h) long at range = (
  tuple_stored word to v,
  unchanged,
  tt,
  (l, of_word (own_tuple v.passes.sizes s.words word v.places.owned v.buckets.hooks v.buckets.hooks (λ q calm. calm) own)),
  (refl, refl),
)
  where
    of_word : ((x : ℕ) × (is_down x v.buckets.hooks ≡ true) × ((word ≡ first_word v.passes.sizes x) ⊎ (word ≡ second_word v.passes.sizes x)) × (is_among (place_of x) v.places.owned ≡ true))
        → IsKept v.passes.sizes l (record { words = slice_set s.words word to; homes = s.homes; views = set s.views id (tuple_stored word to v) })
    of_word t =
        let z : Sizes = v.passes.sizes in
        let x : ℕ = t.0 in
        let own = own_link l s id v h at has_some t.0 t.1 in
        ⊎_elim
        (λ (e : word ≡ first_word z t.0).
        tuples_kept l s id v t.0 word to h at has_some t.1 (subst (λ (k : ℕ). IsOf z k t.0) (sym e) (of_first z t.0 own.0))
        (omega (arith, e, h.count, own.0, own.1)) (λ y k. first_next z t.0 y (sym e ∙ sym k)) t.3)
        (λ (e : word ≡ second_word z t.0).
        tuples_kept l s id v t.0 word to h at has_some t.1 (subst (λ (k : ℕ). IsOf z k t.0) (sym e) (of_second z t.0 own.0))
        (omega (arith, e, h.count, own.0, own.1)) (λ y k. second_next z t.0 y (sym e ∙ sym k)) t.3)
        t.2
