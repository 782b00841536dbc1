-- A pass that has shut a bucket puts a link in at the head of its chain, or takes one out of it.
use Rattle.std.proofs.Common.{◌≡◌, ◌≢◌, ℕ, zero, suc, ◌+◌, ◌-◌, ◌%◌, ◌<◌, ◌≤◌, Bool, true, false, Some, None, List, [], ◌∷◌, length, refl, sym, ap, subst, ◌∙◌, ⊎_elim, arith, set, map}
use Rattle.std.specs.Prelude.{slice_index, slice_set, ◌==◌, ◌&&◌, ◌||◌, not, if◌then◌else◌}
use Rattle.std.proofs.lemmas.Bool.{cases_eq, cond_both, eq-eqb, eqb-true, false≢true, ne_eqb}
use Rattle.std.proofs.lemmas.List.{length-set}
use mathlib.Core.Option.{some, some-injective, some-ne-none}
use lib.ListN.{get_elem?}
use Rattle.atomic_table.specs.Table.{State}
use Rattle.history_book.specs.declared.event.Event.{Event}
use Rattle.history_book.specs.declared.sizes.Sizes.{Sizes}
use Rattle.track_rule.specs.Free.{is_among}
use Rattle.track_rule.specs.declared.slot.Slot.{Slot}
use Rattle.track_rule.specs.declared.view.ChainLink.{ChainLink}
use Rattle.track_rule.specs.declared.view.Hook.{Hook}
use Rattle.track_rule.specs.declared.view.HeldBuckets.{HeldBuckets}
use Rattle.track_rule.specs.declared.view.View.{View}
use Rattle.track_rule.specs.declared.view.Walk.{Walk}
use Rattle.track_rule.specs.BucketSteps.{first_of, put_in, raise, strung}
use Rattle.track_rule.specs.Chains.{IsChain, IsOrdered, bucket_of, chain_in, chain_link, hooks_at, is_at_link, links_in, loose_of, shuts_of, side, each_link}
use Rattle.track_rule.specs.History.{records_after}
use Rattle.track_rule.specs.KeptWords.{link_of}
use Rattle.track_rule.specs.Layout.{first_word, gen_at, head_word, next_word, place_of, second_word, side_of}
use Rattle.track_rule.specs.Links.{AreOfOne, HasHooks, IsHook, IsOwned, hook_of, hooks_of, is_down, last_link, is_up}
use Rattle.track_rule.specs.Readings.{stored}
use Rattle.track_rule.specs.Rule.{IsKept, Ledger}
use Rattle.track_rule.specs.Sums.{Each, total, times}
use Rattle.track_rule.specs.Walks.{HasLive, IsWalk, Stands}
use Rattle.track_rule.proofs.LastRead.{stored_on}
use Rattle.track_rule.proofs.Frames.{middle_more}
use Rattle.track_rule.proofs.BucketMoves.{bucket_moved}
use Rattle.track_rule.proofs.ChainLists.{chain_first, unlinked}
use Rattle.track_rule.proofs.ChainWords.{IsString, chain_local, first_head, next_head, one_head, second_head, string_gens, string_head, string_rest, word_else, word_here}
use Rattle.track_rule.proofs.HookLists.{each_change, hook_there, links_kept, total_change, with_else, with_here, with_shuts}
use Rattle.track_rule.proofs.Lists.{total_some}
use Rattle.track_rule.proofs.OwnWords.{hook_stays, own_link}
use Rattle.track_rule.proofs.UpHooks.{one_only, up_raised}
use Rattle.track_rule.proofs.Sums.{each_put, each_other, total_same, total_set, total_term, total_two}

-- a hook that is in no chain is one at its link
pub down_at : (hooks : List Hook) (i : ℕ) (k : Hook) → get_elem? hooks i ≡ some k → k.up ≡ false → is_down k.link hooks ≡ true
down_at [] i k at off = absurd (some-ne-none k (sym at))
down_at (h ∷ hs) zero k at off =
    let same : h ≡ k = some-injective h k at in
    ap (λ (b : Bool). (h.link == k.link && not b) || is_down k.link hs) (ap (λ (y : Hook). y.up) same ∙ off)
    ∙ ap (λ (b : Bool). (b && true) || is_down k.link hs) (eq-eqb h.link k.link (ap (λ (y : Hook). y.link) same))
down_at (h ∷ hs) (suc i) k at off = ap (λ (b : Bool). (h.link == k.link && not h.up) || b) (down_at hs i k at off) ∙ or_true (h.link == k.link && not h.up)
  where
    or_true : (a : Bool) → (a || true) ≡ true
    or_true true = refl
    or_true false = refl

-- the chain of one bucket is another
abbrev pub rechained : (ℕ → List ChainLink) → ℕ → List ChainLink → ℕ → List ChainLink
rechained chains b es c = (if c == b then es else chains c)

-- What a store does to the chain of a bucket, and to what the pass knows of it. No other chain has the word.
pub record Restrings (z : Sizes) (s : State Slot View) (chains : ℕ → List ChainLink) (id b word to : ℕ) (v : View) (buckets : HeldBuckets) (es : List ChainLink) : Type 0 where
  pub string : IsString z word
  pub long : word < length s.words
  pub low : to ≤ last_link z
  pub heads : (c : ℕ) → c < z.buckets → c ≢ b → head_word z c ≢ word
  pub firsts : (x : ℕ) → first_word z x ≢ word
  pub seconds : (x : ℕ) → second_word z x ≢ word
  pub away : (c : ℕ) → c < z.buckets → c ≢ b → Each (λ e. next_word z e.link ≢ word) (chains c)
  pub off : (j : ℕ) (u : View) → get_elem? s.views j ≡ some u → Each (λ k. k.up ≡ false → next_word z k.link ≢ word) u.buckets.hooks
  pub chain : IsChain z (slice_set s.words word to) b (slice_index (slice_set s.words word to) (head_word z b)) es
  pub ordered : IsOrdered es
  pub weights : (g : ChainLink → ℕ) → total g es + loose_of z b g v ≡ total g (chains b) + loose_of z b g (strung word to buckets v)
  pub elsewhere : (c : ℕ) → c ≢ b → (g : ChainLink → ℕ) → loose_of z c g (strung word to buckets v) ≡ loose_of z c g v
  pub links : (x : ℕ) → hooks_of x buckets.hooks ≡ hooks_of x v.buckets.hooks
  pub shuts : (c : ℕ) → shuts_of c (strung word to buckets v) ≡ shuts_of c v
  pub here : chain_in b buckets.shut ≡ es
  pub there : (c : ℕ) → c ≢ b → chain_in c buckets.shut ≡ chain_in c v.buckets.shut
  pub hooks : Each (IsHook z (slice_set s.words word to)) buckets.hooks
  pub linked : Each (IsOwned v.places) buckets.hooks
  pub one : AreOfOne buckets.hooks

module _ (l : Ledger) (s : State Slot View) (id b : ℕ) (v : View) (h : IsKept v.passes.sizes l s) (at : get_elem? s.views id ≡ some v)
    (has_some : 0 < v.passes.shares) (below : b < v.passes.sizes.buckets) (mine : 0 < shuts_of b v) where
  odd : gen_at v.passes.sizes s.words b % 2 ≡ 1
  odd = omega (arith, h.chains.gens b below, total_term (shuts_of b) s.views id v at, mine, half (gen_at v.passes.sizes s.words b))
    where
      half : (n : ℕ) → n % 2 < 2
      half n = omega arith

  module _ (word to : ℕ) (buckets : HeldBuckets) (es : List ChainLink) (t : Restrings v.passes.sizes s l.chains id b word to v buckets es) where
    chains_here : rechained l.chains b es b ≡ es
    chains_here = ap (λ (k : Bool). if k then es else l.chains b) (eq-eqb b b refl)

    chains_else : (c : ℕ) → c ≢ b → rechained l.chains b es c ≡ l.chains c
    chains_else c other = ap (λ (k : Bool). if k then es else l.chains c) (ne_eqb c b other)

    -- where it is so of the one chain, and of the others, it is so of all
    on_each : (P : ℕ → List ChainLink → Type 0) → P b es → ((c : ℕ) → c ≢ b → P c (l.chains c)) → (c : ℕ) → P c (rechained l.chains b es c)
    on_each P one others c =
        ⊎_elim
        (λ (e : c ≡ b). subst (λ (k : ℕ). P k (rechained l.chains b es k)) (sym e) (subst (P b) (sym chains_here) one))
        (λ (e : c ≢ b). subst (P c) (sym (chains_else c e)) (others c e))
        (cases_eq c b)

    walk_kept : (m : Walk) (front : List Event) → IsWalk v.passes.sizes s.words l.chains front m
        → IsWalk v.passes.sizes (slice_set s.words word to) (rechained l.chains b es) front m
    walk_kept m front w =
        let z : Sizes = v.passes.sizes in
        let gen : gen_at z (slice_set s.words word to) m.bucket ≡ gen_at z s.words m.bucket = string_gens z s.words word to t.string m.bucket w.bucket in
        record {
          bucket = w.bucket;
          least = omega (arith, w.least, gen);
          stands = λ here even.
              ⊎_elim
              (λ (e : m.bucket ≡ b). absurd (omega (arith, sym gen ∙ here, even, odd, ap (gen_at z s.words) e)))
              (λ (e : m.bucket ≢ b). subst (λ (xs : List ChainLink). Stands xs m) (sym (chains_else m.bucket e)) (w.stands (sym gen ∙ here) even))
              (cases_eq m.bucket b);
          known = λ point at'.
              let k = w.known point at' in
              record {
                seen = k.seen;
                live = λ here even.
                    ⊎_elim
                    (λ (e : m.bucket ≡ b). absurd (omega (arith, sym gen ∙ here, even, odd, ap (gen_at z s.words) e)))
                    (λ (e : m.bucket ≢ b). subst (HasLive z m.bucket front) (sym (chains_else m.bucket e)) (k.live (sym gen ∙ here) even))
                    (cases_eq m.bucket b);
              };
          gone = λ passed even. omega (arith, w.gone passed even, gen);
        }

    pub restrung : IsKept v.passes.sizes (record l { chains = rechained l.chains b es })
        (record { words = slice_set s.words word to; homes = s.homes; views = set s.views id (strung word to buckets v) })
    restrung =
        let z : Sizes = v.passes.sizes in
        let new : List ℕ = slice_set s.words word to in
        let w : View = strung word to buckets v in
        bucket_moved z l s id v w new (rechained l.chains b es) h at (record { made = record { passes = refl; own = refl; gathered = refl }; commit = refl; expected = refl }) has_some refl refl refl
        (string_rest z s.words word to t.string) (length-set s.words word to)
        (λ p any d. record {
          first = word_else z s.words word to (first_word z (link_of d p)) (t.firsts (link_of d p));
          second = word_else z s.words word to (second_word z (link_of d p)) (t.seconds (link_of d p));
        })
        (record {
          linked = on_each (λ c xs. c < z.buckets → IsChain z new c (slice_index new (head_word z c)) xs) (λ under. t.chain)
              (λ c other under.
              subst (λ (k : ℕ). IsChain z new c k (l.chains c)) (sym (word_else z s.words word to (head_word z c) (t.heads c under other)))
              (chain_local z s.words new c (slice_index s.words (head_word z c)) (l.chains c) (h.chains.linked c under)
              (λ i e at'. record {
                first = word_else z s.words word to (first_word z e.link) (t.firsts e.link);
                second = word_else z s.words word to (second_word z e.link) (t.seconds e.link);
                next = word_else z s.words word to (next_word z e.link) (t.away c under other i e at');
              })));
          ordered = on_each (λ c xs. c < z.buckets → IsOrdered xs) (λ under. t.ordered) (λ c other under. h.chains.ordered c under);
          gens = λ c under.
              ap (λ (k : ℕ). k % 2) (string_gens z s.words word to t.string c under) ∙ h.chains.gens c under ∙ sym (total_same (shuts_of c) s.views id v w at (t.shuts c));
          mine = on_each (λ c xs. c < z.buckets → Each (λ u. 0 < shuts_of c u → chain_in c u.buckets.shut ≡ xs) (set s.views id w))
              (λ under.
              each_other (λ u. 0 < shuts_of b u → chain_in b u.buckets.shut ≡ es) s.views id w
              (λ j u apart at' any. absurd (omega (arith, h.chains.gens b below, odd, mine, any, total_two (shuts_of b) s.views id j v u at at' apart)))
              (λ any. t.here))
              (λ c other under.
              each_other (λ u. 0 < shuts_of c u → chain_in c u.buckets.shut ≡ l.chains c) s.views id w (λ j u apart at' any. h.chains.mine c under j u at' any)
              (λ any. t.there c other ∙ h.chains.mine c under id v at (omega (arith, any, t.shuts c))));
          chained = on_each (λ c xs. c < z.buckets → (g : ChainLink → ℕ) → total g xs ≡ total (links_in z c g) (records_after l.log) + total (loose_of z c g) (set s.views id w))
              (λ under g. omega (arith, h.chains.chained b below g, t.weights g, total_set (loose_of z b g) s.views id v w at))
              (λ c other under g.
              h.chains.chained c under g
              ∙ ap (λ (k : ℕ). total (links_in z c g) (records_after l.log) + k) (sym (total_same (loose_of z c g) s.views id v w at (t.elsewhere c other g))));
          lone = λ link any. omega (arith, h.chains.lone link any, total_same (hooks_at link) s.views id v w at (t.links link));
          home = each_put (λ (u : View). (c : ℕ) → c < z.buckets → 0 < loose_of z c each_link u → 0 < shuts_of c u) s.views id w h.chains.home
              (λ c under any.
              ⊎_elim
              (λ (e : c ≡ b). subst (λ (k : ℕ). 0 < shuts_of k w) (sym e) (omega (arith, mine, t.shuts b)))
              (λ (e : c ≢ b). omega (arith, t.shuts c, h.chains.home id v at c under (omega (arith, any, t.elsewhere c e each_link))))
              (cases_eq c b));
        })
        (record {
          heads = λ c under.
              ⊎_elim (λ (e : head_word z c ≡ word). omega (arith, ap (slice_index new) e, word_here z s.words word to t.long, t.low))
              (λ (e : head_word z c ≢ word). omega (arith, word_else z s.words word to (head_word z c) e, h.links.heads c under)) (cases_eq (head_word z c) word);
          nexts = λ x any under.
              ⊎_elim (λ (e : next_word z x ≡ word). omega (arith, ap (slice_index new) e, word_here z s.words word to t.long, t.low))
              (λ (e : next_word z x ≢ word). omega (arith, word_else z s.words word to (next_word z x) e, h.links.nexts x any under)) (cases_eq (next_word z x) word);
          gens = λ c under. omega (arith, h.links.gens c under, string_gens z s.words word to t.string c under);
          hooks = each_other (λ u. HasHooks z new u.places u.buckets.hooks) s.views id w
              (λ j u apart at'.
              let k = h.links.hooks j u at' in
              record {
                each = λ i y there.
                    let is = k.each i y there in
                    record {
                      some = is.some;
                      below = is.below;
                      first = word_else z s.words word to (first_word z y.link) (t.firsts y.link) ∙ is.first;
                      second = word_else z s.words word to (second_word z y.link) (t.seconds y.link) ∙ is.second;
                      next = λ n down e. word_else z s.words word to (next_word z y.link) (t.off j u at' i y there down) ∙ is.next n down e;
                    };
                held = k.held;
                linked = k.linked;
                one = k.one;
              })
              (record { each = t.hooks; held = λ link any. (h.links.hooks id v at).held link (omega (arith, any, t.links link)); linked = t.linked; one = t.one });
        })
        (record {
          each = each_other (λ (u : View). (m : Walk) → u.walk ≡ Some m → IsWalk z new (rechained l.chains b es) u.seen.front m) s.views id w
              (λ j u apart at' m e. walk_kept m u.seen.front (h.walks.each j u at' m e))
              (λ m e. walk_kept m v.seen.front (h.walks.each id v at m e));
        })
        (stored_on z l.log s.words s.views id word to v w h.passes at has_some t.long (record { reading = stored word to; more = refl; word = refl; value = refl }) h.readings)
        (middle_more z l.log v w refl refl (λ p. omega arith) (λ c. omega (arith, t.shuts c)) (h.commits id v at))

-- a link is put in at the head
module _ (l : Ledger) (s : State Slot View) (id b x : ℕ) (v : View) (h : IsKept v.passes.sizes l s) (at : get_elem? s.views id ≡ some v)
    (has_some : 0 < v.passes.shares) (below : b < v.passes.sizes.buckets) (mine : 0 < shuts_of b v) (down : is_down x v.buckets.hooks ≡ true)
    (next : (hook_of x v.buckets.hooks).next ≡ Some (first_of (chain_in b v.buckets.shut)))
    (placed : bucket_of v.passes.sizes (hook_of x v.buckets.hooks).pair ≡ b)
    (owned : is_among (place_of x) v.places.owned ≡ true) (before : side_of x ≡ 1 → is_down (x - 1) v.buckets.hooks ≡ true)
    (alone : (place : ℕ) → is_up place v.buckets.hooks ≡ true → place ≡ place_of x) where
  raised_hook : (k : Hook) → k.link ≡ x → raise x k ≡ record k { next = None; up = true }
  raised_hook k e = ap (λ (t : Bool). if t then record k { next = None; up = true } else k) (eq-eqb k.link x e)

  raised_other : (k : Hook) → k.link ≢ x → raise x k ≡ k
  raised_other k e = ap (λ (t : Bool). if t then record k { next = None; up = true } else k) (ne_eqb k.link x e)

  put_chain : IsChain v.passes.sizes (slice_set s.words (head_word v.passes.sizes b) x) b
      (slice_index (slice_set s.words (head_word v.passes.sizes b) x) (head_word v.passes.sizes b))
      (chain_link (hook_of x v.buckets.hooks) ∷ chain_in b v.buckets.shut)
  put_chain =
      let z : Sizes = v.passes.sizes in
      let new : List ℕ = slice_set s.words (head_word z b) x in
      let own = own_link l s id v h at has_some x down in
      let k : Hook = hook_of x v.buckets.hooks in
      let there = hook_there x (IsHook z s.words) v.buckets.hooks own.2 (h.links.hooks id v at).each in
      let known : chain_in b v.buckets.shut ≡ l.chains b = h.chains.mine b below id v at mine in
      let all : IsChain z s.words b (slice_index s.words (head_word z b)) (chain_in b v.buckets.shut) =
      subst (IsChain z s.words b (slice_index s.words (head_word z b))) (sym known) (h.chains.linked b below) in
      let first : slice_index s.words (head_word z b) ≡ first_of (chain_in b v.buckets.shut) =
      chain_first z s.words b (slice_index s.words (head_word z b)) (chain_in b v.buckets.shut) all in
      let follows : slice_index new (next_word z (hook_of x v.buckets.hooks).link) ≡ slice_index s.words (head_word z b) =
      word_else z s.words (head_word z b) x (next_word z (hook_of x v.buckets.hooks).link) (next_head z (hook_of x v.buckets.hooks).link b below)
      ∙ there.0.next (first_of (chain_in b v.buckets.shut)) own.4 next ∙ sym first in (
        word_here z s.words (head_word z b) x (omega (arith, h.count, below)) ∙ sym there.1,
        record {
          some = there.0.some;
          below = low_place (hook_of x v.buckets.hooks).link there.0.some there.0.below;
          first = word_else z s.words (head_word z b) x (first_word z (hook_of x v.buckets.hooks).link) (first_head z (hook_of x v.buckets.hooks).link b below) ∙ there.0.first;
          second = word_else z s.words (head_word z b) x (second_word z (hook_of x v.buckets.hooks).link) (second_head z (hook_of x v.buckets.hooks).link b below) ∙ there.0.second;
          placed = placed;
        },
        subst (λ (n : ℕ). IsChain z new b n (chain_in b v.buckets.shut)) (sym follows)
            (chain_local z s.words new b (slice_index s.words (head_word z b)) (chain_in b v.buckets.shut) all (λ i e at'. record {
              first = word_else z s.words (head_word z b) x (first_word z e.link) (first_head z e.link b below);
              second = word_else z s.words (head_word z b) x (second_word z e.link) (second_head z e.link b below);
              next = word_else z s.words (head_word z b) x (next_word z e.link) (next_head z e.link b below);
            })),
      )
    where
      low_place : (y : ℕ) → 0 < y → y ≤ last_link v.passes.sizes → place_of y < v.passes.sizes.entries
      low_place y any low = omega (arith, any, low)

  put_loose : (c : ℕ) (g : ChainLink → ℕ)
      → loose_of v.passes.sizes c g (strung (head_word v.passes.sizes b) x (put_in b x v.buckets) v)
      ≡ loose_of v.passes.sizes c g v + side v.passes.sizes c g (chain_link (hook_of x v.buckets.hooks))
  put_loose c g =
      let z : Sizes = v.passes.sizes in
      let own = own_link l s id v h at has_some x down in
      let k : Hook = hook_of x v.buckets.hooks in
      let there = hook_there x (IsHook z s.words) v.buckets.hooks own.2 (h.links.hooks id v at).each in
      omega (
        arith,
        total_change x (raise x) (λ (y : Hook). (if y.up then side z c g (chain_link y) else 0)) v.buckets.hooks (λ i y at'. raised_other y) own.2 own.3,
        ap (λ (u : Bool). if u then side z c g (chain_link k) else 0) own.4,
        ap (λ (y : Hook). (if y.up then side z c g (chain_link y) else 0)) (raised_hook k there.1),
      )

  pub puts_kept : IsKept v.passes.sizes (record l { chains = rechained l.chains b (chain_link (hook_of x v.buckets.hooks) ∷ chain_in b v.buckets.shut) })
      (record {
        words = slice_set s.words (head_word v.passes.sizes b) x;
        homes = s.homes;
        views = set s.views id (strung (head_word v.passes.sizes b) x (put_in b x v.buckets) v);
      })
  puts_kept =
      let z : Sizes = v.passes.sizes in
      let new : List ℕ = slice_set s.words (head_word z b) x in
      let own = own_link l s id v h at has_some x down in
      let k : Hook = hook_of x v.buckets.hooks in
      let es : List ChainLink = chain_link (hook_of x v.buckets.hooks) ∷ chain_in b v.buckets.shut in
      let there = hook_there x (IsHook z s.words) v.buckets.hooks own.2 (h.links.hooks id v at).each in
      let known : chain_in b v.buckets.shut ≡ l.chains b = h.chains.mine b below id v at mine in
      restrung l s id b v h at has_some below mine (head_word z b) x (put_in b x v.buckets) es (record {
        string = string_head z b below;
        long = omega (arith, h.count, below);
        low = own.1;
        heads = λ c under other e. other (one_head z c b e);
        firsts = λ y. first_head z y b below;
        seconds = λ y. second_head z y b below;
        away = λ c under other i e at'. next_head z e.link b below;
        off = λ j u at' i y there' off. next_head z y.link b below;
        chain = put_chain;
        ordered = (
          λ reply. omega (
            arith,
            ap (λ (xs : List ChainLink). total (is_at_link ((hook_of x v.buckets.hooks).link - 1)) xs) known,
            ap (λ (y : ℕ). total (is_at_link (y - 1)) (l.chains b)) there.1,
            unlinked z l.log s.words s.views l.chains h.chains b below (x - 1) id v at (behind x own.0 (ap side_of (sym there.1) ∙ reply)) (before (ap side_of (sym there.1) ∙ reply)),
          ),
          subst IsOrdered (sym known) (h.chains.ordered b below),
        );
        weights = λ g. omega (arith, put_loose b g, ap (total g) known, in_bucket g);
        elsewhere = λ c other g. omega (arith, put_loose c g, not_in c other g);
        links = λ y. links_kept y (raise x) (λ y. cond_both (y.link == x) (record y { next = None; up = true }) y (λ t. t.link ≡ y.link) (λ e. refl) (λ e. refl)) v.buckets.hooks;
        shuts = λ c. with_shuts b es c v.buckets.shut;
        here = with_here b es v.buckets.shut mine;
        there = λ c other. with_else b es c other v.buckets.shut;
        hooks = each_change (IsHook z s.words) (IsHook z new) (raise x) v.buckets.hooks (h.links.hooks id v at).each (λ y is.
            cond_both (y.link == x) (record y { next = None; up = true }) y (IsHook z new)
            (λ e. record {
              some = is.some;
              below = is.below;
              first = word_else z s.words (head_word z b) x (first_word z y.link) (first_head z y.link b below) ∙ is.first;
              second = word_else z s.words (head_word z b) x (second_word z y.link) (second_head z y.link b below) ∙ is.second;
              next = λ n off e. absurd (false≢true (sym off));
            })
            (λ e.
            hook_stays z s.words new y (record {
              first = word_else z s.words (head_word z b) x (first_word z y.link) (first_head z y.link b below);
              second = word_else z s.words (head_word z b) x (second_word z y.link) (second_head z y.link b below);
              next = word_else z s.words (head_word z b) x (next_word z y.link) (next_head z y.link b below);
            }) is));
        linked = each_change (IsOwned v.places) (IsOwned v.places) (raise x) v.buckets.hooks (h.links.hooks id v at).linked (λ y is.
            cond_both (y.link == x) (record y { next = None; up = true }) y (IsOwned v.places)
            (λ e up. subst (λ (k : ℕ). 0 < times (place_of k) v.places.owned + times (place_of k) v.places.ended) (sym (eqb-true y.link x e))
            (omega (arith, total_some (λ q. q == place_of x) v.places.owned owned))) (λ e. is));
        one = one_only (place_of x) (map (raise x) v.buckets.hooks)
            (λ q e. ⊎_elim (λ (t : q ≡ place_of x). t) (λ (t : is_up q v.buckets.hooks ≡ true). alone q t) (up_raised x q v.buckets.hooks e));
      })
    where
      behind : (y : ℕ) → 0 < y → side_of y ≡ 1 → 0 < y - 1
      behind y any e = omega (arith, any, e)

      in_bucket : (g : ChainLink → ℕ) → side v.passes.sizes b g (chain_link (hook_of x v.buckets.hooks)) ≡ g (chain_link (hook_of x v.buckets.hooks))
      in_bucket g =
          ap (λ (t : Bool). if t then g (chain_link (hook_of x v.buckets.hooks)) else 0)
          (eq-eqb (bucket_of v.passes.sizes (hook_of x v.buckets.hooks).pair) b placed)

      not_in : (c : ℕ) → c ≢ b → (g : ChainLink → ℕ) → side v.passes.sizes c g (chain_link (hook_of x v.buckets.hooks)) ≡ 0
      not_in c other g =
          ap (λ (t : Bool). if t then g (chain_link (hook_of x v.buckets.hooks)) else 0)
          (ne_eqb (bucket_of v.passes.sizes (hook_of x v.buckets.hooks).pair) c (λ e. other (sym e ∙ placed)))
