-- A pass that has shut a bucket takes a link of its own out of the chain. What a store of a link tells.
use Rattle.std.proofs.Common.{◌≡◌, ◌≢◌, ℕ, ◌+◌, ◌<◌, ◌≤◌, Bool, true, false, Option, Some, None, List, [], ◌∷◌, length, refl, sym, ap, subst, ◌∙◌, arith, set, map}
use Rattle.std.specs.Prelude.{slice_index, slice_set, ◌==◌, ◌&&◌, if◌then◌else◌, is_some}
use Rattle.std.proofs.lemmas.Bool.{cond_both, eq-eqb, false≢true, ne_eqb}
use Rattle.std.proofs.lemmas.Option.{none-some}
use mathlib.Core.Option.{some}
use lib.ListN.{get_elem?}
use Rattle.atomic_table.specs.Table.{State}
use Rattle.history_book.specs.declared.sizes.Sizes.{Sizes}
use Rattle.track_rule.specs.declared.slot.Slot.{Slot}
use Rattle.track_rule.specs.declared.view.ChainLink.{ChainLink}
use Rattle.track_rule.specs.declared.view.Hook.{Hook}
use Rattle.track_rule.specs.declared.view.View.{View}
use Rattle.track_rule.specs.BucketSteps.{IsShutAt, end_word, first_of, lower, strung, taken_from, without_link}
use Rattle.track_rule.specs.Chains.{IsChain, IsLinked, IsOrdered, bucket_of, chain_in, chain_link, hooks_at, is_at_link, loose_of, side}
use Rattle.track_rule.specs.Layout.{first_word, head_word, next_word, place_of, second_word}
use Rattle.track_rule.specs.Links.{IsHook, IsOwned, hook_of, hooks_of, is_raised, last_link}
use Rattle.track_rule.specs.Rule.{IsKept, Ledger}
use Rattle.track_rule.specs.Sums.{Each, bit, total}
use Rattle.track_rule.specs.Walks.{rev_onto}
use Rattle.track_rule.proofs.BucketLoads.{shut_chain}
use Rattle.track_rule.proofs.ChainLists.{alone, chain_each, chain_first, total_rev, unlinked, unnamed}
use Rattle.track_rule.proofs.ChainStores.{down_at, rechained, restrung}
use Rattle.track_rule.proofs.ChainWords.{IsPassed, IsString, bucket_there, chain_join, chain_local, chain_split, first_head, first_next, next_head, one_head, one_next, passed_to, second_head, second_next, string_head, string_next, word_else, word_here}
use Rattle.track_rule.proofs.UpHooks.{one_fewer, up_map}
use Rattle.track_rule.proofs.HookLists.{each_change, hook_test, hook_there, links_kept, ordered_rev, some_hook, total_change, with_else, with_here, with_shuts, without_first, without_rev}
use Rattle.track_rule.proofs.Lists.{same_bit}
use Rattle.track_rule.proofs.Sums.{total_term}

-- what is so of each of two
each_both : (P Q : Hook → Type 0) (hooks : List Hook) → Each P hooks → Each Q hooks → Each (λ k. P k × Q k) hooks
each_both P Q hooks p q i k at = (p i k at, q i k at)

module _ (l : Ledger) (s : State Slot View) (id b : ℕ) (v : View) (h : IsKept v.passes.sizes l s) (at : get_elem? s.views id ≡ some v)
    (has_some : 0 < v.passes.shares) (below : b < v.passes.sizes.buckets) where
  -- The word after what was passed, in the chain that goes on with this entry: what else has it, and what stands before it.
  pub record EndWord (word : ℕ) (passed : List ChainLink) (e : ChainLink) (rest : List ChainLink) : Type 0 where
    pub string : IsString v.passes.sizes word
    pub long : word < length s.words
    pub heads : (c : ℕ) → c < v.passes.sizes.buckets → c ≢ b → head_word v.passes.sizes c ≢ word
    pub firsts : (x : ℕ) → first_word v.passes.sizes x ≢ word
    pub seconds : (x : ℕ) → second_word v.passes.sizes x ≢ word
    pub away : (c : ℕ) → c < v.passes.sizes.buckets → c ≢ b → Each (λ e. next_word v.passes.sizes e.link ≢ word) (l.chains c)
    pub off : (j : ℕ) (u : View) → get_elem? s.views j ≡ some u → Each (λ k. k.up ≡ false → next_word v.passes.sizes k.link ≢ word) u.buckets.hooks
    pub after : Each (λ r. next_word v.passes.sizes r.link ≢ word) rest
    pub before : (to : ℕ) → IsPassed v.passes.sizes (slice_set s.words word to) b passed

  chain_links : (c : ℕ) → c < v.passes.sizes.buckets → Each (IsLinked v.passes.sizes s.words c) (l.chains c)
  chain_links c under = chain_each v.passes.sizes s.words c (slice_index s.words (head_word v.passes.sizes c)) (l.chains c) (h.chains.linked c under)

  pub end_word_is : (passed : List ChainLink) (e : ChainLink) (rest : List ChainLink) → l.chains b ≡ rev_onto passed (e ∷ rest) → IsPassed v.passes.sizes s.words b passed
      → Each (IsLinked v.passes.sizes s.words b) rest → EndWord (end_word v.passes.sizes b passed) passed e rest
  end_word_is [] e rest all before links = record {
    string = string_head v.passes.sizes b below;
    long = omega (arith, h.count, below);
    heads = λ c under other same. other (one_head v.passes.sizes c b same);
    firsts = λ x. first_head v.passes.sizes x b below;
    seconds = λ x. second_head v.passes.sizes x b below;
    away = λ c under other i x at'. next_head v.passes.sizes x.link b below;
    off = λ j u at' i k there down. next_head v.passes.sizes k.link b below;
    after = λ i r at'. next_head v.passes.sizes r.link b below;
    before = λ to. tt;
  }
  end_word_is (p ∷ ps) e rest all before links =
      let z : Sizes = v.passes.sizes in
      let some_p : 0 < p.link = before.1.some in
      let lone : total (is_at_link p.link) (l.chains b) ≤ 1 = alone z l.log s.words s.views l.chains h.chains b below p.link some_p in
      let sum : total (is_at_link p.link) (l.chains b) ≡ total (is_at_link p.link) (p ∷ ps) + total (is_at_link p.link) (e ∷ rest) =
      ap (total (is_at_link p.link)) all ∙ total_rev (is_at_link p.link) (p ∷ ps) (e ∷ rest) in
      let one : 1 ≤ total (is_at_link p.link) (l.chains b) = omega (arith, sum, same_bit p.link p.link refl) in
      record {
        string = string_next z p.link;
        long = omega (arith, h.count, some_p, before.1.below);
        heads = λ c under other same. next_head z p.link c under (sym same);
        firsts = λ x. first_next z x p.link;
        seconds = λ x. second_next z x p.link;
        away = λ c under other i x at' same.
            let k = chain_links c under i x at' in
            let here : x.link ≡ p.link = one_next z x.link p.link k.some some_p same in
            other (sym (bucket_there z s.words c x.link (l.chains c) (chain_links c under)
            (omega (arith, same_bit x.link x.link refl, total_term (is_at_link x.link) (l.chains c) i x at')))
            ∙ (λ j. bucket_of z (record { first = slice_index s.words (first_word z (here j)); second = slice_index s.words (second_word z (here j)) }))
            ∙ bucket_there z s.words b p.link (l.chains b) (chain_links b below) one);
        off = λ j u at' i k there down same.
            let is = (h.links.hooks j u at').each i k there in
            let here : k.link ≡ p.link = one_next z k.link p.link is.some some_p same in
            omega (
              arith,
              one,
              ap (λ (x : ℕ). total (is_at_link x) (l.chains b)) here,
              unlinked z l.log s.words s.views l.chains h.chains b below k.link j u at' is.some (down_at u.buckets.hooks i k there down),
            );
        after = λ i r at' same.
            let here : r.link ≡ p.link = one_next z r.link p.link (links i r at').some some_p same in
            omega (
              arith,
              lone,
              sum,
              same_bit p.link p.link refl,
              ap (λ (x : ℕ). bit (x == p.link)) here,
              total_term (is_at_link p.link) rest i r at',
            );
        before = λ to.
            passed_to z s.words (slice_set s.words (next_word z p.link) to) b p.link (record {
              firsts = λ x. word_else z s.words (next_word z p.link) to (first_word z x) (first_next z x p.link);
              seconds = λ x. word_else z s.words (next_word z p.link) to (second_word z x) (second_next z x p.link);
              head = word_else z s.words (next_word z p.link) to (head_word z b) (λ same. next_head z p.link b below (sym same));
              nexts = λ x any other. word_else z s.words (next_word z p.link) to (next_word z x) (λ same. other (one_next z x p.link any some_p same));
            }) p ps (omega (arith, lone, sum, same_bit p.link p.link refl)) before;
      }

  module _ (passed : List ChainLink) (e : ChainLink) (rest : List ChainLink) (shut : IsShutAt b v passed (e ∷ rest)) (up : is_raised e.link v.buckets.hooks ≡ true) where
    whole : l.chains b ≡ rev_onto passed (e ∷ rest)
    whole = shut_chain v.passes.sizes l s h id v at b passed (e ∷ rest) below shut

    parts : IsPassed v.passes.sizes s.words b passed × IsChain v.passes.sizes s.words b (slice_index s.words (end_word v.passes.sizes b passed)) (e ∷ rest)
    parts = chain_split v.passes.sizes s.words b passed (e ∷ rest)
        (subst (IsChain v.passes.sizes s.words b (slice_index s.words (head_word v.passes.sizes b))) whole (h.chains.linked b below))

    behind : Each (IsLinked v.passes.sizes s.words b) rest
    behind = chain_each v.passes.sizes s.words b (slice_index s.words (next_word v.passes.sizes e.link)) rest parts.1.2

    lone_there : total (is_at_link e.link) passed ≡ 0
    lone_there = omega (
      arith,
      alone v.passes.sizes l.log s.words s.views l.chains h.chains b below e.link parts.1.1.some,
      ap (total (is_at_link e.link)) whole,
      total_rev (is_at_link e.link) passed (e ∷ rest),
      same_bit e.link e.link refl,
    )

    left : without_link e.link (chain_in b v.buckets.shut) ≡ rev_onto passed rest
    left = ap (without_link e.link) shut.all ∙ without_rev e.link passed (e ∷ rest) lone_there ∙ ap (rev_onto passed) (without_first e.link e rest refl)

    own : (0 < hooks_of e.link v.buckets.hooks) × (hooks_of e.link v.buckets.hooks ≤ 1)
    own = (
      some_hook e.link (λ (k : Hook). k.up) v.buckets.hooks up,
      omega (arith, h.chains.lone e.link parts.1.1.some, total_term (hooks_at e.link) s.views id v at),
    )

    its_hook : IsHook v.passes.sizes s.words (hook_of e.link v.buckets.hooks) × ((hook_of e.link v.buckets.hooks).link ≡ e.link)
    its_hook = hook_there e.link (IsHook v.passes.sizes s.words) v.buckets.hooks own.0 (h.links.hooks id v at).each

    its_link : chain_link (hook_of e.link v.buckets.hooks) ≡ e
    its_link = link_same (hook_of e.link v.buckets.hooks) its_hook.1
        (sym its_hook.0.first ∙ ap (λ (x : ℕ). slice_index s.words (first_word v.passes.sizes x)) its_hook.1 ∙ parts.1.1.first)
        (sym its_hook.0.second ∙ ap (λ (x : ℕ). slice_index s.words (second_word v.passes.sizes x)) its_hook.1 ∙ parts.1.1.second) (no_id e.id its_id)
      where
        -- a link of the pass names no id
        its_id : bit (e.link == e.link && is_some e.id) ≡ 0
        its_id = omega (
          arith,
          unnamed v.passes.sizes l.log s.words s.views l.chains h.chains b below e.link id v at parts.1.1.some own.0,
          ap (total (λ (x : ChainLink). bit (x.link == e.link && is_some x.id))) whole,
          total_rev (λ (x : ChainLink). bit (x.link == e.link && is_some x.id)) passed (e ∷ rest),
        )

        no_id : (o : Option ℕ) → bit (e.link == e.link && is_some o) ≡ 0 → None ≡ o
        no_id None t = refl
        no_id (Some i) t = absurd (omega (arith, t, ap (λ (k : Bool). bit (k && true)) (eq-eqb e.link e.link refl)))

        link_same : (k : Hook) → k.link ≡ e.link → k.pair.first ≡ e.pair.first → k.pair.second ≡ e.pair.second → None ≡ e.id → chain_link k ≡ e
        link_same k p q r o = λ i. record { link = p i; pair = record { first = q i; second = r i }; id = o i }

    lowered_hook : (k : Hook) → k.link ≡ e.link → lower e.link k ≡ record k { next = None; up = false }
    lowered_hook k p = ap (λ (t : Bool). if t then record k { next = None; up = false } else k) (eq-eqb k.link e.link p)

    lowered_other : (k : Hook) → k.link ≢ e.link → lower e.link k ≡ k
    lowered_other k p = ap (λ (t : Bool). if t then record k { next = None; up = false } else k) (ne_eqb k.link e.link p)

    cut_loose : (c : ℕ) (g : ChainLink → ℕ)
        → loose_of v.passes.sizes c g (strung (end_word v.passes.sizes b passed) (first_of rest) (taken_from b e.link v.buckets) v) + side v.passes.sizes c g e
        ≡ loose_of v.passes.sizes c g v
    cut_loose c g =
        let k : Hook = hook_of e.link v.buckets.hooks in
        omega (
          arith,
          total_change e.link (lower e.link) (λ (y : Hook). (if y.up then side v.passes.sizes c g (chain_link y) else 0)) v.buckets.hooks (λ i y at'. lowered_other y) own.0 own.1,
          ap (λ (u : Bool). if u then side v.passes.sizes c g (chain_link k) else 0) (hook_test e.link (λ (y : Hook). y.up) v.buckets.hooks own.1 up),
          ap (side v.passes.sizes c g) its_link,
          ap (λ (y : Hook). (if y.up then side v.passes.sizes c g (chain_link y) else 0)) (lowered_hook k its_hook.1),
        )

    pub cuts_kept : IsKept v.passes.sizes (record l { chains = rechained l.chains b (without_link e.link (chain_in b v.buckets.shut)) })
        (record {
          words = slice_set s.words (end_word v.passes.sizes b passed) (first_of rest);
          homes = s.homes;
          views = set s.views id (strung (end_word v.passes.sizes b passed) (first_of rest) (taken_from b e.link v.buckets) v);
        })
    cuts_kept =
        let z : Sizes = v.passes.sizes in
        let word : ℕ = end_word z b passed in
        let to : ℕ = first_of rest in
        let new : List ℕ = slice_set s.words (end_word z b passed) (first_of rest) in
        let es : List ChainLink = without_link e.link (chain_in b v.buckets.shut) in
        let w = end_word_is passed e rest whole parts.0 behind in
        restrung l s id b v h at has_some below shut.mine (end_word z b passed) (first_of rest) (taken_from b e.link v.buckets) es (record {
          string = w.string;
          long = w.long;
          low = low_first rest behind;
          heads = w.heads;
          firsts = w.firsts;
          seconds = w.seconds;
          away = w.away;
          off = w.off;
          chain = subst (IsChain z new b (slice_index new (head_word z b))) (sym left)
              (chain_join z new b passed rest (w.before (first_of rest))
              (subst (λ (n : ℕ). IsChain z new b n rest) (sym (word_here z s.words (end_word z b passed) (first_of rest) w.long))
              (chain_local z s.words new b (first_of rest) rest
              (subst (λ (n : ℕ). IsChain z s.words b n rest) (chain_first z s.words b (slice_index s.words (next_word z e.link)) rest parts.1.2) parts.1.2)
              (λ i r at'. record {
                first = word_else z s.words (end_word z b passed) (first_of rest) (first_word z r.link) (w.firsts r.link);
                second = word_else z s.words (end_word z b passed) (first_of rest) (second_word z r.link) (w.seconds r.link);
                next = word_else z s.words (end_word z b passed) (first_of rest) (next_word z r.link) (w.after i r at');
              }))));
          ordered = subst IsOrdered (sym left)
              (ordered_rev passed (e ∷ rest) rest (λ x. omega arith) (λ o. o.1) (subst IsOrdered whole (h.chains.ordered b below)));
          weights = λ g. omega (
            arith,
            cut_loose b g,
            ap (total g) left,
            total_rev g passed rest,
            ap (total g) whole,
            total_rev g passed (e ∷ rest),
            in_bucket g,
          );
          elsewhere = λ c other g. omega (arith, cut_loose c g, not_in c other g);
          links = λ y. links_kept y (lower e.link) (λ k. cond_both (k.link == e.link) (record k { next = None; up = false }) k (λ t. t.link ≡ k.link) (λ p. refl) (λ p. refl)) v.buckets.hooks;
          shuts = λ c. with_shuts b es c v.buckets.shut;
          here = with_here b es v.buckets.shut shut.mine;
          there = λ c other. with_else b es c other v.buckets.shut;
          hooks = each_change (λ k. IsHook z s.words k × (k.up ≡ false → next_word z k.link ≢ word)) (IsHook z new) (lower e.link) v.buckets.hooks
              (each_both (IsHook z s.words) (λ k. k.up ≡ false → next_word z k.link ≢ word) v.buckets.hooks (h.links.hooks id v at).each (w.off id v at))
              (λ k is.
              cond_both (k.link == e.link) (record k { next = None; up = false }) k (IsHook z new)
              (λ p. record {
                some = is.0.some;
                below = is.0.below;
                first = word_else z s.words word to (first_word z k.link) (w.firsts k.link) ∙ is.0.first;
                second = word_else z s.words word to (second_word z k.link) (w.seconds k.link) ∙ is.0.second;
                next = λ n off none_is. absurd (none-some n none_is);
              })
              (λ p. record {
                some = is.0.some;
                below = is.0.below;
                first = word_else z s.words word to (first_word z k.link) (w.firsts k.link) ∙ is.0.first;
                second = word_else z s.words word to (second_word z k.link) (w.seconds k.link) ∙ is.0.second;
                next = λ n off some_is. word_else z s.words word to (next_word z k.link) (is.1 off) ∙ is.0.next n off some_is;
              }));
          linked = each_change (IsOwned v.places) (IsOwned v.places) (lower e.link) v.buckets.hooks (h.links.hooks id v at).linked (λ k is.
              cond_both (k.link == e.link) (record k { next = None; up = false }) k (IsOwned v.places) (λ p up. absurd (false≢true up)) (λ p. is));
          one = one_fewer v.buckets.hooks (map (lower e.link) v.buckets.hooks)
              (λ q t. up_map (lower e.link) lowered_up q v.buckets.hooks t) (h.links.hooks id v at).one;
        })
      where
        lowered_up : (k : Hook) → (lower e.link k).up ≡ true → ((lower e.link k).link ≡ k.link) × (k.up ≡ true)
        lowered_up k =
            cond_both (k.link == e.link) (record k { next = None; up = false }) k (λ (n : Hook). n.up ≡ true → (n.link ≡ k.link) × (k.up ≡ true))
            (λ p up. absurd (false≢true up)) (λ p up. (refl, up))

        low_first : (es : List ChainLink) → Each (IsLinked v.passes.sizes s.words b) es → first_of es ≤ last_link v.passes.sizes
        low_first [] each = omega arith
        low_first (x ∷ xs) each = low_link x.link (each 0 x refl).some (each 0 x refl).below
          where
            low_link : (x : ℕ) → 0 < x → place_of x < v.passes.sizes.entries → x ≤ last_link v.passes.sizes
            low_link x any low = omega (arith, any, low)

        in_bucket : (g : ChainLink → ℕ) → side v.passes.sizes b g e ≡ g e
        in_bucket g = ap (λ (t : Bool). if t then g e else 0) (eq-eqb (bucket_of v.passes.sizes e.pair) b parts.1.1.placed)

        not_in : (c : ℕ) → c ≢ b → (g : ChainLink → ℕ) → side v.passes.sizes c g e ≡ 0
        not_in c other g =
            ap (λ (t : Bool). if t then g e else 0) (ne_eqb (bucket_of v.passes.sizes e.pair) c (λ same. other (sym same ∙ parts.1.1.placed)))
