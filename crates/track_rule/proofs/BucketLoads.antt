-- Loads of a generation, of a link, and of a word of a tuple.
use Rattle.std.proofs.Common.{◌≡◌, ℕ, ◌+◌, ◌-◌, ◌*◌, ◌/◌, ◌%◌, ◌<◌, ◌≤◌, Bool, true, false, Option, Some, List, ◌∷◌, refl, sym, ap, subst, ◌∙◌, ⊎_elim, arith, set}
use Rattle.std.specs.Prelude.{slice_index, slice_set, nat_le, nat_lt, ◌==◌, ◌&&◌, ◌||◌}
use Rattle.std.proofs.lemmas.Bool.{and_from, and_parts, cases_Bool, eq-eqb, leb-true, ltb-true}
use Rattle.std.proofs.lemmas.Bool.Decides.{nat_tests}
use mathlib.Core.Option.{none, some}
use lib.ListN.{get_elem?}
use Rattle.atomic_table.specs.Table.{Allows, State, keeps as unchanged, step}
use Rattle.history_book.specs.declared.sizes.Sizes.{Sizes}
use Rattle.track_rule.specs.declared.slot.Slot.{Slot}
use Rattle.track_rule.specs.declared.view.ChainLink.{ChainLink}
use Rattle.track_rule.specs.declared.view.Hook.{Hook}
use Rattle.track_rule.specs.declared.view.Shut.{Shut}
use Rattle.track_rule.specs.declared.view.View.{View}
use Rattle.track_rule.specs.declared.view.Walk.{Walk}
use Rattle.track_rule.specs.BucketSteps.{IsChainOf, IsShutAt, LoadGenStep, LoadLinkStep, LoadTupleStep, LoadsGen, end_word, has_link}
use Rattle.track_rule.specs.Chains.{IsChain, bucket_of, hooks_at, shuts_of}
use Rattle.track_rule.specs.Layout.{first_word, gen_at, gen_word, head_word, next_word, second_word, word_count}
use Rattle.track_rule.specs.Links.{IsHook, hook_of, hooks_of, is_link_word, is_tuple_word, kind_of, last_link}
use Rattle.track_rule.specs.Notes.{link_note, note_then, tuple_note}
use Rattle.track_rule.specs.Passes.{IsPass}
use Rattle.track_rule.specs.Readings.{found, noted}
use Rattle.track_rule.specs.Rule.{RuleHolds, IsKept, Ledger}
use Rattle.track_rule.specs.Sums.{bit, total}
use Rattle.track_rule.specs.Walks.{IsWalk, rev_onto}
use Rattle.track_rule.proofs.Balance.{Moves, pass_moved, bucket_lines}
use Rattle.track_rule.proofs.ChainLists.{chain_at, chain_first, chain_of, linked_up}
use Rattle.track_rule.proofs.HookLists.{hook_test, hook_there, some_hook, test_there}
use Rattle.track_rule.proofs.KeptWords.{tuples_told}
use Rattle.track_rule.proofs.Loads.{others_there, reads}
use Rattle.track_rule.proofs.Sums.{total_term}
use Rattle.track_rule.proofs.Walking.{link_note_is, note_is, note_of, tuple_note_is, was_chain}

-- two buckets have two generations
pub one_gen : (z : Sizes) (b c : ℕ) → gen_word z b ≡ gen_word z c → b ≡ c
one_gen z b c e = omega (arith, e)

-- a load after which at most the note differs, and the readings
pub note_read : (z : Sizes) (l : Ledger) (s : State Slot View) (id i : ℕ) (v : View) (walk : Option Walk) → IsKept z l s → get_elem? s.views id ≡ some v
    → 0 < v.passes.shares → ((m : Walk) → walk ≡ Some m → IsWalk z s.words l.chains v.seen.front m)
    → IsKept z l (record { words = slice_set s.words i (slice_index s.words i); homes = s.homes; views = set s.views id (noted (found i (slice_index s.words i)) (record v { walk = walk })) })
note_read z l s id i v walk h at has_some is_walk =
    let w : View = noted (found i (slice_index s.words i)) (record v { walk = walk }) in
    let one : IsPass z l.log v = h.passes.each id v at in
    let m : Moves v w = record { made = record { passes = refl; own = refl; gathered = refl }; commit = refl; expected = refl } in
    reads z l s id i v w h at m (pass_moved z l.log v w one m.made has_some one.front one.told) refl refl
    (bucket_lines z l s id v w h at refl (λ q. omega arith) (λ q. omega arith) is_walk) has_some
    (record { reading = found i (slice_index s.words i); more = refl; word = refl; value = refl })

-- a load of a generation
pub loads_gen : (slots id b : ℕ) (v : View) (c : List (ℕ × Slot)) → b < v.passes.sizes.buckets → 0 < v.passes.shares
    → Allows (RuleHolds v.passes.sizes) slots id (v, c) (gen_word v.passes.sizes b) (λ n. n)
    (LoadGenStep (step slots (gen_word v.passes.sizes b) 0 0 none) (v, c))
loads_gen slots id b v c below has_some s (l, h) long at range =
    let z : Sizes = v.passes.sizes in
    let n : ℕ = gen_at z s.words b in
    let w : View = noted (found (gen_word z b) n) (record v { walk = Some (note_then b n v.walk) }) in
    let told : LoadsGen b v n w = record {
      view = refl;
      walk = note_of b n v.walk;
      last = h.links.gens b below;
      shut = λ any. omega (arith, any, h.chains.gens b below, total_term (shuts_of b) s.views id v at, half n);
      sole = λ one. h.readings one id v at has_some (gen_word z b);
      others = λ odd mine.
          others_there l s id v h at has_some (shuts_of b) (λ u k. ap (λ (xs : List Shut). total (λ (x : Shut). bit (x.bucket == b)) xs) k.shut)
          (omega (arith, odd, mine, h.chains.gens b below));
      least = λ m e here. let k = h.walks.each id v at m e in omega (arith, k.least, ap (gen_at z s.words) here);
      again = λ m e k even.
          was_chain z l.log s.words s.views l.chains v.seen.front m h.chains (h.walks.each id v at m e) (ap (gen_at z s.words) k.bucket_is ∙ sym k.generation_is)
          (omega (arith, even, k.generation_is));
    } in (
      w,
      unchanged,
      tt,
      (
        l,
        note_read z l s id (gen_word z b) v (Some (note_then b n v.walk)) h at has_some
            (λ m e. subst (IsWalk z s.words l.chains v.seen.front) (same_note (note_then b n v.walk) m e)
            (note_is z s.words l.chains v.seen.front b v.walk below (h.walks.each id v at))),
      ),
      λ a same. subst (λ (k : ℕ). LoadsGen k v n w × (c ≡ c)) (one_gen z b a same) (told, refl),
    )
  where
    half : (n : ℕ) → n % 2 < 2
    half n = omega arith

    same_note : (m k : Walk) → Some m ≡ Some k → m ≡ k
    same_note m k e = cc

-- words of links and of tuples are words of the table
pub link_word_low : (z : Sizes) (word : ℕ) → is_link_word z word ≡ true → word < word_count z
link_word_low z word is = grind (arith, nat_tests)

pub tuple_word_low : (z : Sizes) (word : ℕ) → is_tuple_word z word ≡ true → word < word_count z
tuple_word_low z word is = grind (arith, nat_tests)

-- the word of a link has a link
link_low : (z : Sizes) (l : Ledger) (s : State Slot View) (word : ℕ) → IsKept z l s → is_link_word z word ≡ true → slice_index s.words word ≤ last_link z
link_low z l s word h is =
    ⊎_elim
    (λ (e : (nat_le (3 + z.buckets) word && nat_lt word (3 + 2 * z.buckets)) ≡ true).
    let parts = and_parts (nat_le (3 + z.buckets) word) (nat_lt word (3 + 2 * z.buckets)) e in
    let low : 3 + z.buckets ≤ word = leb-true (3 + z.buckets) word parts.0 in
    let high : word < 3 + 2 * z.buckets = ltb-true word (3 + 2 * z.buckets) parts.1 in
    let there : head_word z (word - (3 + z.buckets)) ≡ word = omega (arith, low) in
    subst (λ (k : ℕ). slice_index s.words k ≤ last_link z) there (h.links.heads (word - (3 + z.buckets)) (omega (arith, low, high))))
    (λ (e : (nat_le (3 + z.buckets) word && nat_lt word (3 + 2 * z.buckets)) ≡ false).
    let rest : (nat_le (3 + 2 * z.buckets) word && nat_lt word (word_count z) && nat_le 7 (kind_of z word)) ≡ true =
    sym (ap (λ (k : Bool). k || (nat_le (3 + 2 * z.buckets) word && nat_lt word (word_count z) && nat_le 7 (kind_of z word))) e) ∙ is in
    let parts = and_parts (nat_le (3 + 2 * z.buckets) word && nat_lt word (word_count z)) (nat_le 7 (kind_of z word)) rest in
    let more = and_parts (nat_le (3 + 2 * z.buckets) word) (nat_lt word (word_count z)) parts.0 in
    next_low (word - (3 + 2 * z.buckets)) (leb-true (3 + 2 * z.buckets) word more.0) (ltb-true word (word_count z) more.1) (leb-true 7 (kind_of z word) parts.1) refl)
    (cases_Bool (nat_le (3 + z.buckets) word && nat_lt word (3 + 2 * z.buckets)))
  where
    next_low : (k : ℕ) → 3 + 2 * z.buckets ≤ word → word < word_count z → 7 ≤ kind_of z word → k ≡ word - (3 + 2 * z.buckets) → slice_index s.words word ≤ last_link z
    next_low k low high kind same =
        let x : ℕ = 1 + 2 * (k / 9) + (k % 9 - 7) in
        let there : next_word z (1 + 2 * (k / 9) + (k % 9 - 7)) ≡ word = omega (arith, low, kind, same) in
        subst (λ (w : ℕ). slice_index s.words w ≤ last_link z) there (h.links.nexts (1 + 2 * (k / 9) + (k % 9 - 7)) (omega arith) (omega (arith, low, high, kind, same)))

-- the chain of a bucket that the pass has shut
module _ (z : Sizes) (l : Ledger) (s : State Slot View) (h : IsKept z l s) (id : ℕ) (v : View) (at : get_elem? s.views id ≡ some v) where
  pub shut_chain : (b : ℕ) (passed rest : List ChainLink) → b < z.buckets → IsShutAt b v passed rest → l.chains b ≡ rev_onto passed rest
  shut_chain b passed rest below k = sym (h.chains.mine b below id v at k.mine) ∙ k.all

  pub chain_rest : (b : ℕ) (passed rest : List ChainLink) → b < z.buckets → IsShutAt b v passed rest → IsChain z s.words b (slice_index s.words (end_word z b passed)) rest
  chain_rest b passed rest below k =
      chain_at z s.words b passed rest (slice_index s.words (head_word z b)) refl
      (subst (IsChain z s.words b (slice_index s.words (head_word z b))) (shut_chain b passed rest below k) (h.chains.linked b below))

-- a load of a link
pub loads_link : (slots id word : ℕ) (v : View) (c : List (ℕ × Slot)) → is_link_word v.passes.sizes word ≡ true → 0 < v.passes.shares
    → Allows (RuleHolds v.passes.sizes) slots id (v, c) word (λ n. n) (LoadLinkStep (step slots word 0 0 none) (v, c))
loads_link slots id word v c is has_some s (l, h) long at range =
    let z : Sizes = v.passes.sizes in
    let n : ℕ = slice_index s.words word in (
      noted (found word n) (record v { walk = link_note z word n v.walk }),
      unchanged,
      tt,
      (
        l,
        note_read z l s id word v (link_note z word n v.walk) h at has_some
            (link_note_is z s.words l.chains v.seen.front word v.walk h.chains.linked (h.walks.each id v at)),
      ),
      (
        record {
          view = refl;
          link = link_low z l s word h is;
          sole = λ one. h.readings one id v at has_some word;
          next = λ b passed rest below k there.
              ap (slice_index s.words) there ∙ chain_first z s.words b (slice_index s.words (end_word z b passed)) rest (chain_rest z l s h id v at b passed rest below k);
          up = λ b x below mine up placed.
              let any : 0 < hooks_of x v.buckets.hooks = some_hook x (λ (k : Hook). k.up) v.buckets.hooks up in
              let there = hook_there x (IsHook z s.words) v.buckets.hooks any (h.links.hooks id v at).each in
              let one : hooks_of x v.buckets.hooks ≤ 1 = omega (arith, h.chains.lone x (omega (arith, there.0.some, there.1)), total_term (hooks_at x) s.views id v at) in
              let its : ((hook_of x v.buckets.hooks).up && bucket_of z (hook_of x v.buckets.hooks).pair == b) ≡ true =
              and_from (hook_of x v.buckets.hooks).up (bucket_of z (hook_of x v.buckets.hooks).pair == b)
              (hook_test x (λ (k : Hook). k.up) v.buckets.hooks one up)
              (eq-eqb (bucket_of z (hook_of x v.buckets.hooks).pair) b placed) in
              ap (has_link x) (h.chains.mine b below id v at mine)
              ∙ linked_up z l.log s.words s.views l.chains h.chains b below x id v at
              (test_there x (λ (k : Hook). k.up && bucket_of z k.pair == b) v.buckets.hooks any its);
          whole = λ b below mine.
              subst (IsChainOf z b) (sym (h.chains.mine b below id v at mine)) (chain_of z l.log s.words s.views l.chains h.chains b below);
        },
        refl,
      ),
    )

-- a load of a word of a tuple
pub loads_tuple : (slots id word : ℕ) (v : View) (c : List (ℕ × Slot)) → 0 < v.passes.shares
    → Allows (RuleHolds v.passes.sizes) slots id (v, c) word (λ n. n) (LoadTupleStep (step slots word 0 0 none) (v, c))
loads_tuple slots id word v c has_some s (l, h) long at range =
    let z : Sizes = v.passes.sizes in
    let n : ℕ = slice_index s.words word in (
      noted (found word n) (record v { walk = tuple_note z word n v.walk }),
      unchanged,
      tt,
      (
        l,
        note_read z l s id word v (tuple_note z word n v.walk) h at has_some
            (tuple_note_is z s.words l.chains v.seen.front word v.walk h.chains.linked (h.walks.each id v at)),
      ),
      (
        record {
          view = refl;
          sole = λ one. h.readings one id v at has_some word;
          first = λ b passed e rest below k there. ap (slice_index s.words) there ∙ (chain_rest z l s h id v at b passed (e ∷ rest) below k).1.first;
          second = λ b passed e rest below k there. ap (slice_index s.words) there ∙ (chain_rest z l s h id v at b passed (e ∷ rest) below k).1.second;
          own_first = λ x any there.
              let k = hook_there x (IsHook z s.words) v.buckets.hooks any (h.links.hooks id v at).each in
              ap (slice_index s.words) there ∙ ap (λ (y : ℕ). slice_index s.words (first_word z y)) (sym k.1) ∙ k.0.first;
          own_second = λ x any there.
              let k = hook_there x (IsHook z s.words) v.buckets.hooks any (h.links.hooks id v at).each in
              ap (slice_index s.words) there ∙ ap (λ (y : ℕ). slice_index s.words (second_word z y)) (sym k.1) ∙ k.0.second;
          kept = λ p i subject d held told.
              let its = tuples_told z l.log v.seen.front s.words i p subject (h.passes.each id v at).front (h.kept_words.each id v at p i held) told d in
              record { first = λ there. ap (slice_index s.words) there ∙ its.first; second = λ there. ap (slice_index s.words) there ∙ its.second };
        },
        refl,
      ),
    )
