-- A store of a link keeps the rule, and tells which of three it was: no word and value are of two kinds at once.
use Rattle.std.proofs.Common.{◌⊎◌, ◌≡◌, ℕ, ◌+◌, ◌<◌, ◌≤◌, true, List, [], ◌∷◌, refl, sym, ap, subst, ◌∙◌, ⊎_elim, arith, set}
use Rattle.std.specs.Prelude.{slice_index, slice_set}
use mathlib.Core.Option.{none, some}
use lib.ListN.{get_elem?}
use Rattle.atomic_table.specs.Table.{Allows, State, keeps as unchanged, step}
use Rattle.history_book.specs.declared.sizes.Sizes.{Sizes}
use Rattle.track_rule.specs.declared.slot.Slot.{Slot}
use Rattle.track_rule.specs.declared.view.ChainLink.{ChainLink}
use Rattle.track_rule.specs.declared.view.View.{View}
use Rattle.track_rule.specs.BucketSteps.{Aims, Cuts, IsShutAt, MayString, Puts, StoreLinkStep, Strings, aimed, end_word, first_of, put_in, strung, taken_from}
use Rattle.track_rule.specs.Chains.{bucket_of, is_at_link}
use Rattle.track_rule.specs.Layout.{first_word, head_word, next_word, second_word}
use Rattle.track_rule.specs.Links.{is_down}
use Rattle.track_rule.specs.Rule.{RuleHolds, IsKept, Ledger}
use Rattle.track_rule.specs.Sums.{total}
use Rattle.track_rule.proofs.BucketLoads.{chain_rest, shut_chain}
use Rattle.track_rule.proofs.ChainCuts.{cuts_kept}
use Rattle.track_rule.proofs.ChainLists.{total_rev, unlinked}
use Rattle.track_rule.proofs.ChainStores.{puts_kept}
use Rattle.track_rule.proofs.ChainWords.{next_head, one_head, one_next}
use Rattle.track_rule.proofs.Lists.{same_bit}
use Rattle.track_rule.proofs.OwnWords.{aims_kept, own_link}

module _ (l : Ledger) (s : State Slot View) (id : ℕ) (v : View) (h : IsKept v.passes.sizes l s) (at : get_elem? s.views id ≡ some v)
    (has_some : 0 < v.passes.shares) where
  -- a link in no chain is not one of a chain
  not_both : (b x : ℕ) (passed rest : List ChainLink) → b < v.passes.sizes.buckets → IsShutAt b v passed rest → is_down x v.buckets.hooks ≡ true
      → 1 ≤ total (is_at_link x) passed + total (is_at_link x) rest → ⊥
  not_both b x passed rest below shut down any =
      omega (
        arith,
        any,
        unlinked v.passes.sizes l.log s.words s.views l.chains h.chains b below x id v at (own_link l s id v h at has_some x down).0 down,
        ap (total (is_at_link x)) (shut_chain v.passes.sizes l s h id v at b passed rest below shut),
        total_rev (is_at_link x) passed rest,
      )

  -- the word after such a link is not one of a chain
  aim_not_cut : (b x : ℕ) (passed rest : List ChainLink) → b < v.passes.sizes.buckets → IsShutAt b v passed rest → is_down x v.buckets.hooks ≡ true
      → next_word v.passes.sizes x ≡ end_word v.passes.sizes b passed → ⊥
  aim_not_cut b x [] rest below shut down e = next_head v.passes.sizes x b below e
  aim_not_cut b x (p ∷ ps) rest below shut down e =
      let own = own_link l s id v h at has_some x down in
      let here : x ≡ p.link = one_next v.passes.sizes x p.link own.0 (passed_some b p ps rest below shut) e in
      not_both b x (p ∷ ps) rest below shut down (omega (arith, same_bit p.link x (sym here)))
    where
      passed_some : (b : ℕ) (p : ChainLink) (ps rest : List ChainLink) → b < v.passes.sizes.buckets → IsShutAt b v (p ∷ ps) rest → 0 < p.link
      passed_some b p ps rest below shut =
          (chain_rest v.passes.sizes l s h id v at b ps (p ∷ rest) below (record { mine = shut.mine; all = shut.all })).1.some

  -- nor is it a link of one
  put_not_cut : (b x : ℕ) (passed : List ChainLink) (e : ChainLink) (rest : List ChainLink) → b < v.passes.sizes.buckets → IsShutAt b v passed (e ∷ rest)
      → is_down x v.buckets.hooks ≡ true → x ≡ first_of rest → ⊥
  put_not_cut b x passed e [] below shut down same = omega (arith, same, (own_link l s id v h at has_some x down).0)
  put_not_cut b x passed e (r ∷ rs) below shut down same =
      not_both b x passed (e ∷ r ∷ rs) below shut down (omega (arith, same_bit r.link x (sym same)))

  aims_told : (x to : ℕ) → is_down x v.buckets.hooks ≡ true
      → Strings (next_word v.passes.sizes x) to v (strung (next_word v.passes.sizes x) to (aimed x to v.buckets) v)
  aims_told x to down =
      let own = own_link l s id v h at has_some x down in
      record {
        aims = λ y down' e.
            ap (λ (k : ℕ). strung (next_word v.passes.sizes x) to (aimed k to v.buckets) v)
            (one_next v.passes.sizes x y own.0 (own_link l s id v h at has_some y down').0 e);
        puts = λ b below e down'. absurd (next_head v.passes.sizes x b below e);
        cuts = λ b passed e rest below shut there to_is. absurd (aim_not_cut b x passed (e ∷ rest) below shut down there);
        same = refl;
      }

  puts_told : (b x : ℕ) → b < v.passes.sizes.buckets → is_down x v.buckets.hooks ≡ true
      → Strings (head_word v.passes.sizes b) x v (strung (head_word v.passes.sizes b) x (put_in b x v.buckets) v)
  puts_told b x below down = record {
    aims = λ y down' e. absurd (next_head v.passes.sizes y b below (sym e));
    puts = λ c under e down'. ap (λ (k : ℕ). strung (head_word v.passes.sizes b) x (put_in k x v.buckets) v) (one_head v.passes.sizes b c e);
    cuts = λ c passed e rest under shut there to_is. absurd (put_not_cut c x passed e rest under shut down to_is);
    same = refl;
  }

  cuts_told : (b : ℕ) (passed : List ChainLink) (e : ChainLink) (rest : List ChainLink) → b < v.passes.sizes.buckets → IsShutAt b v passed (e ∷ rest)
      → Strings (end_word v.passes.sizes b passed) (first_of rest) v (strung (end_word v.passes.sizes b passed) (first_of rest) (taken_from b e.link v.buckets) v)
  cuts_told b passed e rest below shut =
      let z : Sizes = v.passes.sizes in
      let here = chain_rest z l s h id v at b passed (e ∷ rest) below shut in
      record {
        aims = λ y down' there. absurd (aim_not_cut b y passed (e ∷ rest) below shut down' (sym there));
        puts = λ c under there down'. absurd (put_not_cut b (first_of rest) passed e rest below shut down' refl);
        cuts = λ c passed' e' rest' under shut' there to_is.
            let other = chain_rest z l s h id v at c passed' (e' ∷ rest') under shut' in
            let link : e.link ≡ e'.link = sym here.0 ∙ ap (slice_index s.words) there ∙ other.0 in
            let bucket : b ≡ c =
            sym here.1.placed
            ∙ sym (λ i. bucket_of z (record { first = here.1.first i; second = here.1.second i }))
            ∙ (λ i. bucket_of z (record { first = slice_index s.words (first_word z (link i)); second = slice_index s.words (second_word z (link i)) }))
            ∙ (λ i. bucket_of z (record { first = other.1.first i; second = other.1.second i })) ∙ other.1.placed in
            (λ i. strung (end_word z b passed) (first_of rest) (taken_from (bucket i) (link i) v.buckets) v);
        same = refl;
      }

-- a store of a link keeps the rule
pub stores_link : (slots id word to : ℕ) (v : View) (c : List (ℕ × Slot)) → MayString word to v → 0 < v.passes.shares
    → Allows (RuleHolds v.passes.sizes) slots id (v, c) word (λ _. to) (λ _. StoreLinkStep (step slots word to 0 none) (v, c) to)
stores_link slots id word to v c may has_some s (l, h) long at range =
    let z : Sizes = v.passes.sizes in
    let Told : ℕ → ℕ → Type 0 = λ (k n : ℕ).
    (w : View) × RuleHolds z (record { words = slice_set s.words k n; homes = s.homes; views = set s.views id w }) × Strings k n v w in
    let done : Told word to =
    ⊎_elim
    (λ (t : Aims word to v).
    subst (λ (k : ℕ). Told k to) (sym t.word_is) (
      strung (next_word z t.link) to (aimed t.link to v.buckets) v,
      (l, aims_kept l s id v t.link to h at has_some t.down t.to_low),
      aims_told l s id v h at has_some t.link to t.down,
    ))
    (λ (u : Puts word to v ⊎ Cuts word to v).
    ⊎_elim
    (λ (t : Puts word to v).
    subst (λ (k : ℕ). Told k to) (sym t.word_is) (
      strung (head_word z t.bucket) to (put_in t.bucket to v.buckets) v,
      (_, puts_kept l s id t.bucket to v h at has_some t.below t.mine t.down t.next t.placed t.owned t.before t.alone),
      puts_told l s id v h at has_some t.bucket to t.below t.down,
    ))
    (λ (t : Cuts word to v).
    subst (λ (k : ℕ). Told k to) (sym t.word_is)
    (subst (λ (n : ℕ). Told (end_word z t.bucket t.passed) n) (sym t.to_is) (
      strung (end_word z t.bucket t.passed) (first_of t.rest) (taken_from t.bucket t.link.link v.buckets) v,
      (_, cuts_kept l s id t.bucket v h at has_some t.below t.passed t.link t.rest t.at t.up),
      cuts_told l s id v h at has_some t.bucket t.passed t.link t.rest t.below t.at,
    )))
    u)
    may in
    (done.0, unchanged, tt, done.1, (done.2, refl))
