-- Both buckets of a flow are locked, and given back.
use Rattle.std.proofs.Common.{◌≡◌, ℕ, ◌<◌, Bool, true, false, List, [], ◌∷◌, refl, sym, ap, subst, ◌∙◌, ⊎_elim}
use Rattle.std.specs.Prelude.{◌==◌, ◌||◌, if◌then◌else◌}
use Rattle.std.proofs.lemmas.Bool.{cases_Bool, cond_both, eq-eqb, eqb-true, or_from, or_parts}
use Rattle.history_book.specs.declared.record.Flow.{Flow}
use Rattle.history_book.specs.declared.sizes.Sizes.{Sizes}
use Rattle.tuple_core.specs.Hash as hash
use Rattle.track_rule.specs.BucketSteps.{IsChainOf, opened_of, shut_now}
use Rattle.track_rule.specs.Chains.{chain_in, each_link}
use Rattle.track_rule.specs.CommitSteps.{dropped}
use Rattle.track_rule.specs.Sights.{PassSight, sizes_of}
use Rattle.track_rule.specs.declared.view.HeldBuckets.{HeldBuckets}
use Rattle.track_rule.specs.declared.view.Hook.{Hook}
use Rattle.track_rule.specs.declared.view.Shut.{Shut}
use Rattle.track_rule.specs.declared.view.View.{View}
use Rattle.bucket_table.specs.Following.{bucket_in}
use Rattle.bucket_table.specs.LockedChain.{has_bucket}
use Rattle.bucket_table.specs.Locks.{AreWhole, Buckets, LocksTwo, buckets_of, open_both, shut_both}
use Rattle.shared_desk.specs.Commit.{is_any_up, shut_buckets}
use Rattle.shared_desk.specs.Confirm.{LocksFlow, names_of}
use Rattle.shared_desk.proofs.Clashing.{none_loose}
use Rattle.shared_desk.proofs.Entering.{has_first, has_second}

-- LOCKING

-- locks change what is shut alone
shut_alone : (locked : Buckets) (after before : HeldBuckets) → shut_both locked after before ≡ record before { shut = (shut_both locked after before).shut }
shut_alone locked after before =
    cond_both (locked.lower == locked.upper) (shut_now locked.lower (chain_in locked.lower after.shut) before)
    (shut_now locked.upper (chain_in locked.upper after.shut) (shut_now locked.lower (chain_in locked.lower after.shut) before))
    (λ (t : HeldBuckets). t ≡ record before { shut = t.shut }) (λ e. refl) (λ e. refl)

both_names : (locked : Buckets) (after before : HeldBuckets) → before.shut ≡ [] → shut_buckets (shut_both locked after before).shut ≡ names_of locked
both_names locked after before none_shut = by_test (locked.lower == locked.upper)
  where
    by_test : (b : Bool) → shut_buckets (if b then shut_now locked.lower (chain_in locked.lower after.shut) before else
        shut_now locked.upper (chain_in locked.upper after.shut) (shut_now locked.lower (chain_in locked.lower after.shut) before)).shut
        ≡ (if b then locked.lower ∷ [] else locked.upper ∷ locked.lower ∷ [])
    by_test true = ap (λ xs. locked.lower ∷ shut_buckets xs) none_shut
    by_test false = ap (λ xs. locked.upper ∷ locked.lower ∷ shut_buckets xs) none_shut

either_chain : (z : Sizes) (locked : Buckets) (b : ℕ) (shut : List Shut) → IsChainOf z locked.lower (chain_in locked.lower shut) → IsChainOf z locked.upper (chain_in locked.upper shut)
    → has_bucket locked b ≡ true → IsChainOf z b (chain_in b shut)
either_chain z locked b shut lower upper e =
    ⊎_elim
    (λ (t : (b == locked.lower) ≡ true). subst (λ (k : ℕ). IsChainOf z k (chain_in k shut)) (sym (eqb-true b locked.lower t)) lower)
    (λ (t : (b == locked.lower) ≡ false).
    subst (λ (k : ℕ). IsChainOf z k (chain_in k shut)) (sym (eqb-true b locked.upper (sym (ap (λ (k : Bool). k || b == locked.upper) t) ∙ e))) upper)
    (cases_Bool (b == locked.lower))

pub locked_flow : (z : Sizes) (flow : Flow) (a b : ℕ) (locked : Buckets) (v w : PassSight) → v.view.buckets.shut ≡ [] → z ≡ sizes_of v
    → a ≡ hash.bucket_of flow.original z.seed z.buckets → a < z.buckets → b ≡ hash.bucket_of flow.reply z.seed z.buckets → b < z.buckets
    → locked ≡ buckets_of a b → LocksTwo locked v w → LocksFlow flow locked v w
locked_flow z flow a b locked v w none_shut sizes a_is a_below b_is b_below locked_is locks =
    let now : z ≡ sizes_of w = sizes ∙ sym (ap sizes_of locks.same) in
    let first : a ≡ bucket_in (sizes_of w) flow.original = a_is ∙ ap (λ (y : Sizes). bucket_in y flow.original) now in
    let second : b ≡ bucket_in (sizes_of w) flow.reply = b_is ∙ ap (λ (y : Sizes). bucket_in y flow.reply) now in
    let buckets : w.view.buckets ≡ shut_both locked w.view.buckets v.view.buckets = ap (λ (k : PassSight). k.view.buckets) locks.same in
    let alone : w.view.buckets ≡ record v.view.buckets { shut = w.view.buckets.shut } =
    subst (λ (t : HeldBuckets). t ≡ record v.view.buckets { shut = t.shut }) (sym buckets) (shut_alone locked w.view.buckets v.view.buckets) in
    let are : locked ≡ buckets_of (bucket_in (sizes_of w) flow.original) (bucket_in (sizes_of w) flow.reply) = locked_is ∙ (λ i. buckets_of (first i) (second i)) in
    let lower : IsChainOf (sizes_of w) locked.lower (chain_in locked.lower w.view.buckets.shut) =
    subst (λ (y : Sizes). IsChainOf y locked.lower (chain_in locked.lower w.view.buckets.shut)) (sym sizes ∙ now) locks.lower in
    let upper : IsChainOf (sizes_of w) locked.upper (chain_in locked.upper w.view.buckets.shut) =
    subst (λ (y : Sizes). IsChainOf y locked.upper (chain_in locked.upper w.view.buckets.shut)) (sym sizes ∙ now) locks.upper in
    record {
      same = locks.same ∙ (λ i. record v {
        view = record v.view {
          buckets = (sym buckets ∙ alone) i;
          walk = w.view.walk;
          readings = w.view.readings;
        };
      });
      is = record {
        locked_are = are;
        original_below = subst (λ (k : ℕ). k < (sizes_of w).buckets) first (subst (λ (y : Sizes). a < y.buckets) now a_below);
        reply_below = subst (λ (k : ℕ). k < (sizes_of w).buckets) second (subst (λ (y : Sizes). b < y.buckets) now b_below);
        shut = locks.shut;
        names = ap (λ (k : HeldBuckets). shut_buckets k.shut) buckets ∙ both_names locked w.view.buckets v.view.buckets none_shut;
        original_chain = either_chain (sizes_of w) locked (bucket_in (sizes_of w) flow.original) w.view.buckets.shut lower upper
            (ap (λ (l : Buckets). has_bucket l (bucket_in (sizes_of w) flow.original)) are ∙ has_first (bucket_in (sizes_of w) flow.original) (bucket_in (sizes_of w) flow.reply));
        reply_chain = either_chain (sizes_of w) locked (bucket_in (sizes_of w) flow.reply) w.view.buckets.shut lower upper
            (ap (λ (l : Buckets). has_bucket l (bucket_in (sizes_of w) flow.reply)) are ∙ has_second (bucket_in (sizes_of w) flow.original) (bucket_in (sizes_of w) flow.reply));
      };
      stand = locks.stand;
      order = locks.order;
    }

-- GIVING BACK

abbrev opened : ℕ → List ℕ → List ℕ
opened b [] = []
opened b (n ∷ ns) = (if n == b then ns else n ∷ opened b ns)

opened_shut : (b : ℕ) (shut : List Shut) → shut_buckets (opened_of b shut) ≡ opened b (shut_buckets shut)
opened_shut b [] = refl
opened_shut b (s ∷ rest) =
    cond_both (s.bucket == b) rest (s ∷ opened_of b rest) (λ xs. shut_buckets xs ≡ (if s.bucket == b then shut_buckets rest else s.bucket ∷ opened b (shut_buckets rest)))
    (λ e. sym (ap (λ (k : Bool). if k then shut_buckets rest else s.bucket ∷ opened b (shut_buckets rest)) e))
    (λ e. ap (λ bs. s.bucket ∷ bs) (opened_shut b rest) ∙ sym (ap (λ (k : Bool). if k then shut_buckets rest else s.bucket ∷ opened b (shut_buckets rest)) e))

opened_front : (b : ℕ) (ns : List ℕ) → opened b (b ∷ ns) ≡ ns
opened_front b ns = ap (λ (k : Bool). if k then ns else b ∷ opened b ns) (eq-eqb b b refl)

no_names : (shut : List Shut) → shut_buckets shut ≡ [] → shut ≡ []
no_names [] e = refl
no_names (s ∷ rest) e = cc

-- no bucket is shut then
pub all_open : (locked : Buckets) (shut : List Shut) → shut_buckets shut ≡ names_of locked → open_both locked shut ≡ []
all_open locked shut names = no_names (open_both locked shut) (by_test (locked.lower == locked.upper) names)
  where
    by_test : (b : Bool) → shut_buckets shut ≡ (if b then locked.lower ∷ [] else locked.upper ∷ locked.lower ∷ [])
        → shut_buckets (if b then opened_of locked.lower shut else opened_of locked.lower (opened_of locked.upper shut)) ≡ []
    by_test true e = opened_shut locked.lower shut ∙ ap (opened locked.lower) e ∙ opened_front locked.lower []
    by_test false e =
        opened_shut locked.lower (opened_of locked.upper shut) ∙ ap (opened locked.lower) (opened_shut locked.upper shut ∙ ap (opened locked.upper) e ∙ opened_front locked.upper (locked.lower ∷ []))
        ∙ opened_front locked.lower []

-- no link of the pass is in their chains
pub whole_from : (z : Sizes) (locked : Buckets) (v : View) → is_any_up v.buckets.hooks ≡ false → AreWhole z locked v
whole_from z locked v down = record {
  lower = none_loose z locked.lower each_link v.buckets.hooks down;
  upper = none_loose z locked.upper each_link v.buckets.hooks down;
}

-- hooks that go leave none that is up
pub dropped_down : (x : ℕ) (hooks : List Hook) → is_any_up hooks ≡ false → is_any_up (dropped x hooks) ≡ false
dropped_down x [] e = refl
dropped_down x (h ∷ hs) e =
    let parts = or_parts h.up (is_any_up hs) e in
    cond_both (h.link == x) hs (h ∷ dropped x hs) (λ ks. is_any_up ks ≡ false) (λ t. parts.1)
    (λ t. or_from h.up (is_any_up (dropped x hs)) parts.0 (dropped_down x hs parts.1))
