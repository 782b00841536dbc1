-- Buckets are locked and given back.
use Rattle.std.proofs.Common.{◌≡◌, ◌≢◌, ℕ, ◌<◌, Bool, true, false, [], ◌∷◌, ◌++◌, refl, sym, ap, subst, ◌∙◌, arith}
use Rattle.std.specs.Prelude.{◌==◌, ◌||◌, not, if◌then◌else◌}
use Rattle.std.proofs.lemmas.Bool.{cond_both, eq-eqb, false≢true, ne_eqb}
use Rattle.history_book.specs.declared.sizes.Sizes.{Sizes}
use Rattle.track_rule.specs.BucketSteps.{IsChainOf, shut_now}
use Rattle.track_rule.specs.Chains.{chain_in, shuts_of}
use Rattle.track_rule.specs.Layout.{gen_word}
use Rattle.track_rule.specs.Readings.{added}
use Rattle.track_rule.specs.Sights.{PassSight, sizes_of}
use Rattle.track_rule.specs.Sums.{bit}
use Rattle.track_rule.specs.declared.view.HeldBuckets.{HeldBuckets}
use Rattle.bucket_table.specs.LockedChain.{OnlyLoads}
use Rattle.bucket_table.specs.Locks.{Buckets, Locks, LocksTwo, changed, is_else, shut_both}
use Rattle.bucket_table.proofs.Passing.{loads_more}
use Rattle.bucket_table.proofs.Reading.{More, added_join, changed_append, changed_none, more_join, more_of, more_own, more_stand, more_weak}

-- a word is not the generation of this bucket
abbrev is_not : Sizes → ℕ → ℕ → Bool
is_not z b word = not (word == gen_word z b)

-- ONE BUCKET

locks_more : (b : ℕ) (v w : PassSight) → Locks b v w → More (is_not (sizes_of v) b) v.view.readings w.view.readings
locks_more b v w locks = more_of (is_not (sizes_of v) b) v.view.readings w.view.readings locks.stand locks.own

-- after loads
pub locks_after : (b : ℕ) (u v w : PassSight) → OnlyLoads u v → Locks b v w → Locks b u w
locks_after b u v w loads locks =
    let sizes : sizes_of v ≡ sizes_of u = ap sizes_of loads.same in
    let more : More (is_not (sizes_of u) b) u.view.readings w.view.readings =
    more_join (is_not (sizes_of u) b) u.view.readings v.view.readings w.view.readings
    (more_weak (λ word. true) (is_not (sizes_of u) b) u.view.readings v.view.readings (λ word e. refl) (loads_more u v loads))
    (subst (λ (z : Sizes). More (is_not z b) v.view.readings w.view.readings) sizes (locks_more b v w locks)) in
    record {
      same = locks.same ∙ ap (λ (x : PassSight). record x {
        view = record x.view {
          buckets = shut_now b (chain_in b w.view.buckets.shut) x.view.buckets;
          walk = w.view.walk;
          readings = w.view.readings;
        };
      }) loads.same;
      chain = subst (λ (z : Sizes). IsChainOf z b (chain_in b w.view.buckets.shut)) sizes locks.chain;
      before = ap (λ (x : PassSight). shuts_of b x.view) (sym loads.same) ∙ locks.before;
      stand = more_stand (is_not (sizes_of u) b) u.view.readings w.view.readings more;
      own = more_own (is_not (sizes_of u) b) u.view.readings w.view.readings more;
      order = ap changed (added_join u.view.readings v.view.readings w.view.readings loads.stand locks.stand)
          ∙ changed_append (added u.view v.view) (added v.view w.view)
          ∙ ap (λ ws. ws ++ changed (added v.view w.view)) (changed_none (added u.view v.view) loads.own)
          ∙ locks.order ∙ ap (λ (z : Sizes). gen_word z b ∷ []) sizes;
    }

-- TWO BUCKETS

-- no word but the generation of one of them is none but those of both
within_lower : (z : Sizes) (locked : Buckets) (word : ℕ) → is_else z locked word ≡ true → is_not z locked.lower word ≡ true
within_lower z locked word e = first (word == gen_word z locked.lower) (word == gen_word z locked.upper) e
  where
    first : (a b : Bool) → not (a || b) ≡ true → not a ≡ true
    first true b e = e
    first false b e = refl

within_upper : (z : Sizes) (locked : Buckets) (word : ℕ) → is_else z locked word ≡ true → is_not z locked.upper word ≡ true
within_upper z locked word e = second (word == gen_word z locked.lower) (word == gen_word z locked.upper) e
  where
    second : (a b : Bool) → not (a || b) ≡ true → not b ≡ true
    second true b e = absurd (false≢true e)
    second false b e = e

lower_more : (locked : Buckets) (v w : PassSight) → Locks locked.lower v w → More (is_else (sizes_of v) locked) v.view.readings w.view.readings
lower_more locked v w locks =
    more_weak (is_not (sizes_of v) locked.lower) (is_else (sizes_of v) locked) v.view.readings w.view.readings (within_lower (sizes_of v) locked)
    (locks_more locked.lower v w locks)

upper_more : (locked : Buckets) (v w : PassSight) → Locks locked.upper v w → More (is_else (sizes_of v) locked) v.view.readings w.view.readings
upper_more locked v w locks =
    more_weak (is_not (sizes_of v) locked.upper) (is_else (sizes_of v) locked) v.view.readings w.view.readings (within_upper (sizes_of v) locked)
    (locks_more locked.upper v w locks)

-- a bucket that was locked is shut
shut_self : (b : ℕ) (v w : PassSight) → Locks b v w → 0 < shuts_of b w.view
shut_self b v w locks = omega (arith, ap (λ (x : PassSight). shuts_of b x.view) locks.same, ap bit (eq-eqb b b refl))

-- the links of the pass stay
pub both_hooks : (locked : Buckets) (after before : HeldBuckets) → (shut_both locked after before).hooks ≡ before.hooks
both_hooks locked after before =
    cond_both (locked.lower == locked.upper) (shut_now locked.lower (chain_in locked.lower after.shut) before)
    (shut_now locked.upper (chain_in locked.upper after.shut) (shut_now locked.lower (chain_in locked.lower after.shut) before))
    (λ (s : HeldBuckets). s.hooks ≡ before.hooks) (λ e. refl) (λ e. refl)

-- the lower one first
pub locks_two : (locked : Buckets) (v u w : PassSight) → locked.lower ≢ locked.upper → Locks locked.lower v u → Locks locked.upper u w → LocksTwo locked v w
locks_two locked v u w other first second =
    let sizes : sizes_of u ≡ sizes_of v = ap sizes_of first.same in
    let keeps : chain_in locked.lower w.view.buckets.shut ≡ chain_in locked.lower u.view.buckets.shut =
    ap (λ (x : PassSight). chain_in locked.lower x.view.buckets.shut) second.same
    ∙ ap (λ (b : Bool). if b then chain_in locked.upper w.view.buckets.shut else chain_in locked.lower u.view.buckets.shut)
    (ne_eqb locked.upper locked.lower (λ e. other (sym e))) in
    let more : More (is_else (sizes_of v) locked) v.view.readings w.view.readings =
    more_join (is_else (sizes_of v) locked) v.view.readings u.view.readings w.view.readings (lower_more locked v u first)
    (subst (λ (z : Sizes). More (is_else z locked) u.view.readings w.view.readings) sizes (upper_more locked u w second)) in
    record {
      same = second.same
          ∙ ap (λ (x : PassSight). record x {
            view = record x.view {
              buckets = shut_now locked.upper (chain_in locked.upper w.view.buckets.shut) x.view.buckets;
              walk = w.view.walk;
              readings = w.view.readings;
            };
          }) first.same
          ∙ (λ i. record v {
            view = record v.view {
              buckets = (if sym (ne_eqb locked.lower locked.upper other) i then shut_now locked.lower (chain_in locked.lower w.view.buckets.shut) v.view.buckets else
                  shut_now locked.upper (chain_in locked.upper w.view.buckets.shut) (shut_now locked.lower (sym keeps i) v.view.buckets));
              walk = w.view.walk;
              readings = w.view.readings;
            };
          });
      shut = record {
        lower = omega (arith, shut_self locked.lower v u first, ap (λ (x : PassSight). shuts_of locked.lower x.view) second.same);
        upper = shut_self locked.upper u w second;
      };
      lower = subst (IsChainOf (sizes_of v) locked.lower) (sym keeps) first.chain;
      upper = subst (λ (z : Sizes). IsChainOf z locked.upper (chain_in locked.upper w.view.buckets.shut)) sizes second.chain;
      before = record {
        lower = first.before;
        upper = omega (arith, second.before, ap (λ (x : PassSight). shuts_of locked.upper x.view) first.same);
      };
      stand = more_stand (is_else (sizes_of v) locked) v.view.readings w.view.readings more;
      own = more_own (is_else (sizes_of v) locked) v.view.readings w.view.readings more;
      order = ap changed (added_join v.view.readings u.view.readings w.view.readings first.stand second.stand)
          ∙ changed_append (added v.view u.view) (added u.view w.view)
          ∙ ap (λ ws. ws ++ changed (added u.view w.view)) first.order
          ∙ ap (λ ws. gen_word (sizes_of v) locked.lower ∷ ws) (second.order ∙ ap (λ (z : Sizes). gen_word z locked.upper ∷ []) sizes)
          ∙ ap (λ (b : Bool). gen_word (sizes_of v) locked.lower ∷ (if b then [] else gen_word (sizes_of v) locked.upper ∷ [])) (sym (ne_eqb locked.lower locked.upper other));
    }
