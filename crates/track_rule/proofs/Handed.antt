-- Shares are handed over, a pass takes in another one, the first pass begins, and the last one ends.
use Rattle.std.proofs.lemmas.Bool.{cases_lt, false≢true}
use Rattle.track_rule.proofs.Lists.{same_bit}
use Rattle.std.specs.Prelude.{slice_get, slice_index, nat_le, nat_lt, ◌&&◌, if◌then◌else◌}
use Rattle.std.proofs.Common.{List, None, Option, Some, [], ap, arith, length, length-append, refl, set, subst, sym, true, ℕ, ⊎_elim, ◌++◌, ◌+◌, ◌-◌, ◌<◌, ◌^◌, ◌∙◌, ◌∷◌, ◌≡◌, ◌≤◌}
use Rattle.std.proofs.lemmas.Bool.Decides.{nat_tests}
use Rattle.history_book.specs.History.{is_legal}
use Rattle.std.proofs.lemmas.List.Elements.{All-append}
use Rattle.std.proofs.lemmas.Option.{none-some}
use mathlib.Core.Option.{Option as Slotted, some, some-injective, some-ne-none}
use lib.ListN.{get_elem?}
use Rattle.atomic_table.specs.Table.{Joins, Splits, State}
use Rattle.atomic_table.proofs.Lists.{set_else}
use Rattle.expect_table.specs.declared.expectation.Expectation.{Expectation}
use Rattle.history_book.specs.declared.event.Event.{Event}
use Rattle.history_book.specs.declared.event.Note.{Note}
use Rattle.history_book.specs.declared.sizes.Sizes.{Sizes}
use Rattle.track_rule.specs.declared.slot.Slot.{Slot}
use Rattle.track_rule.specs.declared.view.Places.{Places}
use Rattle.track_rule.specs.declared.view.Hook.{Hook}
use Rattle.track_rule.specs.declared.view.HeldBuckets.{HeldBuckets}
use Rattle.track_rule.specs.declared.view.View.{View}
use Rattle.track_rule.specs.declared.view.Walk.{Walk}
use Rattle.track_rule.specs.declared.view.Commit.{Commit}
use Rattle.track_rule.specs.Chains.{each_link, chain_link, side}
use Rattle.track_rule.specs.Commits.{IsMiddle, shuts_in}
use Rattle.track_rule.specs.Free.{IsFreeList, owes, turn_of}
use Rattle.track_rule.specs.History.{events_in, live_in, records_after}
use Rattle.track_rule.specs.Layout.{phase_at}
use Rattle.track_rule.specs.Links.{HasHooks, hooks_of}
use Rattle.track_rule.specs.Passes.{AreFronts, ArePasses, HasNothing, IsPass, IsSpent, has_share, made_weight, no_places, shares_of}
use Rattle.track_rule.specs.References.{AreKept, AreReferences, ends, held_times, is_at, is_for_new, keeps, taken_times, takes}
use Rattle.track_rule.specs.Phases.{middle_of, middle_weight, of_place, table_keeps}
use Rattle.track_rule.specs.Readings.{AreRead}
use Rattle.track_rule.specs.Rule.{RuleHolds, IsKept, Ledger}
use Rattle.track_rule.specs.Shares.{IsLast, further, joined, shares_left, spent_view}
use Rattle.track_rule.specs.Sums.{Each, bit, times, total}
use Rattle.track_rule.specs.Walks.{IsWalk}
use Rattle.track_rule.proofs.Carried.{Carries, carries_cut, carries_join}
use Rattle.track_rule.proofs.Frames.{Leaves, Quiet, SameChains, chains_stay, kept, links_stay, no_commit, no_buckets, quiet_chains, quiet_still}
use Rattle.track_rule.proofs.KeptWords.{words_carry}
use Rattle.track_rule.proofs.Loads.{few_events, word_events, word_live}
use Rattle.track_rule.proofs.Sums.{each_more, each_put, total_append, total_only, total_same, total_set, total_term, total_two}

-- the references and the free list where all views together have the same places and the same turn
references_carry : (z : Sizes) (log : List Event) (ws : List ℕ) (vs vs' : List View) → Carries (λ (v : View). v.places) no_places vs vs'
    → Each (λ v. (p : ℕ) → times p v.places.carried ≤ takes p v + middle_of (of_place p) v + ends p v) vs' → AreReferences z log ws vs → AreReferences z log ws vs'
references_carry z log ws vs vs' c carried h = record {
  counted = λ p below. h.counted p below ∙ ap (λ (n : ℕ). n + table_keeps (phase_at z ws p)) (sym (kept_by p));
  beyond = λ p above. kept_by p ∙ h.beyond p above;
  carried = c.each (λ (x : Places). (p : ℕ) → times p x.carried ≤ held_times p x.held) (λ p. omega arith) h.carried;
  carried_for = carried;
  taken = λ p. omega (
    arith,
    h.taken p,
    c.sums (λ (x : Places). total (λ k. bit (is_at p k && is_for_new k.purpose)) x.held) refl,
    c.sums (λ (x : Places). times p x.ended) refl,
  );
  purposes = c.each (λ (x : Places). AreKept log x.held) tt h.purposes;
}
  where
    kept_by : (p : ℕ) → total (keeps p) vs' ≡ total (keeps p) vs
    kept_by p = c.sums (λ (x : Places). held_times p x.held + times p x.carried) refl

free_carry : (z : Sizes) (ws : List ℕ) (hs : List (Slotted Slot)) (vs vs' : List View) (free : List ℕ) → Carries (λ (v : View). v.places) no_places vs vs'
    → Carries (λ (v : View). v.free) None vs vs' → IsFreeList z ws hs vs free → IsFreeList z ws hs vs' free
free_carry z ws hs vs vs' free c t h = record {
  once = λ p below. omega (arith, h.once p below, owed_by p);
  beyond = λ p above. omega (arith, h.beyond p above, owed_by p);
  idle = h.idle;
  turn = h.turn ∙ sym (t.sums turn_of refl);
  single = h.single;
  home = h.home;
  away = t.each (λ (o : Option (List ℕ)). (list : List ℕ) → o ≡ Some list → list ≡ free) (λ list e. absurd (none-some list e)) h.away;
  few = c.each (λ (x : Places). length x.held + length x.owed ≤ 4) (omega arith) h.few;
  clear = c.each (λ (x : Places). (p : ℕ) → 0 < times p x.clear → (0 < times p x.owed) × (phase_at z ws p ≡ 0)) (λ p any. absurd (omega (arith, any))) h.clear;
  owned = c.each (λ (x : Places). (p : ℕ) → 0 < times p x.owned → (0 < taken_times p x.held) × (phase_at z ws p ≡ 1)) (λ p any. absurd (omega (arith, any))) h.owned;
  ended = c.each (λ (x : Places). (p : ℕ) → 0 < times p x.ended → (0 < times p x.carried) × (phase_at z ws p ≡ 2)) (λ p any. absurd (omega (arith, any))) h.ended;
}
  where
    owed_by : (p : ℕ) → total (owes p) vs' ≡ total (owes p) vs
    owed_by p = c.sums (λ (x : Places). times p x.owed) refl

-- the turns, places and buckets of a pass
abbrev Holding : Type 0
Holding = Commit × Places × HeldBuckets × Option (List Expectation)

-- other passes, which together have the same of everything
handed : (z : Sizes) (l : Ledger) (s : State Slot View) (vs' : List View) → IsKept z l s → ArePasses z l.log vs' → Leaves s.views vs'
    → Carries (λ (v : View). v.places) no_places s.views vs' → Carries (λ (v : View). v.free) None s.views vs'
    → Carries {X = Places × HeldBuckets} (λ (v : View). (v.places, v.buckets)) (no_places, no_buckets) s.views vs'
    → Carries {X = Holding} (λ (v : View). (v.commit, v.places, v.buckets, v.expected)) (no_commit, no_places, no_buckets, None) s.views vs'
    → ((P : List Event → Option Walk → Type 0) → ((front : List Event) → P front None) → Each (λ v. P v.seen.front v.walk) s.views → Each (λ v. P v.seen.front v.walk) vs')
    → AreRead z s.words vs'
    → IsKept z l (record { words = s.words; homes = s.homes; views = vs' })
handed z l s vs' h passes leaves places free buckets commits walk readings =
    let quiet : Quiet z s.words s.words = λ k a b. refl in
    let same : SameChains z s.words s.words = quiet_chains z s.words s.words quiet in
    let shut : Carries (λ (v : View). v.buckets.shut) [] s.views vs' = record {
      sums = λ f none. buckets.sums (λ (x : Places × HeldBuckets). f x.1.shut) none;
      each = λ P base all. buckets.each (λ (x : Places × HeldBuckets). P x.1.shut) base all;
    } in
    kept z l s s.words s.homes vs' l.free l.chains h (quiet_still z s.words s.words quiet) refl (λ k a. refl) leaves passes
    (references_carry z l.log s.words s.views vs' places
    (commits.each (λ (x : Holding). (p : ℕ) → times p x.1.carried ≤ taken_times p x.1.held + middle_weight (of_place p) x.0.middle + times p x.1.ended) (λ p. omega arith)
    h.references.carried_for) h.references)
    (free_carry z s.words s.homes s.views vs' l.free places free h.free_list)
    (chains_stay z s.words s.words same l.log s.views vs' l.chains shut
    (λ b weight. buckets.sums (λ (x : Places × HeldBuckets). total (λ (y : Hook). (if y.up then side z b weight (chain_link y) else 0)) x.1.hooks) refl)
    (buckets.each (λ (x : Places × HeldBuckets). (b : ℕ) → b < z.buckets
    → 0 < total (λ (y : Hook). (if y.up then side z b each_link (chain_link y) else 0)) x.1.hooks → 0 < shuts_in b x.1.shut)
    (λ b below any. absurd (omega (arith, any))) h.chains.home)
    (λ link some. omega (arith, h.chains.lone link some, buckets.sums (λ (x : Places × HeldBuckets). hooks_of link x.1.hooks) refl)) h.chains)
    (links_stay z s.words s.words same s.views vs'
    (buckets.each (λ (x : Places × HeldBuckets). HasHooks z s.words x.0 x.1.hooks) (no_hooks z s.words) h.links.hooks) h.links)
    (record { each = walk (λ front o. (n : Walk) → o ≡ Some n → IsWalk z s.words l.chains front n) (λ front n e. absurd (none-some n e)) h.walks.each }) readings
    (commits.each (λ (x : Holding). IsMiddle z l.log x.0.middle x.0.hand x.1.carried x.2.shut x.3) tt h.commits)
    (words_carry z l.log s.words s.views vs' (record {
      sums = λ f none. places.sums (λ (x : Places). f x.held) none;
      each = λ P base all. places.each (λ (x : Places). P x.held) base all;
    }) h.kept_words)
  where
    no_hooks : (z : Sizes) (ws : List ℕ) → HasHooks z ws no_places []
    no_hooks z ws = record { each = λ i h at. absurd (some-ne-none h (sym at)); held = λ link any. absurd (omega (arith, any)); linked = λ i h at. absurd (some-ne-none h (sym at)); one = λ p q a b. absurd (false≢true a) }

-- numbers below a place, and those from it on
abbrev in_range : ℕ → ℕ → ℕ → ℕ
in_range first count n = bit (nat_le first n && nat_lt n (first + count))

range_cut : (first left right n : ℕ) → in_range first left n + in_range (first + left) right n ≡ in_range first (left + right) n
range_cut first left right n = grind (arith, nat_tests)

-- a pass with fewer shares
pass_left : (z : Sizes) (log : List Event) (shares : ℕ) (v : View) → shares < v.passes.shares → IsPass z log v → IsPass z log (shares_left shares v)
pass_left z log shares v fewer p = record {
  front = p.front;
  told = p.told;
  own = p.own;
  ordered = p.ordered;
  own_few = p.own_few;
  gathered = p.gathered;
  gathered_few = p.gathered_few;
  below = omega (arith, p.below);
  alone = λ one has. p.alone one (omega (arith, fewer));
  spent = λ none_left. absurd (omega (arith, none_left, fewer));
}

-- the pass that has them now
pass_further : (z : Sizes) (log : List Event) (shares : ℕ) (v : View) → 1 ≤ shares → shares < v.passes.shares → IsPass z log v
    → (z.passes ≡ 1 → ⊥) → IsPass z log (further shares v)
pass_further z log shares v has_some fewer p many = record {
  front = p.front;
  told = tt;
  own = λ i d short. absurd (omega (arith, short));
  ordered = λ i j d lt short. absurd (omega (arith, short));
  own_few = omega arith;
  gathered = λ i d short. absurd (omega (arith, short));
  gathered_few = omega arith;
  below = omega (arith, p.below, fewer);
  alone = λ one has. absurd (many one);
  spent = λ none_left. absurd (omega (arith, none_left, has_some));
}

-- the shares are cut in two
shares_cut : (n shares : ℕ) (v : View) → shares < v.passes.shares → has_share n (shares_left shares v) + has_share n (further shares v) ≡ has_share n v
shares_cut n shares v fewer =
    let whole : v.passes.shares - shares + shares ≡ v.passes.shares = omega (arith, fewer) in
    range_cut v.passes.first (v.passes.shares - shares) shares n ∙ ap (λ (k : ℕ). in_range v.passes.first k n) whole

-- a sum over the passes, with one that changed and a further one
total_cut : (f : View → ℕ) (vs : List View) (i : ℕ) (v left right : View) → get_elem? vs i ≡ some v → f left + f right ≡ f v
    → total f (set vs i left ++ right ∷ []) ≡ total f vs
total_cut f vs i v left right at cut = omega (arith, total_append f (set vs i left) (right ∷ []), total_set f vs i v left at, cut)

-- handing over shares keeps the rule
pub splits : (z : Sizes) (id shares : ℕ) (v : View) → 1 ≤ shares → shares < v.passes.shares
    → Splits (RuleHolds z) id v (shares_left shares v) (further shares v)
splits z id shares v has_some fewer s (l, h) at =
    let left : View = shares_left shares v in
    let right : View = further shares v in
    let p : IsPass z l.log v = h.passes.each id v at in
    let many : z.passes ≡ 1 → ⊥ = λ one. omega (arith, one, h.passes.all, fewer, has_some, total_term shares_of s.views id v at) in (
      l,
      handed z l s (set s.views id left ++ right ∷ []) h
          (record {
            each = each_more (IsPass z l.log) (set s.views id left) right
                (each_put (IsPass z l.log) s.views id left h.passes.each (pass_left z l.log shares v fewer p)) (pass_further z l.log shares v has_some fewer p many);
            apart = λ n. omega (arith, h.passes.apart n, total_cut (has_share n) s.views id v left right at (shares_cut n shares v fewer));
            all = total_cut shares_of s.views id v left right at (omega (arith, fewer)) ∙ h.passes.all;
            made = λ weight. h.passes.made weight ∙ sym (total_cut (made_weight weight) s.views id v left right at (omega arith));
          })
          (record {
            commit = carries_cut (λ (u : View). u.commit) no_commit s.views id v left right at refl refl;
            expected = carries_cut (λ (u : View). u.expected) None s.views id v left right at refl refl;
          })
          (carries_cut (λ (u : View). u.places) no_places s.views id v left right at refl refl)
          (carries_cut (λ (u : View). u.free) None s.views id v left right at refl refl)
          (carries_cut {X = Places × HeldBuckets} (λ (u : View). (u.places, u.buckets)) (no_places, no_buckets) s.views id v left right at refl refl)
          (carries_cut {X = Holding} (λ (u : View). (u.commit, u.places, u.buckets, u.expected)) (no_commit, no_places, no_buckets, None) s.views id v left right at refl refl)
          (λ P base all. each_more (λ (u : View). P u.seen.front u.walk) (set s.views id left) right
          (each_put (λ (u : View). P u.seen.front u.walk) s.views id left all (all id v at)) (base v.seen.front))
          (λ one. absurd (many one)),
    )

-- what two passes were told together
fronts_both : (log : List Event) (mine others : List (List Event)) → AreFronts log mine → AreFronts log others → AreFronts log (mine ++ others)
fronts_both log [] others a b = b
fronts_both log (f ∷ mine) others a b = (a.0, fronts_both log mine others a.1 b)

-- a pass that took in another one
pass_joined : (z : Sizes) (log : List Event) (v w : View) → 0 < v.passes.shares → 0 < w.passes.shares → IsPass z log v → IsPass z log w
    → (z.passes ≡ 1 → ⊥) → IsPass z log (joined v w)
pass_joined z log v w has_some other p q many = record {
  front = p.front;
  told = fronts_both log (w.seen.front ∷ w.seen.told) v.seen.told (q.front, q.told) p.told;
  own = p.own;
  ordered = p.ordered;
  own_few = p.own_few;
  gathered = All-append (λ (n : Note). slice_get log n.number ≡ Some n.event) (v.seen.gathered ++ w.seen.own) w.seen.gathered
      (All-append (λ (n : Note). slice_get log n.number ≡ Some n.event) v.seen.gathered w.seen.own p.gathered q.own) q.gathered;
  gathered_few = omega (
    arith,
    length-append (v.seen.gathered ++ w.seen.own) w.seen.gathered,
    length-append v.seen.gathered w.seen.own,
    p.gathered_few,
    q.own_few,
    q.gathered_few,
    other,
  );
  below = p.below;
  alone = λ one has. absurd (many one);
  spent = λ none_left. absurd (omega (arith, none_left, has_some));
}

-- nothing is left of the other one
pass_spent : (z : Sizes) (log : List Event) → IsPass z log spent_view
pass_spent z log = record {
  front = (log, refl);
  told = tt;
  own = λ i d short. absurd (omega (arith, short));
  ordered = λ i j d lt short. absurd (omega (arith, short));
  own_few = omega arith;
  gathered = λ i d short. absurd (omega (arith, short));
  gathered_few = omega arith;
  below = omega arith;
  alone = λ one has. absurd (omega (arith, has));
  spent = λ none_left. record {
    own = refl;
    gathered = refl;
    nothing = record {
      held = refl;
      owed = refl;
      clear = refl;
      owned = refl;
      carried = refl;
      free = refl;
      shut = refl;
      hooks = refl;
      hand = refl;
      middle = refl;
      expected = refl;
    };
  };
}

-- a sum over the passes of which two were joined
total_joined : (f : View → ℕ) (vs : List View) (i j : ℕ) (v w both spent : View) → get_elem? vs i ≡ some v
    → get_elem? (set vs i both) j ≡ some w → f both + f spent ≡ f v + f w → total f (set (set vs i both) j spent) ≡ total f vs
total_joined f vs i j v w both spent at at' same =
    omega (arith, total_set f (set vs i both) j w spent at', total_set f vs i v both at, same)

-- a list in which no place stands
none_among : (places : List ℕ) → ((p : ℕ) → times p places ≡ 0) → places ≡ []
none_among [] none = refl
none_among (p ∷ ps) none = absurd (omega (arith, none p, same_bit p p refl))

-- taking in another pass keeps the rule
pub joins : (z : Sizes) (id other : ℕ) (v w : View) → 0 < v.passes.shares → 0 < w.passes.shares → HasNothing w
    → Joins (RuleHolds z) id v other w (joined v w) spent_view
joins z id other v w has_some has_other none s (l, h) at apart at' =
    let both : View = joined v w in
    let vs : List View = set s.views id both in
    let there : get_elem? s.views other ≡ some w = sym (set_else s.views id other both apart) ∙ at' in
    let p : IsPass z l.log v = h.passes.each id v at in
    let q : IsPass z l.log w = h.passes.each other w there in
    let ended : w.places.ended ≡ [] =
    none_among w.places.ended (λ q. ⊎_elim (λ (e : 0 < times q w.places.ended). absurd (omega (arith, (h.free_list.ended other w there q e).0, ap (times q) none.carried)))
    (λ (e : times q w.places.ended ≤ 0). omega (arith, e)) (cases_lt 0 (times q w.places.ended))) in
    let many : z.passes ≡ 1 → ⊥ =
    λ one. omega (arith, one, h.passes.all, has_some, has_other, total_two shares_of s.views id other v w at there apart) in (
      l,
      handed z l s (set vs other spent_view) h
          (record {
            each = each_put (IsPass z l.log) vs other spent_view
                (each_put (IsPass z l.log) s.views id both h.passes.each (pass_joined z l.log v w has_some has_other p q many)) (pass_spent z l.log);
            apart = λ n. omega (
              arith,
              h.passes.apart n,
              total_set (has_share n) vs other w spent_view at',
              total_same (has_share n) s.views id v both at refl,
              range_none n,
            );
            all = total_joined shares_of s.views id other v w both spent_view at at' (omega arith) ∙ h.passes.all;
            made = λ weight. h.passes.made weight ∙ sym (total_joined (made_weight weight) s.views id other v w both spent_view at at'
                (omega (arith, total_append weight (v.seen.gathered ++ w.seen.own) w.seen.gathered, total_append weight v.seen.gathered w.seen.own)));
          })
          (record {
            commit = carries_join (λ (u : View). u.commit) no_commit s.views id other v w both spent_view at at' refl
                (λ k. record { hand = none.hand k; middle = none.middle k }) refl;
            expected = carries_join (λ (u : View). u.expected) None s.views id other v w both spent_view at at' refl none.expected refl;
          })
          (carries_join (λ (u : View). u.places) no_places s.views id other v w both spent_view at at' refl
          (λ k. record { held = none.held k; owed = none.owed k; clear = none.clear k; owned = none.owned k; carried = none.carried k; ended = ended k }) refl)
          (carries_join (λ (u : View). u.free) None s.views id other v w both spent_view at at' refl none.free refl)
          (carries_join {X = Places × HeldBuckets} (λ (u : View). (u.places, u.buckets)) (no_places, no_buckets) s.views id other v w both spent_view at at' refl
          (λ k. (record { held = none.held k; owed = none.owed k; clear = none.clear k; owned = none.owned k; carried = none.carried k; ended = ended k }, record { shut = none.shut k; hooks = none.hooks k })) refl)
          (carries_join {X = Holding} (λ (u : View). (u.commit, u.places, u.buckets, u.expected)) (no_commit, no_places, no_buckets, None) s.views id other v w both spent_view at at' refl
          (λ k. (
            record { hand = none.hand k; middle = none.middle k },
            record { held = none.held k; owed = none.owed k; clear = none.clear k; owned = none.owned k; carried = none.carried k; ended = ended k },
            record { shut = none.shut k; hooks = none.hooks k },
            none.expected k,
          )) refl)
          (λ P base all. each_put (λ (u : View). P u.seen.front u.walk) vs other spent_view
          (each_put (λ (u : View). P u.seen.front u.walk) s.views id both all (all id v at)) (base []))
          (λ one. absurd (many one)),
    )
  where
    range_none : (n : ℕ) → in_range 0 0 n ≡ 0
    range_none n = grind (arith, nat_tests)

-- what the last pass finds
pub last_pass : (z : Sizes) (l : Ledger) (s : State Slot View) (id : ℕ) (v : View) → v.passes.sizes ≡ z → IsKept z l s → get_elem? s.views id ≡ some v
    → 0 < v.passes.shares → v.passes.shares + v.passes.returned ≡ z.passes → IsLast v (slice_index s.words 0)
last_pass z l s id v sized h at has_some all =
    let p : IsPass z l.log v = h.passes.each id v at in
    let whole : total shares_of s.views ≡ shares_of v = h.passes.all ∙ sym all in
    let low : length l.log < 2 ^ 40 = omega (arith, few_events z l.log s.views h.passes id v at has_some, h.limits.passes) in
    record {
      log = l.log;
      front = p.front;
      told = p.told;
      legal = subst (λ (y : Sizes). is_legal y l.log ≡ true) (sym sized) h.history.legal;
      events = ap events_in h.history.word ∙ word_events (length l.log) (length (records_after l.log)) low;
      live = ap live_in h.history.word ∙ word_live (length l.log) (length (records_after l.log)) low;
      own = p.own;
      gathered = p.gathered;
      made = λ weight. h.passes.made weight ∙ total_only (made_weight weight) shares_of s.views id v at whole
          (λ j u at' none_left.
          let sp : IsSpent u = (h.passes.each j u at').spent (omega (arith, none_left)) in
          omega (arith, ap (total weight) sp.own, ap (total weight) sp.gathered));
      alone = λ one. p.alone (sym (ap (λ (y : Sizes). y.passes) sized) ∙ one) has_some;
    }

-- the first word of a list
pub first_word : (ws : List ℕ) (n : ℕ) → get_elem? ws 0 ≡ some n → slice_index ws 0 ≡ n
first_word [] n at = absurd (some-ne-none n (sym at))
first_word (w ∷ ws) n at = some-injective w n at
