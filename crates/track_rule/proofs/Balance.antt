-- The parts that a step on the pool changes: the passes, the references and the free list.
use Rattle.std.proofs.lemmas.Bool.{cases_lt}
use Rattle.std.specs.Prelude.{◌==◌, if◌then◌else◌}
use Rattle.std.proofs.Common.{◌≡◌, ℕ, ◌+◌, ◌*◌, ◌^◌, ◌<◌, ◌≤◌, ◌⊎◌, min, Option, Some, None, List, [], length, sym, ap, subst, ◌∙◌, ⊎_elim, inl, refl, arith, set}
use Rattle.std.specs.List.{AllPairs}
use Rattle.std.specs.Prelude.{slice_index, nat_le, nat_lt, ◌&&◌}
use mathlib.Core.Option.{Option as Slotted, some}
use lib.ListN.{get_elem?}
use Rattle.atomic_table.specs.Table.{State}
use Rattle.history_book.specs.declared.event.Event.{Event}
use Rattle.history_book.specs.declared.event.Note.{Note}
use Rattle.history_book.specs.declared.sizes.Sizes.{Sizes}
use Rattle.history_book.specs.Point.{StartsWith}
use Rattle.history_book.specs.Sight.{AreEventsOf}
use Rattle.track_rule.specs.declared.slot.Slot.{Slot}
use Rattle.track_rule.specs.declared.view.ChainLink.{ChainLink}
use Rattle.track_rule.specs.declared.view.Hook.{Hook}
use Rattle.track_rule.specs.declared.view.Keep.{Keep}
use Rattle.track_rule.specs.declared.view.Places.{Places}
use Rattle.track_rule.specs.declared.view.Shares.{Shares}
use Rattle.track_rule.specs.declared.view.HeldBuckets.{HeldBuckets}
use Rattle.track_rule.specs.declared.view.View.{View}
use Rattle.track_rule.specs.declared.view.Walk.{Walk}
use Rattle.track_rule.specs.Chains.{each_link, chain_link, hooks_at, loose_of, shuts_of, side}
use Rattle.track_rule.specs.Commits.{IsMiddleOf, shuts_in}
use Rattle.track_rule.specs.Free.{IsFreeList, IsHome, has_turn, owes, turn_of}
use Rattle.track_rule.specs.History.{records_after}
use Rattle.track_rule.specs.KeptWords.{AreKeptWords}
use Rattle.track_rule.specs.Layout.{phase_at, place_of, refs_at}
use Rattle.track_rule.specs.Links.{HasHooks, hooks_of}
use Rattle.track_rule.specs.Phases.{middle_of, middle_weight, of_place, table_keeps}
use Rattle.track_rule.specs.Passes.{AreFronts, ArePasses, IsPass, has_share, made_weight, shares_of}
use Rattle.track_rule.specs.References.{AreKept, AreReferences, ends, held_times, is_at, is_for_new, keeps, taken_times, takes}
use Rattle.track_rule.specs.Readings.{AreRead}
use Rattle.track_rule.specs.Rule.{IsKept, Ledger}
use Rattle.track_rule.specs.Sums.{Each, bit, times, total}
use Rattle.track_rule.specs.Walks.{IsWalk}
use Rattle.track_rule.proofs.Carried.{carries_set}
use Rattle.track_rule.proofs.Frames.{Quiet, SameChains, Stays, chains_stay, hooks_stay, kept, links_stay, no_commit, quiet_chains, quiet_still, walk_stays}
use Rattle.track_rule.proofs.KeptWords.{links_pairs, words_stay}
use Rattle.track_rule.proofs.Lists.{total_long}
use Rattle.track_rule.proofs.Sums.{each_other, each_put, total_le, total_same, total_set, total_times, total_two}

-- a pass that has the same shares, and made and gathered no event
pub record MakesNone (v w : View) : Type 0 where
  pub passes : w.passes ≡ v.passes
  pub own : w.seen.own ≡ v.seen.own
  pub gathered : w.seen.gathered ≡ v.seen.gathered

-- what a step on the pool leaves of a view
pub record Moves (v w : View) : Type 0 where
  pub made : MakesNone v w
  pub commit : w.commit ≡ v.commit
  pub expected : w.expected ≡ v.expected

-- and what it says of the links of the pass and of its walk, which other words show
pub record Lines (z : Sizes) (l : Ledger) (s : State Slot View) (id : ℕ) (v w : View) : Type 0 where
  pub shut : w.buckets.shut ≡ v.buckets.shut
  pub loose : (b : ℕ) (weight : ChainLink → ℕ) → loose_of z b weight w ≡ loose_of z b weight v
  pub lone : (link : ℕ) → 0 < link → total (hooks_at link) (set s.views id w) + total (of_place (place_of link)) (records_after l.log) ≤ 1
  pub hooks : HasHooks z s.words w.places w.buckets.hooks
  pub walk : (n : Walk) → w.walk ≡ Some n → IsWalk z s.words l.chains w.seen.front n

-- where its links are as they were, and it holds no fewer places
pub bucket_lines : (z : Sizes) (l : Ledger) (s : State Slot View) (id : ℕ) (v w : View) → IsKept z l s → get_elem? s.views id ≡ some v
    → w.buckets ≡ v.buckets → ((q : ℕ) → held_times q v.places.held ≤ held_times q w.places.held)
    → ((q : ℕ) → times q v.places.owned + times q v.places.ended ≤ times q w.places.owned + times q w.places.ended)
    → ((n : Walk) → w.walk ≡ Some n → IsWalk z s.words l.chains w.seen.front n) → Lines z l s id v w
bucket_lines z l s id v w h at buckets more owned walk =
    let hooks = h.links.hooks id v at in
    record {
      shut = ap (λ (x : HeldBuckets). x.shut) buckets;
      loose = λ b weight. ap (λ (x : HeldBuckets). total (λ (y : Hook). (if y.up then side z b weight (chain_link y) else 0)) x.hooks) buckets;
      lone = λ link some. omega (
        arith,
        h.chains.lone link some,
        total_same (hooks_at link) s.views id v w at (ap (λ (x : HeldBuckets). hooks_of link x.hooks) buckets),
      );
      hooks = subst (λ (x : HeldBuckets). HasHooks z s.words w.places x.hooks) (sym buckets) (record {
        each = hooks.each;
        held = λ link some. omega (arith, hooks.held link some, more (place_of link));
        linked = λ i x at' up. omega (arith, hooks.linked i x at' up, owned (place_of x.link));
        one = hooks.one;
      });
      walk = walk;
    }

-- and its walk too
pub same_lines : (z : Sizes) (l : Ledger) (s : State Slot View) (id : ℕ) (v w : View) → IsKept z l s → get_elem? s.views id ≡ some v
    → w.buckets ≡ v.buckets → ((q : ℕ) → held_times q v.places.held ≤ held_times q w.places.held)
    → ((q : ℕ) → times q v.places.owned + times q v.places.ended ≤ times q w.places.owned + times q w.places.ended)
    → w.walk ≡ v.walk → w.seen.front ≡ v.seen.front
    → Lines z l s id v w
same_lines z l s id v w h at buckets more owned walk front =
    bucket_lines z l s id v w h at buckets more owned
    (subst (λ (o : Option Walk). (n : Walk) → o ≡ Some n → IsWalk z s.words l.chains w.seen.front n) (sym walk)
    (subst (λ (f : List Event). (n : Walk) → v.walk ≡ Some n → IsWalk z s.words l.chains f n) (sym front) (h.walks.each id v at)))

-- a pass with some shares that has seen so much
pub pass_moved : (z : Sizes) (log : List Event) (v w : View) → IsPass z log v → MakesNone v w → 0 < v.passes.shares
    → StartsWith log w.seen.front → AreFronts log w.seen.told → IsPass z log w
pass_moved z log v w p m has_some front told = record {
  front = front;
  told = told;
  own = subst (AreEventsOf log) (sym m.own) p.own;
  ordered = subst (AllPairs (λ (a b : Note). a.number < b.number)) (sym m.own) p.ordered;
  own_few = omega (arith, p.own_few, ap length m.own);
  gathered = subst (AreEventsOf log) (sym m.gathered) p.gathered;
  gathered_few = omega (arith, p.gathered_few, ap length m.gathered, ap (λ (s : Shares). s.returned) m.passes);
  below = omega (arith, p.below, ap (λ (s : Shares). s.first) m.passes, ap (λ (s : Shares). s.shares) m.passes);
  alone = λ one has. m.own ∙ p.alone one has_some;
  spent = λ none_left. absurd (omega (arith, none_left, has_some, ap (λ (s : Shares). s.shares) m.passes));
}

pub passes_moved : (z : Sizes) (log : List Event) (vs : List View) (i : ℕ) (v w : View) → get_elem? vs i ≡ some v → MakesNone v w → IsPass z log w
    → ArePasses z log vs → ArePasses z log (set vs i w)
passes_moved z log vs i v w at m p h = record {
  each = each_put (IsPass z log) vs i w h.each p;
  apart = λ n. omega (
    arith,
    h.apart n,
    total_same (has_share n) vs i v w at (ap (λ (s : Shares). bit (nat_le s.first n && nat_lt n (s.first + s.shares))) m.passes),
  );
  all = total_same shares_of vs i v w at (ap (λ (s : Shares). s.shares + s.returned) m.passes) ∙ h.all;
  made = λ weight. h.made weight
      ∙ sym (total_same (made_weight weight) vs i v w at (λ k. total weight (m.own k) + total weight (m.gathered k)));
}

-- a step of one pass on the pool
pub moved : (z : Sizes) (l : Ledger) (s : State Slot View) (id : ℕ) (v w : View) (ws' : List ℕ) (hs' : List (Slotted Slot)) (free' : List ℕ)
    → IsKept z l s → get_elem? s.views id ≡ some v → Moves v w → IsPass z l.log w
    → Quiet z s.words ws' → length ws' ≡ length s.words → Stays s.homes hs'
    → AreReferences z l.log ws' (set s.views id w) → IsFreeList z ws' hs' (set s.views id w) free' → Lines z l s id v w → AreRead z ws' (set s.views id w) → IsMiddleOf z l.log w
    → AreKeptWords z l.log s.words (set s.views id w)
    → IsKept z (record l { free = free' }) (record { words = ws'; homes = hs'; views = set s.views id w })
moved z l s id v w ws' hs' free' h at m p quiet long homes references free_list lines readings middle words =
    let same : SameChains z s.words ws' = quiet_chains z s.words ws' quiet in
    kept z l s ws' hs' (set s.views id w) free' l.chains h (quiet_still z s.words ws' quiet) long homes
    (record {
      commit = carries_set (λ (u : View). u.commit) no_commit s.views id v w at m.commit;
      expected = carries_set (λ (u : View). u.expected) None s.views id v w at m.expected;
    })
    (passes_moved z l.log s.views id v w at m.made p h.passes) references free_list
    (chains_stay z s.words ws' same l.log s.views (set s.views id w) l.chains
    (carries_set (λ (u : View). u.buckets.shut) [] s.views id v w at lines.shut)
    (λ b weight. total_same (loose_of z b weight) s.views id v w at (lines.loose b weight))
    (each_put (λ (u : View). (b : ℕ) → b < z.buckets → 0 < loose_of z b each_link u → 0 < shuts_of b u) s.views id w h.chains.home
    (λ b below any.
    omega (arith, h.chains.home id v at b below (omega (arith, any, lines.loose b each_link)), ap (shuts_in b) lines.shut))) lines.lone h.chains)
    (links_stay z s.words ws' same s.views (set s.views id w)
    (each_put (λ (u : View). HasHooks z ws' u.places u.buckets.hooks) s.views id w
    (λ i u at'. hooks_stay z s.words ws' same.links u.places u.buckets.hooks (h.links.hooks i u at'))
    (hooks_stay z s.words ws' same.links w.places w.buckets.hooks lines.hooks)) h.links)
    (record {
      each = each_put (λ (u : View). (n : Walk) → u.walk ≡ Some n → IsWalk z ws' l.chains u.seen.front n) s.views id w
          (λ i u at' n e. walk_stays z s.words ws' same l.chains u.seen.front n (h.walks.each i u at' n e))
          (λ n e. walk_stays z s.words ws' same l.chains w.seen.front n (lines.walk n e));
    }) readings
    (each_put (IsMiddleOf z l.log) s.views id w h.commits middle)
    (words_stay z l.log l.log s.words ws' (set s.views id w) (λ i e at'. at') (λ p any i o. o) (λ p any. links_pairs z s.words ws' same.links p) words)

-- what a step does to the references: a balance for each place
pub record RefsStep (z : Sizes) (log : List Event) (ws ws' : List ℕ) (vs : List View) (v w : View) : Type 0 where
  pub count : (p : ℕ) → p < z.entries → refs_at z ws' p + keeps p v ≡ refs_at z ws p + keeps p w
  pub beyond : (p : ℕ) → z.entries ≤ p → keeps p w ≡ keeps p v
  pub phases : (p : ℕ) → phase_at z ws' p ≡ phase_at z ws p
  pub carried : (p : ℕ) → times p w.places.carried ≤ held_times p w.places.held
  pub carried_for : (p : ℕ) → times p w.places.carried ≤ takes p w + middle_of (of_place p) w + ends p w
  pub taken : (p : ℕ) → total (takes p) vs + total (ends p) vs + total (of_place p) (records_after log) + takes p w + ends p w ≤ 1 + takes p v + ends p v
  pub purposes : AreKept log w.places.held

pub references_moved : (z : Sizes) (log : List Event) (ws ws' : List ℕ) (vs : List View) (i : ℕ) (v w : View) → get_elem? vs i ≡ some v
    → RefsStep z log ws ws' vs v w → AreReferences z log ws vs → AreReferences z log ws' (set vs i w)
references_moved z log ws ws' vs i v w at t h = record {
  counted = λ p below.
      omega (arith, h.counted p below, t.count p below, total_set (keeps p) vs i v w at, ap table_keeps (t.phases p));
  beyond = λ p above. omega (arith, h.beyond p above, t.beyond p above, total_set (keeps p) vs i v w at);
  carried = each_put (λ u. (p : ℕ) → times p u.places.carried ≤ held_times p u.places.held) vs i w h.carried t.carried;
  carried_for = each_put (λ u. (p : ℕ) → times p u.places.carried ≤ takes p u + middle_of (of_place p) u + ends p u) vs i w h.carried_for t.carried_for;
  taken = λ p. omega (arith, t.taken p, total_set (takes p) vs i v w at, total_set (ends p) vs i v w at);
  purposes = each_put (λ u. AreKept log u.places.held) vs i w h.purposes t.purposes;
}

-- a step that leaves all references
pub references_left : (z : Sizes) (log : List Event) (ws ws' : List ℕ) (vs : List View) (i : ℕ) (v w : View) → get_elem? vs i ≡ some v
    → w.places.held ≡ v.places.held → w.places.carried ≡ v.places.carried → w.places.ended ≡ v.places.ended → w.commit.middle ≡ v.commit.middle → ((p : ℕ) → refs_at z ws' p ≡ refs_at z ws p)
    → ((p : ℕ) → phase_at z ws' p ≡ phase_at z ws p) → AreReferences z log ws vs → AreReferences z log ws' (set vs i w)
references_left z log ws ws' vs i v w at held carried ended middle refs phases h =
    let keep : (p : ℕ) → keeps p w ≡ keeps p v = λ p k. held_times p (held k) + times p (carried k) in
    references_moved z log ws ws' vs i v w at (record {
      count = λ p below. omega (arith, refs p, keep p);
      beyond = λ p above. keep p;
      phases = phases;
      carried = λ p. omega (arith, h.carried i v at p, ap (held_times p) held, ap (times p) carried);
      carried_for = λ p. omega (
        arith,
        h.carried_for i v at p,
        ap (times p) carried,
        ap (λ (ks : List Keep). total (λ k. bit (is_at p k && is_for_new k.purpose)) ks) held,
        ap (middle_weight (of_place p)) middle,
        ap (times p) ended,
      );
      taken = λ p. omega (arith, h.taken p, ap (λ (ks : List Keep). total (λ k. bit (is_at p k && is_for_new k.purpose)) ks) held, ap (times p) ended);
      purposes = subst (AreKept log) (sym held) (h.purposes i v at);
    }) h

-- and to the free list
pub record FreeStep (z : Sizes) (ws ws' : List ℕ) (hs' : List (Slotted Slot)) (vs : List View) (v w : View) (free free' : List ℕ) : Type 0 where
  pub once : (p : ℕ) → p < z.entries
      → times p free' + owes p w + min (refs_at z ws' p) 1 ≡ times p free + owes p v + min (refs_at z ws p) 1
  pub beyond : (p : ℕ) → z.entries ≤ p → times p free' + owes p w ≡ times p free + owes p v
  pub idle : (p : ℕ) → 0 < times p free' → phase_at z ws' p ≡ 0
  pub phases : (p : ℕ) → phase_at z ws' p ≡ phase_at z ws p
  pub turn : slice_index ws' 1 + has_turn v ≡ slice_index ws 1 + has_turn w
  pub single : slice_index ws' 1 ≤ 1
  pub home : slice_index ws' 1 ≡ 0 → IsHome z hs' free'
  pub others : (free' ≡ free) ⊎ (total has_turn vs ≡ has_turn v)
  pub away : (list : List ℕ) → w.free ≡ Some list → list ≡ free'
  pub few : length w.places.held + length w.places.owed ≤ 4
  pub clear : (p : ℕ) → 0 < times p w.places.clear → (0 < times p w.places.owed) × (phase_at z ws' p ≡ 0)
  pub owned : (p : ℕ) → 0 < times p w.places.owned → (0 < takes p w) × (phase_at z ws' p ≡ 1)
  pub ended : (p : ℕ) → 0 < times p w.places.ended → (0 < times p w.places.carried) × (phase_at z ws' p ≡ 2)

pub free_moved : (z : Sizes) (ws ws' : List ℕ) (hs hs' : List (Slotted Slot)) (vs : List View) (i : ℕ) (v w : View) (free free' : List ℕ)
    → get_elem? vs i ≡ some v → FreeStep z ws ws' hs' vs v w free free' → IsFreeList z ws hs vs free
    → IsFreeList z ws' hs' (set vs i w) free'
free_moved z ws ws' hs hs' vs i v w free free' at t h = record {
  once = λ p below. omega (arith, h.once p below, t.once p below, total_set (owes p) vs i v w at);
  beyond = λ p above. omega (arith, h.beyond p above, t.beyond p above, total_set (owes p) vs i v w at);
  idle = t.idle;
  turn = omega (arith, h.turn, t.turn, total_set has_turn vs i v w at);
  single = t.single;
  home = t.home;
  away = each_other (λ u. (list : List ℕ) → u.free ≡ Some list → list ≡ free') vs i w
      (λ j u other at' list has.
      ⊎_elim (λ (e : free' ≡ free). h.away j u at' list has ∙ sym e)
      (λ (e : total has_turn vs ≡ has_turn v). absurd (omega (arith, e, ap turn_of has, total_two has_turn vs i j v u at at' other)))
      t.others) t.away;
  few = each_put (λ u. length u.places.held + length u.places.owed ≤ 4) vs i w h.few t.few;
  clear = each_put (λ u. (p : ℕ) → 0 < times p u.places.clear → (0 < times p u.places.owed) × (phase_at z ws' p ≡ 0)) vs i w
      (λ j u at' p some. let c = h.clear j u at' p some in (c.0, t.phases p ∙ c.1)) t.clear;
  owned = each_put (λ u. (p : ℕ) → 0 < times p u.places.owned → (0 < takes p u) × (phase_at z ws' p ≡ 1)) vs i w
      (λ j u at' p some. let c = h.owned j u at' p some in (c.0, t.phases p ∙ c.1)) t.owned;
  ended = each_put (λ u. (p : ℕ) → 0 < times p u.places.ended → (0 < times p u.places.carried) × (phase_at z ws' p ≡ 2)) vs i w
      (λ j u at' p some. let c = h.ended j u at' p some in (c.0, t.phases p ∙ c.1)) t.ended;
}

-- a step that leaves the places of the pass, and its turn of the list
pub free_left : (z : Sizes) (ws ws' : List ℕ) (hs hs' : List (Slotted Slot)) (vs : List View) (i : ℕ) (v w : View) (free : List ℕ)
    → get_elem? vs i ≡ some v → w.places ≡ v.places → w.free ≡ v.free → ((p : ℕ) → refs_at z ws' p ≡ refs_at z ws p)
    → ((p : ℕ) → phase_at z ws' p ≡ phase_at z ws p) → slice_index ws' 1 ≡ slice_index ws 1 → get_elem? hs' 0 ≡ get_elem? hs 0
    → IsFreeList z ws hs vs free → IsFreeList z ws' hs' (set vs i w) free
free_left z ws ws' hs hs' vs i v w free at places turn refs phases word home h =
    free_moved z ws ws' hs hs' vs i v w free free at (record {
      once = λ p below. omega (arith, ap (λ (k : ℕ). min k 1) (refs p), ap (λ (x : Places). times p x.owed) places);
      beyond = λ p above. omega (arith, ap (λ (x : Places). times p x.owed) places);
      idle = λ p on. phases p ∙ h.idle p on;
      phases = phases;
      turn = omega (arith, word, ap turn_of turn);
      single = omega (arith, word, h.single);
      home = λ calm. let r = h.home (sym word ∙ calm) in record { list = r.list; there = home ∙ r.there; same = r.same; room = r.room };
      others = inl refl;
      away = λ list e. h.away i v at list (sym turn ∙ e);
      few = omega (arith, h.few i v at, ap (λ (x : Places). length x.held + length x.owed) places);
      clear = subst (λ (x : Places). (p : ℕ) → 0 < times p x.clear → (0 < times p x.owed) × (phase_at z ws' p ≡ 0)) (sym places)
          (λ p on. let c = h.clear i v at p on in (c.0, phases p ∙ c.1));
      owned = subst (λ (x : Places). (p : ℕ) → 0 < times p x.owned → (0 < taken_times p x.held) × (phase_at z ws' p ≡ 1)) (sym places)
          (λ p on. let c = h.owned i v at p on in (c.0, phases p ∙ c.1));
      ended = subst (λ (x : Places). (p : ℕ) → 0 < times p x.ended → (0 < times p x.carried) × (phase_at z ws' p ≡ 2)) (sym places)
          (λ p on. let c = h.ended i v at p on in (c.0, phases p ∙ c.1));
    }) h

-- the passes keep few references to a place
module _ (z : Sizes) (l : Ledger) (s : State Slot View) (h : IsKept z l s) where
  keeps_low : (p : ℕ) → Each (λ v. keeps p v ≤ 8 * shares_of v) s.views
  keeps_low p i v at =
      let one : IsPass z l.log v = h.passes.each i v at in
      ⊎_elim
      (λ (e : 0 < v.passes.shares).
      omega (arith, e, h.free_list.few i v at, h.references.carried i v at p, total_long (λ k. k.place == p) v.places.held))
      (λ (e : v.passes.shares ≤ 0).
      let sp = (one.spent (omega (arith, e))).nothing in
      omega (arith, ap (held_times p) sp.held, ap (times p) sp.carried))
      (cases_lt 0 v.passes.shares)

  pub few_references : (p : ℕ) → total (keeps p) s.views + 1 < 2 ^ 16
  few_references p =
      omega (arith, total_le (keeps p) (λ v. 8 * shares_of v) s.views (keeps_low p), total_times 8 shares_of s.views, h.passes.all, h.limits.passes)
