-- A turn of a record, or of the expectations, goes over: what the parts of the rule say that speak of neither.
use Rattle.std.proofs.Common.{◌≡◌, ℕ, ◌<◌, Option, Some, List, [], length, refl, ap, ◌∙◌, arith, set}
use Rattle.std.specs.Prelude.{slice_index, slice_set}
use Rattle.std.proofs.lemmas.List.{length-set}
use mathlib.Core.Option.{Option as Slotted, some}
use lib.ListN.{get_elem?}
use Rattle.atomic_table.specs.Table.{State}
use Rattle.expect_table.specs.declared.expectation.Expectation.{Expectation}
use Rattle.history_book.specs.declared.sizes.Sizes.{Sizes}
use Rattle.track_rule.specs.declared.slot.Slot.{Slot}
use Rattle.track_rule.specs.declared.view.Hand.{Hand}
use Rattle.track_rule.specs.declared.view.Reading.{Reading}
use Rattle.track_rule.specs.declared.view.View.{View}
use Rattle.track_rule.specs.declared.view.Walk.{Walk}
use Rattle.track_rule.specs.Chains.{each_link, hooks_at, loose_of, shuts_of}
use Rattle.track_rule.specs.Commits.{IsMiddleOf}
use Rattle.track_rule.specs.Expected.{AreExpected}
use Rattle.track_rule.specs.Layout.{phase_at, refs_at}
use Rattle.track_rule.specs.Links.{HasHooks}
use Rattle.track_rule.specs.Passes.{IsPass}
use Rattle.track_rule.specs.Phases.{IsMiddlePhase, middle_of, of_both, of_place, shows, table_keeps}
use Rattle.track_rule.specs.Readings.{noted}
use Rattle.track_rule.specs.Records.{AreRecords}
use Rattle.track_rule.specs.Rule.{IsKept, Ledger}
use Rattle.track_rule.specs.Walks.{IsWalk}
use Rattle.track_rule.proofs.Balance.{MakesNone, free_left, pass_moved, passes_moved, references_left}
use Rattle.track_rule.proofs.Carried.{carries_set}
use Rattle.track_rule.proofs.Frames.{SameChains, chains_stay, hooks_stay, links_stay, middle_same, walk_stays}
use Rattle.track_rule.proofs.KeptWords.{words_left}
use Rattle.track_rule.proofs.LastRead.{ReadsAt, stored_on}
use Rattle.track_rule.proofs.Sums.{each_put, total_same}

-- the words of the history and of the free list's turn, of references, of phases, and of the chains are as they were
pub record TurnsAlone (z : Sizes) (ws ws' : List ℕ) : Type 0 where
  pub history : slice_index ws' 0 ≡ slice_index ws 0
  pub free : slice_index ws' 1 ≡ slice_index ws 1
  pub refs : (p : ℕ) → refs_at z ws' p ≡ refs_at z ws p
  pub phases : (p : ℕ) → phase_at z ws' p ≡ phase_at z ws p
  pub chains : SameChains z ws ws'

-- what the pass has then: the turn of this record, or of none, and of the expectations, or not
abbrev pub with_turns : Option Hand → Option (List Expectation) → Reading → View → View
with_turns hand expected r v = noted r (record v { commit = record v.commit { hand = hand }; expected = expected })

-- the word i becomes n
module _ (l : Ledger) (s : State Slot View) (id i n : ℕ) (v : View) (h : IsKept v.passes.sizes l s) (at : get_elem? s.views id ≡ some v)
    (has_some : 0 < v.passes.shares) (low : i < length s.words) (alone : TurnsAlone v.passes.sizes s.words (slice_set s.words i n)) where
  pub turn_moved : (hand : Option Hand) (expected : Option (List Expectation)) (r : Reading) (hs' : List (Slotted Slot)) → get_elem? hs' 0 ≡ get_elem? s.homes 0
      → AreRecords v.passes.sizes l.log (slice_set s.words i n) hs' (set s.views id (with_turns hand expected r v))
      → AreExpected v.passes.sizes l.log (slice_set s.words i n) hs' (set s.views id (with_turns hand expected r v))
      → ReadsAt i n v (with_turns hand expected r v) → IsMiddleOf v.passes.sizes l.log (with_turns hand expected r v)
      → IsKept v.passes.sizes l (record { words = slice_set s.words i n; homes = hs'; views = set s.views id (with_turns hand expected r v) })
  turn_moved hand expected r hs' first records expects read middle =
      let z : Sizes = v.passes.sizes in
      let w : View = with_turns hand expected r v in
      let new : List ℕ = slice_set s.words i n in
      let one : IsPass z l.log v = h.passes.each id v at in
      let m : MakesNone v w = record { passes = refl; own = refl; gathered = refl } in
      record {
        limits = h.limits;
        count = length-set s.words i n ∙ h.count;
        passes = passes_moved z l.log s.views id v w at m (pass_moved z l.log v w one m has_some one.front one.told) h.passes;
        history = record { legal = h.history.legal; word = alone.history ∙ h.history.word };
        references = references_left z l.log s.words new s.views id v w at refl refl refl refl alone.refs alone.phases h.references;
        free_list = free_left z s.words new s.homes hs' s.views id v w l.free at refl refl alone.refs alone.phases alone.free first h.free_list;
        records = records;
        phases = record {
          shown = λ q k under. omega (
            arith,
            h.phases.shown q k under,
            ap (λ (ph : ℕ). shows ph k) (alone.phases q),
            total_same (middle_of (of_both q k)) s.views id v w at refl,
          );
          used = λ q under. omega (
            arith,
            h.phases.used q under,
            ap table_keeps (alone.phases q),
            total_same (middle_of (of_place q)) s.views id v w at refl,
          );
          middle = each_put (λ u. IsMiddlePhase z new u.commit.middle) s.views id w
              (λ j u at'. middle_same z s.words new alone.phases u.commit.middle (h.phases.middle j u at'))
              (middle_same z s.words new alone.phases v.commit.middle (h.phases.middle id v at));
        };
        commits = each_put (IsMiddleOf z l.log) s.views id w h.commits middle;
        chains = chains_stay z s.words new alone.chains l.log s.views (set s.views id w) l.chains (carries_set (λ (u : View). u.buckets.shut) [] s.views id v w at refl)
            (λ b weight. total_same (loose_of z b weight) s.views id v w at refl)
            (each_put (λ (u : View). (c : ℕ) → c < z.buckets → 0 < loose_of z c each_link u → 0 < shuts_of c u) s.views id w h.chains.home (h.chains.home id v at))
            (λ link any. omega (arith, h.chains.lone link any, total_same (hooks_at link) s.views id v w at refl)) h.chains;
        links = links_stay z s.words new alone.chains s.views (set s.views id w)
            (each_put (λ u. HasHooks z new u.places u.buckets.hooks) s.views id w
            (λ j u at'. hooks_stay z s.words new alone.chains.links u.places u.buckets.hooks (h.links.hooks j u at'))
            (hooks_stay z s.words new alone.chains.links v.places v.buckets.hooks (h.links.hooks id v at))) h.links;
        walks = record {
          each = each_put (λ (u : View). (x : Walk) → u.walk ≡ Some x → IsWalk z new l.chains u.seen.front x) s.views id w
              (λ j u at' x e. walk_stays z s.words new alone.chains l.chains u.seen.front x (h.walks.each j u at' x e))
              (λ x e. walk_stays z s.words new alone.chains l.chains v.seen.front x (h.walks.each id v at x e));
        };
        readings = stored_on z l.log s.words s.views id i n v w h.passes at has_some low read h.readings;
        kept_words = words_left z l.log s.words s.views id v w at l.log new (λ j e at'. at') (λ p k o. o) alone.chains.links refl h.kept_words;
        expected = expects;
      }
