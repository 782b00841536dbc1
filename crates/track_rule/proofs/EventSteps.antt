-- An event that leaves the ids, the places and the tuples of live records.
use Rattle.std.proofs.Common.{◌≡◌, ℕ, ◌+◌, ◌^◌, ◌<◌, ◌≤◌, true, Some, None, List, [], ◌∷◌, ◌++◌, length, refl, sym, ap, subst, ◌∙◌, arith, set}
use Rattle.std.specs.Prelude.{if◌then◌else◌, slice_set}
use Rattle.std.proofs.lemmas.Option.{none-some}
use mathlib.Core.Option.{some}
use lib.ListN.{get_elem?}
use Rattle.atomic_table.specs.Table.{State}
use Rattle.history_book.specs.History.{is_legal}
use Rattle.history_book.specs.declared.event.Event.{Event}
use Rattle.history_book.specs.declared.sizes.Sizes.{Sizes}
use Rattle.track_rule.specs.declared.slot.Slot.{Slot}
use Rattle.track_rule.specs.declared.view.ChainLink.{ChainLink}
use Rattle.track_rule.specs.declared.view.HeldBuckets.{HeldBuckets}
use Rattle.track_rule.specs.declared.view.Hook.{Hook}
use Rattle.track_rule.specs.declared.view.Places.{Places}
use Rattle.track_rule.specs.declared.view.View.{View}
use Rattle.track_rule.specs.declared.view.Walk.{Walk}
use Rattle.track_rule.specs.Chains.{AreChains, each_link, chain_link, hooks_at, links_in, loose_of, shuts_of, side}
use Rattle.track_rule.specs.Commits.{AreCommits, shuts_in}
use Rattle.track_rule.specs.Expected.{AreExpected}
use Rattle.track_rule.specs.History.{packed, records_after}
use Rattle.track_rule.specs.Layout.{phase_at, place_of}
use Rattle.track_rule.specs.Links.{HasHooks, hooks_of}
use Rattle.track_rule.specs.Phases.{IsMiddlePhase, middle_of, middle_weight, of_both, of_place, shows, table_keeps}
use Rattle.track_rule.specs.Records.{AreRecords}
use Rattle.track_rule.specs.References.{AreKept, AreReferences, ends, held_times, keeps, taken_times, takes}
use Rattle.track_rule.specs.Rule.{IsKept, Ledger}
use Rattle.track_rule.specs.Sums.{Each, times, total}
use Rattle.track_rule.specs.Walks.{IsWalk}
use Rattle.track_rule.proofs.Adding.{event_added}
use Rattle.track_rule.proofs.Balance.{free_left}
use Rattle.track_rule.proofs.Carried.{carries_set}
use Rattle.track_rule.proofs.Events.{get_append, kept_on, note_of}
use Rattle.track_rule.proofs.Frames.{SameChains, chains_stay, hooks_stay, links_stay, walk_stays, middle_same}
use Rattle.track_rule.proofs.HistoryWord.{word_other, word_phase, word_refs, word_same}
use Rattle.track_rule.proofs.KeptWords.{words_left}
use Rattle.track_rule.proofs.LastRead.{ReadsAt}
use Rattle.track_rule.proofs.Sums.{each_put, total_same}

-- what the live records weigh stays
pub record SameRecords (log made : List Event) : Type 0 where
  pub places : (p : ℕ) → total (of_place p) (records_after made) ≡ total (of_place p) (records_after log)
  pub both : (p i : ℕ) → total (of_both p i) (records_after made) ≡ total (of_both p i) (records_after log)
  pub links : (z : Sizes) (b : ℕ) (f : ChainLink → ℕ) → total (links_in z b f) (records_after made) ≡ total (links_in z b f) (records_after log)

-- what the pass that makes the event keeps, but for its walk
pub record KeepsParts (v w : View) : Type 0 where
  pub passes : w.passes ≡ v.passes
  pub places : w.places ≡ v.places
  pub free : w.free ≡ v.free
  pub buckets : w.buckets ≡ v.buckets
  pub middle : w.commit.middle ≡ v.commit.middle
  pub walk : w.walk ≡ None

module _ (l : Ledger) (s : State Slot View) (id : ℕ) (v w : View) (e : Event) (h : IsKept v.passes.sizes l s) (at : get_elem? s.views id ≡ some v)
    (has_some : 0 < v.passes.shares) (few : length v.seen.own < 2 ^ 30) (legal : is_legal v.passes.sizes (l.log ++ e ∷ []) ≡ true)
    (parts : KeepsParts v w) (seen : w.seen ≡ record v.seen { front = l.log ++ e ∷ []; own = v.seen.own ++ note_of l.log e ∷ [] })
    (reads : ReadsAt 0 (packed (l.log ++ e ∷ [])) v w) (same : SameRecords l.log (l.log ++ e ∷ [])) where
  abbrev made : List Event
  made = l.log ++ e ∷ []

  abbrev words : List ℕ
  words = slice_set s.words 0 (packed (l.log ++ e ∷ []))

  event_references : AreReferences v.passes.sizes made words (set s.views id w)
  event_references =
      let z : Sizes = v.passes.sizes in
      let same_keeps : (q : ℕ) → keeps q w ≡ keeps q v = λ q. ap (λ (x : Places). held_times q x.held + times q x.carried) parts.places in
      record {
        counted = λ q below. omega (
          arith,
          h.references.counted q below,
          word_refs z s.words (packed made) q,
          ap table_keeps (word_phase z s.words (packed made) q),
          total_same (keeps q) s.views id v w at (same_keeps q),
        );
        beyond = λ q above. total_same (keeps q) s.views id v w at (same_keeps q) ∙ h.references.beyond q above;
        carried = each_put (λ u. (q : ℕ) → times q u.places.carried ≤ held_times q u.places.held) s.views id w h.references.carried
            (subst (λ (x : Places). (q : ℕ) → times q x.carried ≤ held_times q x.held) (sym parts.places) (h.references.carried id v at));
        carried_for = each_put (λ u. (q : ℕ) → times q u.places.carried ≤ takes q u + middle_of (of_place q) u + ends q u) s.views id w h.references.carried_for
            (λ q. omega (
              arith,
              h.references.carried_for id v at q,
              ap (λ (x : Places). times q x.carried) parts.places,
              ap (λ (x : Places). taken_times q x.held) parts.places,
              ap (λ (x : Places). times q x.ended) parts.places,
              ap (middle_weight (of_place q)) parts.middle,
            ));
        taken = λ q. omega (
          arith,
          h.references.taken q,
          same.places q,
          total_same (takes q) s.views id v w at (ap (λ (x : Places). taken_times q x.held) parts.places),
          total_same (ends q) s.views id v w at (ap (λ (x : Places). times q x.ended) parts.places),
        );
        purposes = each_put (λ u. AreKept made u.places.held) s.views id w
            (λ i u at'. kept_on l.log e u.places.held (h.references.purposes i u at'))
            (subst (λ (x : Places). AreKept made x.held) (sym parts.places) (kept_on l.log e v.places.held (h.references.purposes id v at)));
      }

  event_phases : (q i : ℕ) → q < v.passes.sizes.entries
      → total (of_both q i) (records_after made) ≡ shows (phase_at v.passes.sizes words q) i + total (middle_of (of_both q i)) (set s.views id w)
  event_phases q i below = omega (
    arith,
    h.phases.shown q i below,
    ap (λ (ph : ℕ). shows ph i) (word_phase v.passes.sizes s.words (packed made) q),
    same.both q i,
    total_same (middle_of (of_both q i)) s.views id v w at (ap (middle_weight (of_both q i)) parts.middle),
  )

  event_used : (q : ℕ) → q < v.passes.sizes.entries
      → total (of_place q) (records_after made) ≡ table_keeps (phase_at v.passes.sizes words q) + total (middle_of (of_place q)) (set s.views id w)
  event_used q below = omega (
    arith,
    h.phases.used q below,
    ap table_keeps (word_phase v.passes.sizes s.words (packed made) q),
    same.places q,
    total_same (middle_of (of_place q)) s.views id v w at (ap (middle_weight (of_place q)) parts.middle),
  )

  event_middle : Each (λ u. IsMiddlePhase v.passes.sizes words u.commit.middle) (set s.views id w)
  event_middle =
      let z : Sizes = v.passes.sizes in
      each_put (λ u. IsMiddlePhase z words u.commit.middle) s.views id w
      (λ i u at'. middle_same z s.words words (word_phase z s.words (packed made)) u.commit.middle (h.phases.middle i u at'))
      (middle_same z s.words words (word_phase z s.words (packed made)) w.commit.middle (subst (IsMiddlePhase z s.words) (sym parts.middle) (h.phases.middle id v at)))

  -- the chains weigh what they did
  told_chains : AreChains v.passes.sizes made s.words s.views l.chains
  told_chains = record {
    linked = h.chains.linked;
    ordered = h.chains.ordered;
    gens = h.chains.gens;
    mine = h.chains.mine;
    chained = λ b below f. omega (arith, h.chains.chained b below f, same.links v.passes.sizes b f);
    home = h.chains.home;
    lone = λ link any. omega (arith, h.chains.lone link any, same.places (place_of link));
  }

  event_chains : AreChains v.passes.sizes made words (set s.views id w) l.chains
  event_chains =
      let z : Sizes = v.passes.sizes in
      chains_stay z s.words words (word_same z s.words (packed made)) made s.views (set s.views id w) l.chains
      (carries_set (λ (u : View). u.buckets.shut) [] s.views id v w at (ap (λ (x : HeldBuckets). x.shut) parts.buckets))
      (λ b f. total_same (loose_of z b f) s.views id v w at (same_loose b f))
      (each_put (λ (u : View). (c : ℕ) → c < z.buckets → 0 < loose_of z c each_link u → 0 < shuts_of c u) s.views id w h.chains.home
      (λ c below any. omega (
        arith,
        same_shuts c,
        h.chains.home id v at c below (omega (arith, any, same_loose c each_link)),
      )))
      (λ link any. omega (
        arith,
        told_chains.lone link any,
        total_same (hooks_at link) s.views id v w at (ap (λ (x : HeldBuckets). hooks_of link x.hooks) parts.buckets),
      )) told_chains
    where
      same_shuts : (c : ℕ) → shuts_of c w ≡ shuts_of c v
      same_shuts c = ap (λ (x : HeldBuckets). shuts_in c x.shut) parts.buckets

      same_loose : (b : ℕ) (f : ChainLink → ℕ) → loose_of v.passes.sizes b f w ≡ loose_of v.passes.sizes b f v
      same_loose b f = ap (λ (x : HeldBuckets). total (λ (k : Hook). (if k.up then side v.passes.sizes b f (chain_link k) else 0)) x.hooks) parts.buckets

  event_hooks : HasHooks v.passes.sizes words w.places w.buckets.hooks
  event_hooks =
      let z : Sizes = v.passes.sizes in
      subst (λ (x : Places). HasHooks z words x w.buckets.hooks) (sym parts.places)
      (subst (λ (x : HeldBuckets). HasHooks z words v.places x.hooks) (sym parts.buckets)
      (hooks_stay z s.words words (word_same z s.words (packed made)).links v.places v.buckets.hooks (h.links.hooks id v at)))

  -- with what the event says of records and of expectations, the rule holds of the history with it
  pub event_kept : AreRecords v.passes.sizes made words s.homes (set s.views id w) → AreCommits v.passes.sizes made (set s.views id w)
      → AreExpected v.passes.sizes made words s.homes (set s.views id w)
      → IsKept v.passes.sizes (record l { log = l.log ++ e ∷ [] }) (record { words = slice_set s.words 0 (packed (l.log ++ e ∷ [])); homes = s.homes; views = set s.views id w })
  event_kept records commits expected =
      let z : Sizes = v.passes.sizes in
      let stays : SameChains z s.words words = word_same z s.words (packed made) in
      event_added l (record l { log = l.log ++ e ∷ [] }) s id v w e h at has_some few legal refl parts.passes seen reads (record {
        references = event_references;
        free_list = free_left z s.words words s.homes s.homes s.views id v w l.free at parts.places parts.free (word_refs z s.words (packed made))
            (word_phase z s.words (packed made)) (word_other z s.words (packed made) 1 (omega arith)) refl h.free_list;
        records = records;
        phases = record { shown = event_phases; used = event_used; middle = event_middle };
        commits = commits;
        chains = event_chains;
        links = links_stay z s.words words stays s.views (set s.views id w)
            (each_put (λ u. HasHooks z words u.places u.buckets.hooks) s.views id w
            (λ i u at'. hooks_stay z s.words words stays.links u.places u.buckets.hooks (h.links.hooks i u at')) event_hooks) h.links;
        walks = record {
          each = each_put (λ (u : View). (n : Walk) → u.walk ≡ Some n → IsWalk z words l.chains u.seen.front n) s.views id w
              (λ i u at' n k. walk_stays z s.words words stays l.chains u.seen.front n (h.walks.each i u at' n k))
              (λ n k. absurd (none-some n (sym parts.walk ∙ k)));
        };
        expected = expected;
        kept_words = words_left z l.log s.words s.views id v w at made words (λ i x at'. get_append l.log (e ∷ []) i x at') (λ q i o. omega (arith, o, same.places q, same.both q i)) stays.links (ap (λ (x : Places). x.held) parts.places) h.kept_words;
      })
