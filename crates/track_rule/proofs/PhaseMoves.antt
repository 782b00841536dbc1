-- The phase of a place: it is loaded, and FREE and OWNED are stored.
use Rattle.std.proofs.Common.{◌⊎◌, ◌≡◌, ◌≢◌, ℕ, zero, suc, ◌+◌, ◌-◌, ◌<◌, ◌≤◌, Bool, true, false, min, Option, Some, None, List, [], ◌∷◌, length, refl, sym, ap, subst, ◌∙◌, ⊎_elim, inl, inr, arith, set}
use Rattle.std.specs.Prelude.{nat_lt, slice_index, slice_set, ◌==◌, ◌&&◌, ◌||◌, if◌then◌else◌}
use Rattle.std.proofs.lemmas.Bool.{and_parts, cases_Bool, cases_eq, cases_lt, eqb-true, ltb-true}
use Rattle.std.proofs.lemmas.Bool.Decides.{nat_tests}
use Rattle.std.proofs.lemmas.List.{get_or-set_other, get_or-set_same, length-set, set-get_or}
use mathlib.Core.Option.{none, some}
use lib.ListN.{get_elem?}
use Rattle.atomic_table.specs.Table.{Allows, State, keeps as unchanged, step}
use Rattle.history_book.specs.declared.sizes.Sizes.{Sizes}
use Rattle.history_book.specs.Laws.{FirstEventsStay, GoneEntriesStayGone, LiveRecordsAreConfirmed}
use Rattle.history_book.specs.State.{record_of}
use Rattle.track_rule.specs.declared.slot.Slot.{Slot}
use Rattle.track_rule.specs.declared.view.Keep.{Keep}
use Rattle.track_rule.specs.declared.view.Hand.{Hand}
use Rattle.track_rule.specs.declared.view.View.{View}
use Rattle.track_rule.specs.declared.view.Walk.{Walk}
use Rattle.track_rule.specs.Chains.{each_link, hooks_at, loose_of, shuts_of}
use Rattle.track_rule.specs.Commits.{IsMiddleOf}
use Rattle.expect_table.specs.declared.expectation.Expectation.{Expectation}
use Rattle.track_rule.specs.Expected.{has_expected}
use Rattle.track_rule.specs.Free.{IsFreeList, has_turn, is_among, known_free, owes}
use Rattle.track_rule.specs.History.{state_after}
use Rattle.track_rule.specs.Layout.{first_word, gen_word, head_word, next_word, phase_at, phase_word, refs_at, refs_word, second_word, turn_at, turn_word, place_of}
use Rattle.track_rule.specs.Links.{HasHooks}
use Rattle.track_rule.specs.Passes.{IsPass}
use Rattle.track_rule.specs.PhaseSteps.{LoadPhaseStep, LoadsPhase, StorePhaseStep, holds_open, may_store, phase_stored, read_phase, test_at, tested}
use Rattle.track_rule.specs.Phases.{ArePhases, IsMiddlePhase, middle_of, of_both, of_place, shows, table_keeps}
use Rattle.track_rule.specs.Readings.{found, stored}
use Rattle.track_rule.specs.Records.{AreRecords, IsHand, has_hand, record_in}
use Rattle.track_rule.specs.References.{AreKept, AreReferences, ends, held_times, is_at, is_for_new, is_taken, keeps, taken_times, takes}
use Rattle.track_rule.specs.Rule.{RuleHolds, IsKept, Ledger}
use Rattle.track_rule.specs.Sights.{AreOfPool}
use Rattle.track_rule.specs.Sums.{times, total}
use Rattle.track_rule.specs.Walks.{IsWalk}
use Rattle.track_rule.proofs.LivePlaces.{idle_keeps, live_before}
use Rattle.track_rule.proofs.LiveWords.{kept_phase, live_tuples}
use Rattle.track_rule.proofs.Tested.{tested_kept, tested_left, tested_length, tested_taken, tested_times, words_tested}
use Rattle.track_rule.proofs.Walking.{note_where_is}
use Rattle.track_rule.specs.KeptWords.{HasTuples}
use Rattle.track_rule.proofs.Balance.{Moves, bucket_lines, free_moved, moved, pass_moved, passes_moved, references_moved}
use Rattle.track_rule.proofs.Carried.{carries_set}
use Rattle.track_rule.proofs.Frames.{SameChains, chains_stay, hooks_stay, links_stay, middle_left, walk_stays, middle_on}
use Rattle.track_rule.proofs.KeptWords.{words_left}
use Rattle.track_rule.proofs.Lists.{other_bit, same_bit, some_of, takes_held, total_some}
use Rattle.track_rule.proofs.Seats.{held_below, owed_below}
use Rattle.track_rule.proofs.LastRead.{read_on, stored_on}
use Rattle.track_rule.proofs.ShutChains.{open_none, shown_live}
use Rattle.track_rule.proofs.Sums.{each_put, total_same, total_term}

-- the laws of histories that tell what is live
pub record AreLaws : Type 0 where
  pub confirmed : LiveRecordsAreConfirmed
  pub gone : GoneEntriesStayGone
  pub first : FirstEventsStay

-- two places have two phases
pub one_phase : (z : Sizes) (p q : ℕ) → phase_word z p ≡ phase_word z q → p ≡ q
one_phase z p q e = omega (arith, e)

-- a load of a phase keeps the rule
module _ (laws : AreLaws) (l : Ledger) (s : State Slot View) (id p : ℕ) (v : View) (h : IsKept v.passes.sizes l s) (at : get_elem? s.views id ≡ some v)
    (has_some : 0 < v.passes.shares) (below : p < v.passes.sizes.entries) where
  abbrev phase : ℕ
  phase = phase_at v.passes.sizes s.words p

  abbrev left : View
  left = read_phase p (phase_at v.passes.sizes s.words p) v

  abbrev held : List Keep
  held = tested v.seen.front p (phase_at v.passes.sizes s.words p) v.places.held

  -- the tuples of an entry of which the place is LIVE, where nobody has taken it
  live_there : 2 < phase → HasTuples v.passes.sizes l.log s.words (phase - 3) p
  live_there live = live_tuples v.passes.sizes l s h laws.confirmed p (phase - 3) below (omega (arith, live))

  none_taken : 2 < phase → total (takes p) s.views ≡ 0
  none_taken live = omega (arith, h.references.taken p, h.phases.used p below, live_one phase live)
    where
      live_one : (n : ℕ) → 2 < n → table_keeps n ≡ 1
      live_one n some_live = grind (arith, nat_tests)

  same_times : (q : ℕ) → held_times q held ≡ held_times q v.places.held
  same_times q = tested_times v.seen.front p phase q v.places.held

  same_taken : (q : ℕ) → taken_times q held ≡ taken_times q v.places.held
  same_taken q = tested_taken v.seen.front p phase q v.places.held

  read_references : AreReferences v.passes.sizes l.log s.words (set s.views id left)
  read_references =
      references_moved v.passes.sizes l.log s.words s.words s.views id v left at (record {
        count = λ q under. omega (arith, same_times q);
        beyond = λ q above. omega (arith, same_times q);
        phases = λ q. refl;
        carried = λ q. omega (arith, same_times q, h.references.carried id v at q);
        carried_for = λ q. omega (arith, same_taken q, h.references.carried_for id v at q);
        taken = λ q. omega (arith, same_taken q, h.references.taken q);
        purposes = tested_kept v.seen.front p phase l.log v.places.held (λ live. (live_there live).was) (h.references.purposes id v at);
      }) h.references

  read_free : IsFreeList v.passes.sizes s.words s.homes (set s.views id left) l.free
  read_free =
      free_moved v.passes.sizes s.words s.words s.homes s.homes s.views id v left l.free l.free at (record {
        once = λ q under. refl;
        beyond = λ q above. refl;
        idle = h.free_list.idle;
        phases = λ q. refl;
        turn = refl;
        single = h.free_list.single;
        home = h.free_list.home;
        others = inl refl;
        away = h.free_list.away id v at;
        few = omega (arith, h.free_list.few id v at, tested_length v.seen.front p phase v.places.held);
        clear = h.free_list.clear id v at;
        owned = λ q on. let c = h.free_list.owned id v at q on in (omega (arith, c.0, same_taken q), c.1);
        ended = h.free_list.ended id v at;
      }) h.free_list

  phase_read : IsKept v.passes.sizes l (record {
    words = slice_set s.words (phase_word v.passes.sizes p) (slice_index s.words (phase_word v.passes.sizes p));
    homes = s.homes;
    views = set s.views id left;
  })
  phase_read =
      let z : Sizes = v.passes.sizes in
      let one : IsPass z l.log v = h.passes.each id v at in
      let m : Moves v left = record { made = record { passes = refl; own = refl; gathered = refl }; commit = refl; expected = refl } in
      subst (λ (ws : List ℕ). IsKept z l (record { words = ws; homes = s.homes; views = set s.views id left })) (sym (set-get_or s.words (phase_word z p) 0))
      (moved z l s id v left s.words s.homes l.free h at m (pass_moved z l.log v left one m.made has_some one.front one.told)
      (λ k a b. refl) refl (λ k a. refl) read_references read_free
      (bucket_lines z l s id v left h at refl (λ q. omega (arith, same_times q)) (λ q. omega arith)
      (note_where_is z s.words l.chains v.seen.front (nat_lt phase 3) p v.walk
      (λ e. open_none z l s h p below (idle_keeps phase (omega (arith, ltb-true phase 3 e)))) (h.walks.each id v at)))
      (read_on z l.log s.words s.words s.views id (phase_word z p) phase v left h.passes at has_some refl (λ k other. refl)
      (record { reading = found (phase_word z p) phase; more = refl; word = refl; value = refl }) h.readings)
      (middle_left z l.log v left refl refl refl refl (h.commits id v at))
      (words_tested z l.log s.words s.views id v left p phase at refl live_there none_taken h.kept_words))

  -- a pass that looks what stands at no place
  same_held : holds_open v.places.held ≡ false → left ≡ record v { walk = left.walk; readings = left.readings }
  same_held closed = λ i. record left { places = record v.places { held = tested_left v.seen.front p phase v.places.held closed i } }

  -- or at that of its newest reference alone
  same_others : (k : Keep) (others : List Keep) → v.places.held ≡ k ∷ others → holds_open others ≡ false
      → left ≡ record v { places = record v.places { held = test_at v.seen.front p phase k ∷ others }; walk = left.walk; readings = left.readings }
  same_others k others is closed =
      let here : held ≡ test_at v.seen.front p phase k ∷ others =
      ap (tested v.seen.front p phase) is ∙ ap (λ (ks : List Keep). test_at v.seen.front p phase k ∷ ks) (tested_left v.seen.front p phase others closed) in
      λ i. record left { places = record v.places { held = here i } }

-- a load of a phase
pub loads_phase : AreLaws → (slots id p : ℕ) (v : View) (c : List (ℕ × Slot)) → p < v.passes.sizes.entries → 0 < v.passes.shares
    → Allows (RuleHolds v.passes.sizes) slots id (v, c) (phase_word v.passes.sizes p) (λ n. n)
    (LoadPhaseStep (step slots (phase_word v.passes.sizes p) 0 0 none) (v, c))
loads_phase laws slots id p v c below has_some s (l, h) long at range =
    let z : Sizes = v.passes.sizes in
    let n : ℕ = slice_index s.words (phase_word z p) in
    let w : View = read_phase p n v in
    let told : LoadsPhase p v n w = record {
      view = refl;
      settled = λ closed. same_held laws l s id p v h at has_some below closed;
      newest = λ k others is closed. same_others laws l s id p v h at has_some below k others is closed;
      idle = idle z l s id v h at;
      owned = λ some_owned. (h.free_list.owned id v at p some_owned).1;
      ended = λ some_ended. (h.free_list.ended id v at p some_ended).1;
      sole = λ one. h.readings one id v at has_some (phase_word z p);
      kept = λ i kept live. kept_phase z l s id v h at p i below kept live;
      live = λ i shown was.
          live_before laws.confirmed laws.gone laws.first z l s h v.seen.front (h.passes.each id v at).front p i below shown was;
      hand = λ x has here.
          let k = h.records.away id v at x has in
          let same : phase_at z s.words x.place ≡ n = ap (phase_at z s.words) here in (
            λ some_shown. sym same ∙ k.shown some_shown,
            λ low. omega (arith, same, k.idle low),
          );
      linked = λ b passed e rest i under shut calm its_id here. shown_live z l s id v h at b under p i below calm passed e rest shut its_id here;
    } in (
      w,
      unchanged,
      tt,
      (l, phase_read laws l s id p v h at has_some below),
      λ q same. subst (λ (k : ℕ). LoadsPhase k v n w × (c ≡ c)) (one_phase z p q same) (told, refl),
    )
  where
    idle : (z : Sizes) (l : Ledger) (s : State Slot View) (id : ℕ) (v : View) → IsKept z l s → get_elem? s.views id ≡ some v
        → 0 < times p (known_free v) + times p v.places.clear → slice_index s.words (phase_word z p) ≡ 0
    idle z l s id v h at any =
        ⊎_elim
        (λ (e : 0 < times p v.places.clear). (h.free_list.clear id v at p e).1)
        (λ (e : times p v.places.clear ≤ 0). h.free_list.idle p (on_list v.free l.free (h.free_list.away id v at) (omega (arith, any, e))))
        (cases_lt 0 (times p v.places.clear))
      where
        on_list : (o : Option (List ℕ)) (free : List ℕ) → ((list : List ℕ) → o ≡ Some list → list ≡ free) → 0 < times p (known_free (record v { free = o }))
            → 0 < times p free
        on_list None free away any = absurd (omega (arith, any))
        on_list (Some list) free away any = omega (arith, any, ap (times p) (away list refl))

-- the phase of one place
module _ (z : Sizes) (ws : List ℕ) (p n : ℕ) where
  pub phase_else : (q : ℕ) → q ≢ p → phase_at z (slice_set ws (phase_word z p) n) q ≡ phase_at z ws q
  phase_else q other = get_or-set_other ws (phase_word z p) (phase_word z q) n 0 (λ e. other (one_phase z q p e))

  pub phase_same : SameChains z ws (slice_set ws (phase_word z p) n)
  phase_same = record {
    gens = λ b below. get_or-set_other ws (phase_word z p) (gen_word z b) n 0 (λ e. omega (arith, e, below));
    links = record {
      heads = λ b below. get_or-set_other ws (phase_word z p) (head_word z b) n 0 (λ e. omega (arith, e, below));
      firsts = λ x. get_or-set_other ws (phase_word z p) (first_word z x) n 0 (λ e. omega (arith, e));
      seconds = λ x. get_or-set_other ws (phase_word z p) (second_word z x) n 0 (λ e. omega (arith, e));
      nexts = λ x. get_or-set_other ws (phase_word z p) (next_word z x) n 0 (λ e. omega (arith, e));
    };
  }

  pub phase_refs : (q : ℕ) → refs_at z (slice_set ws (phase_word z p) n) q ≡ refs_at z ws q
  phase_refs q = get_or-set_other ws (phase_word z p) (refs_word z q) n 0 (λ e. omega (arith, e))

  pub phase_turn : (q : ℕ) → turn_at z (slice_set ws (phase_word z p) n) q ≡ turn_at z ws q
  phase_turn q = get_or-set_other ws (phase_word z p) (turn_word z q) n 0 (λ e. omega (arith, e))

  pub phase_first : (k : ℕ) → k < 3 → slice_index (slice_set ws (phase_word z p) n) k ≡ slice_index ws k
  phase_first k low = get_or-set_other ws (phase_word z p) k n 0 (λ e. omega (arith, e, low))

-- a phase of which the table has no reference is LIVE of none
pub few_keeps : (n : ℕ) → table_keeps n ≡ 0 → n ≤ 2
few_keeps n idle = grind (arith, nat_tests, idle)

pub low_shows : (n id : ℕ) → n ≤ 2 → shows n id ≡ 0
low_shows n id low = other_bit n (3 + id) (λ e. omega (arith, e, low))

-- what a pass may store: of a place that it owes, or holds
MayStore : ℕ → ℕ → View → Type 0
MayStore p to v = ((to ≡ 0) × (0 < owes p v)) ⊎ ((to ≡ 1) × (0 < takes p v))

taken_held : (p : ℕ) (held : List Keep) → is_taken p held ≡ true → 1 ≤ held_times p held
taken_held p held e = omega (arith, total_some (λ k. is_at p k && is_for_new k.purpose) held e, takes_held p held)

storing : (p to : ℕ) (v : View) → may_store p to v ≡ true → MayStore p to v
unfolding MayStore
storing p to v e =
    ⊎_elim
    (λ (t : (to == 0 && is_among p v.places.owed) ≡ true).
    let parts = and_parts (to == 0) (is_among p v.places.owed) t in
    inl (eqb-true to 0 parts.0, total_some (λ q. q == p) v.places.owed parts.1))
    (λ (t : (to == 0 && is_among p v.places.owed) ≡ false).
    let rest : (to == 1 && is_taken p v.places.held) ≡ true = sym (ap (λ (b : Bool). b || (to == 1 && is_taken p v.places.held)) t) ∙ e in
    let parts = and_parts (to == 1) (is_taken p v.places.held) rest in
    inr (eqb-true to 1 parts.0, total_some (λ k. is_at p k && is_for_new k.purpose) v.places.held parts.1))
    (cases_Bool (to == 0 && is_among p v.places.owed))

-- that place is one of the pool
pub may_below : (n p to : ℕ) (v : View) → AreOfPool n v.places → may_store p to v ≡ true → p < n
may_below n p to v pool e =
    ⊎_elim
    (λ (t : (to == 0 && is_among p v.places.owed) ≡ true). owed_below n p v.places.owed pool.owed (and_parts (to == 0) (is_among p v.places.owed) t).1)
    (λ (t : (to == 0 && is_among p v.places.owed) ≡ false).
    let rest : (to == 1 && is_taken p v.places.held) ≡ true = sym (ap (λ (b : Bool). b || (to == 1 && is_taken p v.places.held)) t) ∙ e in
    held_below n p v.places.held pool.held
    (some_of (is_at p) v.places.held (taken_held p v.places.held (and_parts (to == 1) (is_taken p v.places.held) rest).1)))
    (cases_Bool (to == 0 && is_among p v.places.owed))

module _ (l : Ledger) (s : State Slot View) (id p to : ℕ) (v : View) (h : IsKept v.passes.sizes l s) (at : get_elem? s.views id ≡ some v)
    (has_some : 0 < v.passes.shares) (below : p < v.passes.sizes.entries) (may : MayStore p to v) where
  -- one of three that add up to one
  none_listed : (f o d n k : ℕ) → f + o + min n 1 ≡ 1 → d ≤ o → k ≤ n → (0 < d) ⊎ (0 < k) → f ≡ 0
  none_listed f o d zero k all low small any = ⊎_elim (λ (e : 0 < d). omega (arith, all, low, e)) (λ (e : 0 < k). absurd (omega (arith, e, small))) any
  none_listed f o d (suc n) k all low small any = omega (arith, all)

  none_owed : (f o d n k : ℕ) → f + o + min n 1 ≡ 1 → d ≤ o → k ≤ n → 0 < k → d ≡ 0
  none_owed f o d zero k all low small any = absurd (omega (arith, small, any))
  none_owed f o d (suc n) k all low small any = omega (arith, all, low)

  mine : keeps p v ≤ refs_at v.passes.sizes s.words p
  mine = omega (arith, h.references.counted p below, total_term (keeps p) s.views id v at)

  unlisted : times p l.free ≡ 0
  unfolding MayStore
  unlisted =
      let any : (0 < owes p v) ⊎ (0 < keeps p v) =
      ⊎_elim (λ (t : (to ≡ 0) × (0 < owes p v)). inl t.1) (λ (t : (to ≡ 1) × (0 < takes p v)). inr (omega (arith, t.1, takes_held p v.places.held))) may in
      none_listed (times p l.free) (total (owes p) s.views) (owes p v) (refs_at v.passes.sizes s.words p) (keeps p v) (h.free_list.once p below)
      (total_term (owes p) s.views id v at) mine any

  -- a pass that has set the phase of the place to FREE owes it, so FREE is stored
  cleared : (i : ℕ) (u : View) → get_elem? s.views i ≡ some u → 0 < owes p u → to ≡ 0
  unfolding MayStore
  cleared i u at' owed =
      ⊎_elim (λ (t : (to ≡ 0) × (0 < owes p v)). t.0)
      (λ (t : (to ≡ 1) × (0 < takes p v)).
      absurd (omega (
        arith,
        owed,
        none_owed (times p l.free) (total (owes p) s.views) (owes p u) (refs_at v.passes.sizes s.words p) (keeps p v) (h.free_list.once p below)
            (total_term (owes p) s.views i u at') mine (omega (arith, t.1, takes_held p v.places.held)),
      )))
      may

  low : to < 2
  unfolding MayStore
  low = ⊎_elim (λ (t : (to ≡ 0) × (0 < owes p v)). omega (arith, t.0)) (λ (t : (to ≡ 1) × (0 < takes p v)). omega (arith, t.0)) may

  here : phase_at v.passes.sizes (slice_set s.words (phase_word v.passes.sizes p) to) p ≡ to
  here = get_or-set_same s.words (phase_word v.passes.sizes p) to 0 (omega (arith, h.count, below))

  -- no entry is live at the place
  idle_place : table_keeps (phase_at v.passes.sizes s.words p) ≡ 0
  unfolding MayStore
  idle_place =
      ⊎_elim
      (λ (t : (to ≡ 0) × (0 < owes p v)).
      none_left (times p l.free) (total (owes p) s.views) (owes p v) (refs_at v.passes.sizes s.words p) (table_keeps (phase_at v.passes.sizes s.words p)) (h.free_list.once p below)
      (total_term (owes p) s.views id v at) t.1 (omega (arith, h.references.counted p below)))
      (λ (t : (to ≡ 1) × (0 < takes p v)).
      omega (arith, t.1, h.references.taken p, total_term (takes p) s.views id v at, h.phases.used p below)) may
    where
      none_left : (f o d n k : ℕ) → f + o + min n 1 ≡ 1 → d ≤ o → 0 < d → k ≤ n → k ≡ 0
      none_left f o d zero k all small any less = omega (arith, less)
      none_left f o d (suc n) k all small any less = absurd (omega (arith, all, small, any))

  idle_phase : phase_at v.passes.sizes s.words p ≤ 2
  idle_phase = few_keeps (phase_at v.passes.sizes s.words p) idle_place

  -- what the table keeps, and shows, is as it was
  same_keeps : (q : ℕ) → table_keeps (phase_at v.passes.sizes (slice_set s.words (phase_word v.passes.sizes p) to) q) ≡ table_keeps (phase_at v.passes.sizes s.words q)
  same_keeps q =
      ⊎_elim
      (λ (e : q ≡ p).
      subst (λ (k : ℕ). table_keeps (phase_at v.passes.sizes (slice_set s.words (phase_word v.passes.sizes p) to) k) ≡ table_keeps (phase_at v.passes.sizes s.words k)) (sym e)
      (ap table_keeps here ∙ idle_keeps to (omega (arith, low)) ∙ sym idle_place))
      (λ (e : q ≢ p). ap table_keeps (phase_else v.passes.sizes s.words p to q e)) (cases_eq q p)

  same_shows : (q i : ℕ) → shows (phase_at v.passes.sizes (slice_set s.words (phase_word v.passes.sizes p) to) q) i ≡ shows (phase_at v.passes.sizes s.words q) i
  same_shows q i =
      ⊎_elim
      (λ (e : q ≡ p).
      subst (λ (k : ℕ). shows (phase_at v.passes.sizes (slice_set s.words (phase_word v.passes.sizes p) to) k) i ≡ shows (phase_at v.passes.sizes s.words k) i) (sym e)
      (ap (λ (ph : ℕ). shows ph i) here ∙ low_shows to i (omega (arith, low)) ∙ sym (low_shows (phase_at v.passes.sizes s.words p) i idle_phase)))
      (λ (e : q ≢ p). ap (λ (ph : ℕ). shows ph i) (phase_else v.passes.sizes s.words p to q e)) (cases_eq q p)

  stored_references : AreReferences v.passes.sizes l.log (slice_set s.words (phase_word v.passes.sizes p) to) (set s.views id (phase_stored p to v))
  stored_references = record {
    counted = λ q under. omega (
      arith,
      h.references.counted q under,
      phase_refs v.passes.sizes s.words p to q,
      total_same (keeps q) s.views id v (phase_stored p to v) at refl,
      same_keeps q,
    );
    beyond = λ q above. omega (arith, h.references.beyond q above, total_same (keeps q) s.views id v (phase_stored p to v) at refl);
    carried = each_put (λ u. (q : ℕ) → times q u.places.carried ≤ held_times q u.places.held) s.views id (phase_stored p to v) h.references.carried
        (h.references.carried id v at);
    carried_for = each_put (λ u. (q : ℕ) → times q u.places.carried ≤ takes q u + middle_of (of_place q) u + ends q u) s.views id (phase_stored p to v)
        h.references.carried_for (h.references.carried_for id v at);
    taken = λ q. omega (
      arith,
      h.references.taken q,
      total_same (takes q) s.views id v (phase_stored p to v) at refl,
      total_same (ends q) s.views id v (phase_stored p to v) at refl,
    );
    purposes = each_put (λ u. AreKept l.log u.places.held) s.views id (phase_stored p to v) h.references.purposes (h.references.purposes id v at);
  }

  -- FREE where the pass has cleared it
  clear_then : (b : Bool) → (q : ℕ) → 0 < times q (if b then p ∷ v.places.clear else v.places.clear) → (b ≡ true → 0 < owes p v)
      → (0 < times q v.places.clear) ⊎ ((q ≡ p) × (0 < owes p v))
  clear_then false q any owed = inl any
  clear_then true q any owed =
      ⊎_elim (λ (e : p ≡ q). inr (sym e, owed refl)) (λ (e : p ≢ q). inl (omega (arith, any, other_bit p q e))) (cases_eq p q)

  is_owed : (to == 0) ≡ true → 0 < owes p v
  unfolding MayStore
  is_owed e = ⊎_elim (λ (t : (to ≡ 0) × (0 < owes p v)). t.1) (λ (t : (to ≡ 1) × (0 < takes p v)). absurd (omega (arith, t.0, eqb-true to 0 e))) may

  still_clear : (i : ℕ) (u : View) → get_elem? s.views i ≡ some u → (q : ℕ) → 0 < times q u.places.clear
      → (0 < times q u.places.owed) × (phase_at v.passes.sizes (slice_set s.words (phase_word v.passes.sizes p) to) q ≡ 0)
  still_clear i u at' q on =
      let c = h.free_list.clear i u at' q on in (
        c.0,
        ⊎_elim
            (λ (e : q ≡ p).
            ap (phase_at v.passes.sizes (slice_set s.words (phase_word v.passes.sizes p) to)) e ∙ here
            ∙ cleared i u at' (subst (λ (x : ℕ). 0 < times x u.places.owed) e c.0))
            (λ (e : q ≢ p). phase_else v.passes.sizes s.words p to q e ∙ c.1) (cases_eq q p),
      )

  -- no pass holds what another one owes
  held_and_owed : (i : ℕ) (u : View) → get_elem? s.views i ≡ some u → 0 < held_times p u.places.held → 0 < owes p v → ⊥
  held_and_owed i u at' holds owed =
      omega (
        arith,
        owed,
        none_owed (times p l.free) (total (owes p) s.views) (owes p v) (refs_at v.passes.sizes s.words p) (keeps p u) (h.free_list.once p below)
            (total_term (owes p) s.views id v at) (omega (arith, h.references.counted p below, total_term (keeps p) s.views i u at'))
            (omega (arith, holds)),
      )

  -- a place that a pass owns is held by it, so OWNED is stored
  set_owned : 0 < held_times p v.places.held → to ≡ 1
  unfolding MayStore
  set_owned mine' = ⊎_elim (λ (t : (to ≡ 0) × (0 < owes p v)). absurd (held_and_owed id v at mine' t.1)) (λ (t : (to ≡ 1) × (0 < takes p v)). t.0) may

  still_owned : (i : ℕ) (u : View) → get_elem? s.views i ≡ some u → (q : ℕ) → 0 < times q u.places.owned
      → (0 < takes q u) × (phase_at v.passes.sizes (slice_set s.words (phase_word v.passes.sizes p) to) q ≡ 1)
  unfolding MayStore
  still_owned i u at' q on =
      let c = h.free_list.owned i u at' q on in (
        c.0,
        ⊎_elim
            (λ (e : q ≡ p).
            ap (phase_at v.passes.sizes (slice_set s.words (phase_word v.passes.sizes p) to)) e ∙ here
            ∙ ⊎_elim (λ (t : (to ≡ 0) × (0 < owes p v)). absurd (held_and_owed i u at' (subst (λ (x : ℕ). 0 < held_times x u.places.held) e (omega (arith, c.0, takes_held q u.places.held))) t.1))
            (λ (t : (to ≡ 1) × (0 < takes p v)). t.0) may)
            (λ (e : q ≢ p). phase_else v.passes.sizes s.words p to q e ∙ c.1) (cases_eq q p),
      )

  owned_then : (b : Bool) → (q : ℕ) → 0 < times q (if b then p ∷ v.places.owned else v.places.owned) → (b ≡ true → 0 < takes p v)
      → (0 < times q v.places.owned) ⊎ ((q ≡ p) × (0 < takes p v))
  owned_then false q any holds = inl any
  owned_then true q any holds =
      ⊎_elim (λ (e : p ≡ q). inr (sym e, holds refl)) (λ (e : p ≢ q). inl (omega (arith, any, other_bit p q e))) (cases_eq p q)

  is_held_one : (to == 1) ≡ true → 0 < takes p v
  unfolding MayStore
  is_held_one e = ⊎_elim (λ (t : (to ≡ 0) × (0 < owes p v)). absurd (omega (arith, t.0, eqb-true to 1 e))) (λ (t : (to ≡ 1) × (0 < takes p v)). t.1) may

  owned_more : HasHooks v.passes.sizes (slice_set s.words (phase_word v.passes.sizes p) to) v.places v.buckets.hooks
      → HasHooks v.passes.sizes (slice_set s.words (phase_word v.passes.sizes p) to) (phase_stored p to v).places v.buckets.hooks
  owned_more k = record {
    each = k.each;
    held = k.held;
    linked = λ i x at' up. omega (arith, more (to == 1) (place_of x.link), k.linked i x at' up);
    one = k.one;
  }
    where
      more : (b : Bool) (q : ℕ) → times q v.places.owned ≤ times q (if b then p ∷ v.places.owned else v.places.owned)
      more true q = omega arith
      more false q = omega arith

  -- a place whose entry was destroyed is another one
  still_ended : (i : ℕ) (u : View) → get_elem? s.views i ≡ some u → (q : ℕ) → 0 < times q u.places.ended
      → (0 < times q u.places.carried) × (phase_at v.passes.sizes (slice_set s.words (phase_word v.passes.sizes p) to) q ≡ 2)
  unfolding MayStore
  still_ended i u at' q on =
      let c = h.free_list.ended i u at' q on in
      let other : q ≢ p = λ e.
      let ending : 0 < times p u.places.ended = subst (λ (x : ℕ). 0 < times x u.places.ended) e on in
      let carrying : 0 < times p u.places.carried = subst (λ (x : ℕ). 0 < times x u.places.carried) e c.0 in
      ⊎_elim
      (λ (t : (to ≡ 0) × (0 < owes p v)). held_and_owed i u at' (omega (arith, carrying, h.references.carried i u at' p)) t.1)
      (λ (t : (to ≡ 1) × (0 < takes p v)).
      omega (arith, t.1, h.references.taken p, total_term (takes p) s.views id v at, total_term (ends p) s.views i u at', ending)) may in
      (c.0, phase_else v.passes.sizes s.words p to q other ∙ c.1)

  stored_free : IsFreeList v.passes.sizes (slice_set s.words (phase_word v.passes.sizes p) to) s.homes (set s.views id (phase_stored p to v)) l.free
  stored_free =
      let z : Sizes = v.passes.sizes in
      let w : View = phase_stored p to v in
      let new : List ℕ = slice_set s.words (phase_word v.passes.sizes p) to in
      let turn : slice_index new 1 ≡ slice_index s.words 1 = phase_first z s.words p to 1 (omega arith) in
      record {
        once = λ q under. omega (arith, h.free_list.once q under, ap (λ (k : ℕ). min k 1) (phase_refs z s.words p to q), total_same (owes q) s.views id v w at refl);
        beyond = λ q above. omega (arith, h.free_list.beyond q above, total_same (owes q) s.views id v w at refl);
        idle = λ q on. phase_else z s.words p to q (λ e. omega (arith, on, ap (λ (x : ℕ). times x l.free) e, unlisted)) ∙ h.free_list.idle q on;
        turn = turn ∙ h.free_list.turn ∙ sym (total_same has_turn s.views id v w at refl);
        single = omega (arith, turn, h.free_list.single);
        home = λ calm. h.free_list.home (sym turn ∙ calm);
        away = each_put (λ u. (list : List ℕ) → u.free ≡ Some list → list ≡ l.free) s.views id w h.free_list.away (h.free_list.away id v at);
        few = each_put (λ u. length u.places.held + length u.places.owed ≤ 4) s.views id w h.free_list.few (h.free_list.few id v at);
        clear = each_put (λ u. (q : ℕ) → 0 < times q u.places.clear → (0 < times q u.places.owed) × (phase_at z new q ≡ 0)) s.views id w still_clear
            (λ q on.
            ⊎_elim (λ (t : 0 < times q v.places.clear). still_clear id v at q t)
            (λ (t : (q ≡ p) × (0 < owes p v)). (
              subst (λ (x : ℕ). 0 < times x v.places.owed) (sym t.0) t.1,
              ap (phase_at z new) t.0 ∙ here ∙ cleared id v at t.1,
            ))
            (clear_then (to == 0) q on is_owed));
        owned = each_put (λ u. (q : ℕ) → 0 < times q u.places.owned → (0 < takes q u) × (phase_at z new q ≡ 1)) s.views id w still_owned
            (λ q on.
            ⊎_elim (λ (t : 0 < times q v.places.owned). still_owned id v at q t)
            (λ (t : (q ≡ p) × (0 < takes p v)). (
              subst (λ (x : ℕ). 0 < takes x v) (sym t.0) t.1,
              ap (phase_at z new) t.0 ∙ here ∙ set_owned (omega (arith, t.1, takes_held p v.places.held)),
            ))
            (owned_then (to == 1) q on is_held_one));
        ended = each_put (λ u. (q : ℕ) → 0 < times q u.places.ended → (0 < times q u.places.carried) × (phase_at z new q ≡ 2)) s.views id w still_ended
            (still_ended id v at);
      }

  stored_records : AreRecords v.passes.sizes l.log (slice_set s.words (phase_word v.passes.sizes p) to) s.homes (set s.views id (phase_stored p to v))
  stored_records =
      let z : Sizes = v.passes.sizes in
      let w : View = phase_stored p to v in
      record {
        turn = λ q under. phase_turn z s.words p to q ∙ h.records.turn q under ∙ sym (total_same (has_hand q) s.views id v w at refl);
        single = λ q. omega (arith, h.records.single q, total_same (has_hand q) s.views id v w at refl);
        home = λ q under calm.
            let r = h.records.home q under (sym (phase_turn z s.words p to q) ∙ calm) in
            record { slot = r.slot; there = r.there; kind = r.kind; live = home_live q r.slot r.live };
        away = each_put (λ u. (x : Hand) → u.commit.hand ≡ Some x → IsHand z l.log (slice_set s.words (phase_word v.passes.sizes p) to) x) s.views id w
            (λ i u at' x e. low_hand x (h.records.away i u at' x e)) (λ x e. low_hand x (h.records.away id v at x e));
      }
    where
      home_live : (q : ℕ) (x : Slot) → (3 ≤ phase_at v.passes.sizes s.words q → record_in x ≡ record_of (phase_at v.passes.sizes s.words q - 3) (state_after l.log))
          → 3 ≤ phase_at v.passes.sizes (slice_set s.words (phase_word v.passes.sizes p) to) q
          → record_in x ≡ record_of (phase_at v.passes.sizes (slice_set s.words (phase_word v.passes.sizes p) to) q - 3) (state_after l.log)
      home_live q x live shown =
          ⊎_elim
          (λ (e : q ≡ p).
          absurd (omega (arith, shown, ap (phase_at v.passes.sizes (slice_set s.words (phase_word v.passes.sizes p) to)) e, here, low)))
          (λ (e : q ≢ p).
          let same = phase_else v.passes.sizes s.words p to q e in
          live (omega (arith, shown, same)) ∙ ap (λ (ph : ℕ). record_of (ph - 3) (state_after l.log)) (sym same)) (cases_eq q p)

      -- what passes know of a phase under its turn
      low_hand : (x : Hand) → IsHand v.passes.sizes l.log s.words x → IsHand v.passes.sizes l.log (slice_set s.words (phase_word v.passes.sizes p) to) x
      low_hand x k = record {
        below = k.below;
        shown = λ some_shown.
            ⊎_elim
            (λ (e : x.place ≡ p). absurd (omega (arith, some_shown, k.shown some_shown, ap (phase_at v.passes.sizes s.words) e, idle_phase)))
            (λ (e : x.place ≢ p). phase_else v.passes.sizes s.words p to x.place e ∙ k.shown some_shown) (cases_eq x.place p);
        idle = λ few.
            ⊎_elim
            (λ (e : x.place ≡ p). omega (arith, ap (phase_at v.passes.sizes (slice_set s.words (phase_word v.passes.sizes p) to)) e, here, low))
            (λ (e : x.place ≢ p). omega (arith, phase_else v.passes.sizes s.words p to x.place e, k.idle few)) (cases_eq x.place p);
        live = k.live;
      }

  -- and so is one in the middle of a commit
  still_middle : (i : ℕ) (u : View) → get_elem? s.views i ≡ some u → IsMiddlePhase v.passes.sizes (slice_set s.words (phase_word v.passes.sizes p) to) u.commit.middle
  unfolding MayStore
  still_middle i u at' =
      middle_on v.passes.sizes l.log s.words (slice_set s.words (phase_word v.passes.sizes p) to) u.commit.middle u.commit.hand u.places.carried u.buckets.shut u.expected
      (h.commits i u at')
      (λ x n few committing weighs phase.
      let other : x.place ≢ p = λ e.
      let carrying : 0 < times p u.places.carried = subst (λ (q : ℕ). 0 < times q u.places.carried) e committing.reference in
      ⊎_elim
      (λ (t : (to ≡ 0) × (0 < owes p v)). held_and_owed i u at' (omega (arith, carrying, h.references.carried i u at' p)) t.1)
      (λ (t : (to ≡ 1) × (0 < takes p v)). omega (
        arith,
        t.1,
        h.references.taken p,
        total_term (takes p) s.views id v at,
        h.phases.used p below,
        total_term (middle_of (of_place p)) s.views i u at',
        weighs (of_place p),
        same_bit x.place p e,
      )) may in
      phase_else v.passes.sizes s.words p to x.place other ∙ phase)
      (h.phases.middle i u at')

  stored_phases : ArePhases v.passes.sizes l.log (slice_set s.words (phase_word v.passes.sizes p) to) (set s.views id (phase_stored p to v))
  stored_phases =
      let z : Sizes = v.passes.sizes in
      let w : View = phase_stored p to v in
      record {
        shown = λ q i under. omega (
          arith,
          h.phases.shown q i under,
          total_same (middle_of (of_both q i)) s.views id v w at refl,
          same_shows q i,
        );
        used = λ q under. omega (
          arith,
          h.phases.used q under,
          total_same (middle_of (of_place q)) s.views id v w at refl,
          same_keeps q,
        );
        middle = each_put (λ u. IsMiddlePhase z (slice_set s.words (phase_word v.passes.sizes p) to) u.commit.middle) s.views id w still_middle (still_middle id v at);
      }

  phase_kept : IsKept v.passes.sizes l (record { words = slice_set s.words (phase_word v.passes.sizes p) to; homes = s.homes; views = set s.views id (phase_stored p to v) })
  phase_kept =
      let z : Sizes = v.passes.sizes in
      let w : View = phase_stored p to v in
      let new : List ℕ = slice_set s.words (phase_word v.passes.sizes p) to in
      let one : IsPass z l.log v = h.passes.each id v at in
      let m : Moves v w = record { made = record { passes = refl; own = refl; gathered = refl }; commit = refl; expected = refl } in
      let same : SameChains z s.words new = phase_same z s.words p to in
      let expected : slice_index new 2 ≡ slice_index s.words 2 = phase_first z s.words p to 2 (omega arith) in
      record {
        limits = h.limits;
        count = length-set s.words (phase_word v.passes.sizes p) to ∙ h.count;
        passes = passes_moved z l.log s.views id v w at m.made (pass_moved z l.log v w one m.made has_some one.front one.told) h.passes;
        history = record { legal = h.history.legal; word = phase_first z s.words p to 0 (omega arith) ∙ h.history.word };
        references = stored_references;
        free_list = stored_free;
        records = stored_records;
        phases = stored_phases;
        commits = each_put (IsMiddleOf z l.log) s.views id w h.commits (h.commits id v at);
        chains = chains_stay z s.words new same l.log s.views (set s.views id w) l.chains (carries_set (λ (u : View). u.buckets.shut) [] s.views id v w at refl)
            (λ b weight. total_same (loose_of z b weight) s.views id v w at refl)
            (each_put (λ (u : View). (c : ℕ) → c < z.buckets → 0 < loose_of z c each_link u → 0 < shuts_of c u) s.views id w h.chains.home (h.chains.home id v at))
            (λ link any. omega (arith, h.chains.lone link any, total_same (hooks_at link) s.views id v w at refl)) h.chains;
        links = links_stay z s.words new same s.views (set s.views id w)
            (each_put (λ u. HasHooks z new u.places u.buckets.hooks) s.views id w
            (λ i u at'. hooks_stay z s.words new same.links u.places u.buckets.hooks (h.links.hooks i u at'))
            (owned_more (hooks_stay z s.words new same.links v.places v.buckets.hooks (h.links.hooks id v at)))) h.links;
        walks = record {
          each = each_put (λ (u : View). (n : Walk) → u.walk ≡ Some n → IsWalk z new l.chains u.seen.front n) s.views id w
              (λ i u at' n e. walk_stays z s.words new same l.chains u.seen.front n (h.walks.each i u at' n e))
              (λ n e. walk_stays z s.words new same l.chains v.seen.front n (h.walks.each id v at n e));
        };
        readings = stored_on z l.log s.words s.views id (phase_word z p) to v w h.passes at has_some (omega (arith, h.count, below))
            (record { reading = stored (phase_word z p) to; more = refl; word = refl; value = refl }) h.readings;
        kept_words = words_left z l.log s.words s.views id v w at l.log new (λ i e at'. at') (λ p i o. o) same.links refl h.kept_words;
        expected = record {
          turn = expected ∙ h.expected.turn ∙ sym (total_same has_expected s.views id v w at refl);
          single = omega (arith, expected, h.expected.single);
          home = λ calm. h.expected.home (sym expected ∙ calm);
          away = each_put (λ (u : View). (list : List Expectation) → u.expected ≡ Some list → list ≡ (state_after l.log).expects) s.views id w h.expected.away
              (h.expected.away id v at);
        };
      }

-- FREE, or OWNED, is stored
pub stores_phase : (slots id p to : ℕ) (v : View) (c : List (ℕ × Slot)) → p < v.passes.sizes.entries → 0 < v.passes.shares → may_store p to v ≡ true
    → Allows (RuleHolds v.passes.sizes) slots id (v, c) (phase_word v.passes.sizes p) (λ _. to)
    (λ _. StorePhaseStep (step slots (phase_word v.passes.sizes p) to 0 none) (v, c) to)
stores_phase slots id p to v c below has_some may s (l, h) long at range = (
  phase_stored p to v,
  unchanged,
  tt,
  (l, phase_kept l s id p to v h at has_some below (storing p to v may)),
  λ q same. subst (λ (k : ℕ). (phase_stored p to v ≡ phase_stored k to v) × (c ≡ c)) (one_phase v.passes.sizes p q same) (refl, refl),
)
