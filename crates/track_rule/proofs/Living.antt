-- The phase of a place is made LIVE, behind the Confirm of its record.
use Rattle.std.proofs.Common.{◌≡◌, ◌≢◌, ℕ, ◌+◌, ◌-◌, ◌<◌, ◌≤◌, zero, suc, Some, List, [], ◌∷◌, length, refl, sym, ap, subst, ◌∙◌, ⊎_elim, arith, set, ◌++◌}
use Rattle.std.specs.Prelude.{slice_index, slice_set, ◌==◌, min}
use Rattle.std.proofs.lemmas.Bool.{cases_eq, cases_lt}
use Rattle.std.proofs.lemmas.List.{get_or-set_same, length-set}
use mathlib.Core.Option.{none, some}
use lib.ListN.{get_elem?}
use Rattle.atomic_table.specs.Table.{Allows, State, keeps as unchanged, step, Me, Step}
use Rattle.expect_table.specs.declared.expectation.Expectation.{Expectation}
use Rattle.history_book.specs.State.{record_of}
use Rattle.history_book.specs.declared.record.Record.{Record}
use Rattle.history_book.specs.declared.sizes.Sizes.{Sizes}
use Rattle.track_rule.proofs.Seats.{StaysAt, same_at}
use Rattle.track_rule.specs.Slots.{free_number, hand_number, expected_number}
use Rattle.track_rule.specs.declared.slot.Slot.{Slot}
use Rattle.track_rule.specs.declared.view.Hand.{Hand}
use Rattle.track_rule.specs.declared.view.Middle.{Middle}
use Rattle.track_rule.specs.declared.view.Middle.TheVariants.{Calm, Born, Dying}
use Rattle.track_rule.specs.declared.view.View.{View}
use Rattle.track_rule.specs.declared.view.Walk.{Walk}
use Rattle.track_rule.specs.Chains.{each_link, hooks_at, loose_of, shuts_of}
use Rattle.track_rule.specs.CommitSteps.{LiveStep, shown_live, IsBorn}
use Rattle.track_rule.specs.Commits.{IsCommitting, IsMiddle, IsMiddleOf}
use Rattle.track_rule.specs.Expected.{has_expected}
use Rattle.track_rule.specs.Free.{IsFreeList, has_turn, owes, taken_out}
use Rattle.track_rule.specs.History.{records_after, state_after}
use Rattle.track_rule.specs.Layout.{phase_at, phase_word, refs_at, turn_at}
use Rattle.track_rule.specs.Links.{HasHooks}
use Rattle.track_rule.specs.Passes.{IsPass}
use Rattle.track_rule.specs.Phases.{ArePhases, IsMiddlePhase, middle_of, middle_weight, of_both, of_place, shows, table_keeps}
use Rattle.track_rule.specs.Readings.{stored}
use Rattle.track_rule.specs.Records.{AreRecords, IsHand, has_hand, is_hand_of, record_in}
use Rattle.track_rule.specs.References.{AreKept, AreReferences, ends, held_times, keeps, takes}
use Rattle.track_rule.specs.Rule.{RuleHolds, IsKept, Ledger}
use Rattle.track_rule.specs.Sums.{bit, times, total}
use Rattle.track_rule.specs.Walks.{IsWalk}
use Rattle.track_rule.proofs.Balance.{MakesNone, pass_moved, passes_moved}
use Rattle.track_rule.proofs.Carried.{carries_set}
use Rattle.track_rule.proofs.Frames.{SameChains, chains_stay, hooks_stay, links_stay, middle_on, walk_stays}
use Rattle.track_rule.proofs.LastRead.{stored_on}
use Rattle.track_rule.proofs.LivePlaces.{both_shown, live_keeps, none_else}
use Rattle.track_rule.proofs.KeptWords.{words_left}
use Rattle.track_rule.proofs.Lists.{other_bit, other_taken, same_bit, same_taken, some_of}
use Rattle.track_rule.proofs.PhaseMoves.{few_keeps, low_shows, one_phase, phase_else, phase_first, phase_refs, phase_same, phase_turn}
use Rattle.track_rule.proofs.RecordTurns.{hand_there}
use Rattle.track_rule.proofs.Sums.{each_other, each_put, total_same, total_set, total_term, total_two}

module _ (l : Ledger) (s : State Slot View) (id : ℕ) (v : View) (r : Record) (h : IsKept v.passes.sizes l s) (at : get_elem? s.views id ≡ some v)
    (has_some : 0 < v.passes.shares) (born : v.commit.middle ≡ Born r) where
  abbrev p : ℕ
  p = r.place

  abbrev w : View
  w = shown_live r.place r.id r v

  abbrev new : List ℕ
  new = slice_set s.words (phase_word v.passes.sizes r.place) (3 + r.id)

  commit : IsCommitting v.passes.sizes l.log v.commit.hand v.places.carried v.buckets.shut r
  commit = subst (λ (m : Middle). IsMiddle v.passes.sizes l.log m v.commit.hand v.places.carried v.buckets.shut v.expected) born (h.commits id v at)

  some_held : 0 < held_times r.place v.places.held
  some_held = omega (arith, commit.reference, h.references.carried id v at r.place)

  pub live_below : r.place < v.passes.sizes.entries
  live_below =
      ⊎_elim (λ (e : r.place < v.passes.sizes.entries). e)
      (λ (e : v.passes.sizes.entries ≤ r.place).
      absurd (omega (arith, h.references.beyond r.place e, total_term (keeps r.place) s.views id v at, some_held)))
      (cases_lt r.place v.passes.sizes.entries)

  some_refs : 0 < refs_at v.passes.sizes s.words r.place
  some_refs = omega (arith, h.references.counted r.place live_below, total_term (keeps r.place) s.views id v at, some_held)

  here : phase_at v.passes.sizes new r.place ≡ 3 + r.id
  here = get_or-set_same s.words (phase_word v.passes.sizes r.place) (3 + r.id) 0 (omega (arith, h.count, live_below))

  mine : (f : Record → ℕ) → middle_of f v ≡ f r
  mine f = ap (middle_weight f) born

  own_middle : 1 ≤ total (middle_of (of_place r.place)) s.views
  own_middle = omega (arith, total_term (middle_of (of_place r.place)) s.views id v at, mine (of_place r.place), same_bit r.place r.place refl)

  one_live : total (of_place r.place) (records_after l.log) ≡ 1
  one_live = omega (arith, h.references.taken r.place, h.phases.used r.place live_below, own_middle)

  idle : table_keeps (phase_at v.passes.sizes s.words r.place) ≡ 0
  idle = omega (arith, h.phases.used r.place live_below, own_middle, one_live)

  nobody_takes : (i : ℕ) (u : View) → get_elem? s.views i ≡ some u → takes r.place u ≡ 0
  nobody_takes i u at' = omega (arith, h.references.taken r.place, one_live, total_term (takes r.place) s.views i u at')

  -- nothing is owed there, and it is not on the list
  not_free : times r.place l.free ≡ 0
  not_free = none_free (times r.place l.free) (total (owes r.place) s.views) (refs_at v.passes.sizes s.words r.place) (h.free_list.once r.place live_below) some_refs
    where
      none_free : (f o n : ℕ) → f + o + min n 1 ≡ 1 → 0 < n → f ≡ 0
      none_free f o zero all any = absurd (omega (arith, any))
      none_free f o (suc n) all any = omega (arith, all)

  none_owes : total (owes r.place) s.views ≡ 0
  none_owes = none_owed (times r.place l.free) (total (owes r.place) s.views) (refs_at v.passes.sizes s.words r.place) (h.free_list.once r.place live_below) some_refs
    where
      none_owed : (f o n : ℕ) → f + o + min n 1 ≡ 1 → 0 < n → o ≡ 0
      none_owed f o zero all any = absurd (omega (arith, any))
      none_owed f o (suc n) all any = omega (arith, all)

  carried_here : times r.place (taken_out r.place v.places.carried) + 1 ≡ times r.place v.places.carried
  carried_here = same_taken r.place v.places.carried (some_of (λ q. q == r.place) v.places.carried commit.reference)

  carried_else : (q : ℕ) → q ≢ r.place → times q (taken_out r.place v.places.carried) ≡ times q v.places.carried
  carried_else q other =
      other_taken r.place q v.places.carried (some_of (λ k. k == r.place) v.places.carried commit.reference) (λ e. other (sym e))

  live_references : AreReferences v.passes.sizes l.log new (set s.views id w)
  live_references =
      let z : Sizes = v.passes.sizes in
      record {
        counted = λ q below.
            ⊎_elim
            (λ (e : q ≡ r.place).
            subst (λ (x : ℕ). refs_at z new x ≡ total (keeps x) (set s.views id w) + table_keeps (phase_at z new x)) (sym e) (omega (
              arith,
              phase_refs z s.words r.place (3 + r.id) r.place,
              h.references.counted r.place live_below,
              idle,
              total_set (keeps r.place) s.views id v w at,
              carried_here,
              ap table_keeps here,
              live_keeps r.id,
            )))
            (λ (e : q ≢ r.place). omega (
              arith,
              phase_refs z s.words r.place (3 + r.id) q,
              h.references.counted q below,
              total_set (keeps q) s.views id v w at,
              carried_else q e,
              ap table_keeps (phase_else z s.words r.place (3 + r.id) q e),
            ))
            (cases_eq q r.place);
        beyond = λ q above. omega (
          arith,
          h.references.beyond q above,
          total_set (keeps q) s.views id v w at,
          carried_else q (λ e. omega (arith, e, above, live_below)),
        );
        carried = each_put (λ u. (q : ℕ) → times q u.places.carried ≤ held_times q u.places.held) s.views id w h.references.carried
            (λ q.
            ⊎_elim
            (λ (e : q ≡ r.place).
            subst (λ (x : ℕ). times x (taken_out r.place v.places.carried) ≤ held_times x v.places.held) (sym e)
            (omega (arith, carried_here, h.references.carried id v at r.place)))
            (λ (e : q ≢ r.place). omega (arith, carried_else q e, h.references.carried id v at q))
            (cases_eq q r.place));
        carried_for = each_put (λ u. (q : ℕ) → times q u.places.carried ≤ takes q u + middle_of (of_place q) u + ends q u) s.views id w h.references.carried_for
            (λ q.
            ⊎_elim
            (λ (e : q ≡ r.place).
            subst (λ (x : ℕ). times x (taken_out r.place v.places.carried) ≤ takes x v + 0 + ends x v) (sym e)
            (omega (arith, carried_here, h.references.carried_for id v at r.place, mine (of_place r.place), same_bit r.place r.place refl)))
            (λ (e : q ≢ r.place). omega (
              arith,
              carried_else q e,
              h.references.carried_for id v at q,
              mine (of_place q),
              other_bit r.place q (λ x. e (sym x)),
            ))
            (cases_eq q r.place));
        taken = λ q. omega (arith, h.references.taken q, total_same (takes q) s.views id v w at refl, total_same (ends q) s.views id v w at refl);
        purposes = each_put (λ u. AreKept l.log u.places.held) s.views id w h.references.purposes (h.references.purposes id v at);
      }

  -- what is cleared or owned is of another place
  still_clear : (i : ℕ) (u : View) → get_elem? s.views i ≡ some u → (q : ℕ) → 0 < times q u.places.clear → (0 < times q u.places.owed) × (phase_at v.passes.sizes new q ≡ 0)
  still_clear i u at' q on =
      let c = h.free_list.clear i u at' q on in (
        c.0,
        ⊎_elim
            (λ (e : q ≡ r.place).
            absurd (omega (arith, none_owes, total_term (owes r.place) s.views i u at', subst (λ (x : ℕ). 0 < times x u.places.owed) e c.0)))
            (λ (e : q ≢ r.place). phase_else v.passes.sizes s.words r.place (3 + r.id) q e ∙ c.1)
            (cases_eq q r.place),
      )

  still_owned : (i : ℕ) (u : View) → get_elem? s.views i ≡ some u → (q : ℕ) → 0 < times q u.places.owned → (0 < takes q u) × (phase_at v.passes.sizes new q ≡ 1)
  still_owned i u at' q on =
      let c = h.free_list.owned i u at' q on in (
        c.0,
        ⊎_elim
            (λ (e : q ≡ r.place). absurd (omega (arith, nobody_takes i u at', subst (λ (x : ℕ). 0 < takes x u) e c.0)))
            (λ (e : q ≢ r.place). phase_else v.passes.sizes s.words r.place (3 + r.id) q e ∙ c.1)
            (cases_eq q r.place),
      )

  still_ended : (i : ℕ) (u : View) → get_elem? s.views i ≡ some u → (q : ℕ) → 0 < times q u.places.ended
      → (q ≢ r.place) × (0 < times q u.places.carried) × (phase_at v.passes.sizes new q ≡ 2)
  still_ended i u at' q on =
      let c = h.free_list.ended i u at' q on in
      let other : q ≢ r.place = λ e. omega (
        arith,
        h.references.taken r.place,
        one_live,
        total_term (ends r.place) s.views i u at',
        subst (λ (x : ℕ). 0 < times x u.places.ended) e on,
      ) in
      (other, c.0, phase_else v.passes.sizes s.words r.place (3 + r.id) q other ∙ c.1)

  live_free : IsFreeList v.passes.sizes new s.homes (set s.views id w) l.free
  live_free =
      let z : Sizes = v.passes.sizes in
      let turn : slice_index new 1 ≡ slice_index s.words 1 = phase_first z s.words r.place (3 + r.id) 1 (omega arith) in
      record {
        once = λ q below. omega (
          arith,
          h.free_list.once q below,
          ap (λ (k : ℕ). min k 1) (phase_refs z s.words r.place (3 + r.id) q),
          total_same (owes q) s.views id v w at refl,
        );
        beyond = λ q above. omega (arith, h.free_list.beyond q above, total_same (owes q) s.views id v w at refl);
        idle = λ q on. phase_else z s.words r.place (3 + r.id) q (λ e. omega (arith, on, ap (λ (x : ℕ). times x l.free) e, not_free)) ∙ h.free_list.idle q on;
        turn = turn ∙ h.free_list.turn ∙ sym (total_same has_turn s.views id v w at refl);
        single = omega (arith, turn, h.free_list.single);
        home = λ calm. h.free_list.home (sym turn ∙ calm);
        away = each_put (λ u. (list : List ℕ) → u.free ≡ Some list → list ≡ l.free) s.views id w h.free_list.away (h.free_list.away id v at);
        few = each_put (λ u. length u.places.held + length u.places.owed ≤ 4) s.views id w h.free_list.few (h.free_list.few id v at);
        clear = each_put (λ u. (q : ℕ) → 0 < times q u.places.clear → (0 < times q u.places.owed) × (phase_at z new q ≡ 0)) s.views id w still_clear (still_clear id v at);
        owned = each_put (λ u. (q : ℕ) → 0 < times q u.places.owned → (0 < takes q u) × (phase_at z new q ≡ 1)) s.views id w still_owned (still_owned id v at);
        ended = each_put (λ u. (q : ℕ) → 0 < times q u.places.ended → (0 < times q u.places.carried) × (phase_at z new q ≡ 2)) s.views id w
            (λ i u at' q on. let c = still_ended i u at' q on in (c.1, c.2))
            (λ q on. let c = still_ended id v at q on in (omega (arith, c.1, carried_else q c.0), c.2));
      }

  live_phases : ArePhases v.passes.sizes l.log new (set s.views id w)
  live_phases =
      let z : Sizes = v.passes.sizes in
      record {
        shown = λ q i below.
            ⊎_elim
            (λ (e : q ≡ r.place).
            subst (λ (x : ℕ). total (of_both x i) (records_after l.log) ≡ shows (phase_at z new x) i + total (middle_of (of_both x i)) (set s.views id w)) (sym e) (omega (
              arith,
              h.phases.shown r.place i live_below,
              low_shows (phase_at z s.words r.place) i (few_keeps (phase_at z s.words r.place) idle),
              ap (λ (ph : ℕ). shows ph i) here,
              both_shown r i,
              mine (of_both r.place i),
              total_set (middle_of (of_both r.place i)) s.views id v w at,
            )))
            (λ (e : q ≢ r.place). omega (
              arith,
              h.phases.shown q i below,
              ap (λ (ph : ℕ). shows ph i) (phase_else z s.words r.place (3 + r.id) q e),
              mine (of_both q i),
              none_else r q i e,
              total_set (middle_of (of_both q i)) s.views id v w at,
            ))
            (cases_eq q r.place);
        used = λ q below.
            ⊎_elim
            (λ (e : q ≡ r.place).
            subst (λ (x : ℕ). total (of_place x) (records_after l.log) ≡ table_keeps (phase_at z new x) + total (middle_of (of_place x)) (set s.views id w)) (sym e) (omega (
              arith,
              h.phases.used r.place live_below,
              idle,
              ap table_keeps here,
              live_keeps r.id,
              mine (of_place r.place),
              same_bit r.place r.place refl,
              total_set (middle_of (of_place r.place)) s.views id v w at,
            )))
            (λ (e : q ≢ r.place). omega (
              arith,
              h.phases.used q below,
              ap table_keeps (phase_else z s.words r.place (3 + r.id) q e),
              mine (of_place q),
              other_bit r.place q (λ x. e (sym x)),
              total_set (middle_of (of_place q)) s.views id v w at,
            ))
            (cases_eq q r.place);
        middle = each_other (λ u. IsMiddlePhase z new u.commit.middle) s.views id w
            (λ j u other at'.
            middle_on z l.log s.words new u.commit.middle u.commit.hand u.places.carried u.buckets.shut u.expected (h.commits j u at')
            (λ x n low committing weighs phase.
            phase_else z s.words r.place (3 + r.id) x.place (λ same. omega (
              arith,
              h.records.single r.place,
              total_two (has_hand r.place) s.views id j v u at at' other,
              commit.turn,
              committing.turn,
              ap (λ (q : ℕ). is_hand_of q u.commit.hand) same,
            )) ∙ phase)
            (h.phases.middle j u at'))
            tt;
      }

  own_hand : (x : Hand) × (v.commit.hand ≡ Some x) × (x.place ≡ r.place)
  own_hand = hand_there r.place v.commit.hand commit.turn

  same_hand : (q : ℕ) → has_hand q w ≡ has_hand q v
  same_hand q =
      sym (ap (is_hand_of q) own_hand.1 ∙ ap (λ (k : ℕ). bit (k == q)) own_hand.2)

  -- the record of another place
  hand_else : (x : Hand) → x.place ≢ r.place → IsHand v.passes.sizes l.log s.words x → IsHand v.passes.sizes l.log new x
  hand_else x other k =
      let same = phase_else v.passes.sizes s.words r.place (3 + r.id) x.place other in
      record {
        below = k.below;
        shown = λ some_shown. same ∙ k.shown some_shown;
        idle = λ low. omega (arith, k.idle low, same);
        live = k.live;
      }

  live_records : AreRecords v.passes.sizes l.log new s.homes (set s.views id w)
  live_records =
      let z : Sizes = v.passes.sizes in
      record {
        turn = λ q below. phase_turn z s.words r.place (3 + r.id) q ∙ h.records.turn q below ∙ sym (total_same (has_hand q) s.views id v w at (same_hand q));
        single = λ q. omega (arith, h.records.single q, total_same (has_hand q) s.views id v w at (same_hand q));
        home = λ q below calm.
            let free : turn_at z s.words q ≡ 0 = sym (phase_turn z s.words r.place (3 + r.id) q) ∙ calm in
            let other : q ≢ r.place = λ e. omega (
              arith,
              free,
              h.records.turn q below,
              total_term (has_hand q) s.views id v at,
              ap (λ (x : ℕ). is_hand_of x v.commit.hand) e,
              commit.turn,
            ) in
            let k = h.records.home q below free in
            record {
              slot = k.slot;
              there = k.there;
              kind = k.kind;
              live = subst (λ (ph : ℕ). 3 ≤ ph → record_in k.slot ≡ record_of (ph - 3) (state_after l.log)) (sym (phase_else z s.words r.place (3 + r.id) q other)) k.live;
            };
        away = each_other (λ u. (x : Hand) → u.commit.hand ≡ Some x → IsHand z l.log new x) s.views id w
            (λ j u apart at' x e.
            hand_else x (λ same. omega (
              arith,
              h.records.single r.place,
              total_two (has_hand r.place) s.views id j v u at at' apart,
              commit.turn,
              ap (is_hand_of r.place) e,
              same_bit x.place r.place same,
            )) (h.records.away j u at' x e))
            (λ x e. subst (IsHand z l.log new) (one_hand _ x e) (record {
              below = live_below;
              shown = λ shown. here;
              idle = λ low. absurd (omega (arith, low));
              live = λ shown. sym (ap (λ (i : ℕ). record_of i (state_after l.log)) (less r.id) ∙ commit.live);
            }));
      }
    where
      one_hand : (a b : Hand) → Some a ≡ Some b → a ≡ b
      one_hand a b e = cc

      less : (n : ℕ) → 3 + n - 3 ≡ n
      less n = omega arith

  pub live_kept : IsKept v.passes.sizes l (record {
    words = slice_set s.words (phase_word v.passes.sizes r.place) (3 + r.id);
    homes = s.homes;
    views = set s.views id (shown_live r.place r.id r v);
  })
  live_kept =
      let z : Sizes = v.passes.sizes in
      let one : IsPass z l.log v = h.passes.each id v at in
      let m : MakesNone v w = record { passes = refl; own = refl; gathered = refl } in
      let same : SameChains z s.words new = phase_same z s.words r.place (3 + r.id) in
      let expected : slice_index new 2 ≡ slice_index s.words 2 = phase_first z s.words r.place (3 + r.id) 2 (omega arith) in
      record {
        limits = h.limits;
        count = length-set s.words (phase_word z r.place) (3 + r.id) ∙ h.count;
        passes = passes_moved z l.log s.views id v w at m (pass_moved z l.log v w one m has_some one.front one.told) h.passes;
        history = record { legal = h.history.legal; word = phase_first z s.words r.place (3 + r.id) 0 (omega arith) ∙ h.history.word };
        references = live_references;
        free_list = live_free;
        records = live_records;
        phases = live_phases;
        commits = each_put (IsMiddleOf z l.log) s.views id w h.commits tt;
        chains = chains_stay z s.words new same l.log s.views (set s.views id w) l.chains (carries_set (λ (u : View). u.buckets.shut) [] s.views id v w at refl)
            (λ b weight. total_same (loose_of z b weight) s.views id v w at refl)
            (each_put (λ (u : View). (c : ℕ) → c < z.buckets → 0 < loose_of z c each_link u → 0 < shuts_of c u) s.views id w h.chains.home (h.chains.home id v at))
            (λ link any. omega (arith, h.chains.lone link any, total_same (hooks_at link) s.views id v w at refl)) h.chains;
        links =
            let k = hooks_stay z s.words new same.links v.places v.buckets.hooks (h.links.hooks id v at) in
            links_stay z s.words new same s.views (set s.views id w)
            (each_put (λ u. HasHooks z new u.places u.buckets.hooks) s.views id w
            (λ i u at'. hooks_stay z s.words new same.links u.places u.buckets.hooks (h.links.hooks i u at'))
            (record { each = k.each; held = k.held; linked = k.linked; one = k.one })) h.links;
        walks = record {
          each = each_put (λ (u : View). (n : Walk) → u.walk ≡ Some n → IsWalk z new l.chains u.seen.front n) s.views id w
              (λ i u at' n e. walk_stays z s.words new same l.chains u.seen.front n (h.walks.each i u at' n e))
              (λ n e. walk_stays z s.words new same l.chains v.seen.front n (h.walks.each id v at n e));
        };
        readings = stored_on z l.log s.words s.views id (phase_word z r.place) (3 + r.id) v w h.passes at has_some (omega (arith, h.count, live_below))
            (record { reading = stored (phase_word z r.place) (3 + r.id); more = refl; word = refl; value = refl }) h.readings;
        kept_words = words_left z l.log s.words s.views id v w at l.log new (λ i e at'. at') (λ p i o. o) same.links refl h.kept_words;
        expected = record {
          turn = expected ∙ h.expected.turn ∙ sym (total_same has_expected s.views id v w at refl);
          single = omega (arith, expected, h.expected.single);
          home = λ calm. h.expected.home (sym expected ∙ calm);
          away = each_put (λ (u : View). (list : List Expectation) → u.expected ≡ Some list → list ≡ (state_after l.log).expects) s.views id w h.expected.away
              (h.expected.away id v at);
        };
      }

-- the phase of a record that was just confirmed is stored
pub living : (slots id : ℕ) (v : View) (c : List (ℕ × Slot)) (r : Record) → 0 < v.passes.shares → v.commit.middle ≡ Born r
    → Allows (RuleHolds v.passes.sizes) slots id (v, c) (phase_word v.passes.sizes r.place) (λ _. 3 + r.id)
    (λ _. LiveStep (step slots (phase_word v.passes.sizes r.place) (3 + r.id) 0 none) (v, c) (3 + r.id))
living slots id v c r has_some born s (l, h) long at range = (
  shown_live r.place r.id r v,
  unchanged,
  tt,
  (l, live_kept l s id v r h at has_some born),
  λ q i x word number middle.
      let place : r.place ≡ q = one_phase v.passes.sizes r.place q word in
      let number_is : r.id ≡ i = omega (arith, number) in
      let subject : r ≡ x = one_record r x (sym born ∙ middle) in
      (λ k. shown_live (place k) (number_is k) (subject k) v, refl),
)
  where
    one_record : (a b : Record) → Born a ≡ Born b → a ≡ b
    one_record a b e = cc

-- the same, by place and id
pub living_at : (slots id place n : ℕ) (v : View) (c : List (ℕ × Slot)) → 0 < v.passes.shares → IsBorn place n v.commit.middle
    → Allows (RuleHolds v.passes.sizes) slots id (v, c) (phase_word v.passes.sizes place) (λ _. 3 + n)
    (λ _. LiveStep (step slots (phase_word v.passes.sizes place) (3 + n) 0 none) (v, c) (3 + n))
living_at slots id place n v c has_some born = by_middle v.commit.middle refl born
  where
    by_middle : (m : Middle) → v.commit.middle ≡ m → IsBorn place n m
        → Allows (RuleHolds v.passes.sizes) slots id (v, c) (phase_word v.passes.sizes place) (λ _. 3 + n)
        (λ _. LiveStep (step slots (phase_word v.passes.sizes place) (3 + n) 0 none) (v, c) (3 + n))
    by_middle Calm e k = absurd k
    by_middle (Born r) e k =
        subst (λ (q : ℕ). Allows (RuleHolds v.passes.sizes) slots id (v, c) (phase_word v.passes.sizes q) (λ _. 3 + n)
        (λ _. LiveStep (step slots (phase_word v.passes.sizes q) (3 + n) 0 none) (v, c) (3 + n))) k.0
        (subst (λ (i : ℕ). Allows (RuleHolds v.passes.sizes) slots id (v, c) (phase_word v.passes.sizes r.place) (λ _. 3 + i)
        (λ _. LiveStep (step slots (phase_word v.passes.sizes r.place) (3 + i) 0 none) (v, c) (3 + i))) k.1
        (living slots id v c r has_some e))
    by_middle (Dying r) e k = absurd k

-- the same shares, turns and places
pub stays_live : (place n : ℕ) (s : Step Slot) (me me' : Me Slot View) → IsBorn place n me.0.commit.middle → LiveStep s me (3 + n) me'
    → s.word ≡ phase_word me.0.passes.sizes place → has_hand place me.0 ≡ 1 → StaysAt me.0 me'.0 × (me'.1 ≡ me.1)
stays_live place n s me me' born told word turn = by_middle me.0.commit.middle refl born
  where
    by_middle : (m : Middle) → me.0.commit.middle ≡ m → IsBorn place n m → StaysAt me.0 me'.0 × (me'.1 ≡ me.1)
    by_middle Calm e k = absurd k
    by_middle (Born r) e k =
        let t = told place n r word refl e in
        let hand = hand_there place me.0.commit.hand turn in (
          same_at me.0 me'.0 _ t.0 (record {
            passes = refl;
            same = λ i. free_number me.0.free ++ ((λ j. (2 + sym hand.2 j) ∷ []) ∙ sym (ap hand_number hand.1)) i ++ expected_number me.0.expected;
            pool = λ x. record { held = x.held; owed = x.owed };
          }),
          t.1,
        )
    by_middle (Dying r) e k = absurd k
