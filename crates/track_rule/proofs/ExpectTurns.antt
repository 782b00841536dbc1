-- The turn of the expectations: it is taken, and given back.
use Rattle.std.proofs.Common.{◌≡◌, ◌≢◌, ℕ, ◌<◌, eqb, Bool, Option, Some, None, List, [], ◌∷◌, ◌++◌, length, refl, sym, ap, subst, ◌∙◌, arith, set, eq-eqb, ne_eqb}
use Rattle.std.specs.Prelude.{slice_index, slice_set, unwrap_or, MatchBool}
use Rattle.std.proofs.lemmas.List.{get_or-set_other, get_or-set_same}
use Rattle.std.proofs.lemmas.Option.{none-some}
use prog.Atomic.{either}
use mathlib.Core.Option.{Option as Slotted, none, some}
use lib.ListN.{get_elem?}
use Rattle.atomic_table.specs.Table.{Act, Allows, State, Valid, carried_after, gives, keeps as unchanged, step, stepped, takes, turned}
use Rattle.atomic_table.proofs.Lists.{exchanged, set_else, set_here}
use Rattle.expect_table.specs.declared.expectation.Expectation.{Expectation}
use Rattle.room_list.specs.Roomed.{Roomed}
use Rattle.history_book.specs.declared.sizes.Sizes.{Sizes}
use Rattle.track_rule.specs.declared.slot.Slot.{Slot}
use Rattle.track_rule.specs.declared.slot.Slot.TheVariants.{Expects}
use Rattle.track_rule.specs.declared.view.Commit.{Commit}
use Rattle.track_rule.specs.declared.view.Hand.{Hand}
use Rattle.track_rule.specs.declared.view.Middle.{Middle}
use Rattle.track_rule.specs.declared.view.Middle.TheVariants.{Calm, Born, Dying}
use Rattle.track_rule.specs.declared.view.Shut.{Shut}
use Rattle.track_rule.specs.declared.view.View.{View}
use Rattle.track_rule.specs.Commits.{IsMiddle}
use Rattle.track_rule.specs.Expected.{expected_turn, has_expected}
use Rattle.track_rule.specs.ExpectTurns.{CanGiveExpected, GiveExpectsStep, MissedExpected, TakeExpectsStep, TookExpected, before_expects, expects_at, gave_expected, no_table, table_in, with_expected}
use Rattle.track_rule.specs.History.{state_after}
use Rattle.track_rule.specs.Layout.{first_word, gen_word, head_word, next_word, phase_at, phase_word, record_slot, refs_word, second_word, turn_at, turn_word}
use Rattle.track_rule.specs.Passes.{IsPass}
use Rattle.track_rule.specs.Readings.{found, noted, stored}
use Rattle.track_rule.specs.Records.{AreRecords, IsHand, IsRecordHome, has_hand, is_hand_of}
use Rattle.track_rule.specs.Rule.{RuleHolds, IsKept, Ledger}
use Rattle.track_rule.specs.Slots.{expects_in, slot_of_expects}
use Rattle.track_rule.specs.TurnSteps.{subject_in}
use Rattle.track_rule.specs.Sums.{total}
use Rattle.track_rule.proofs.Balance.{Moves, pass_moved, same_lines}
use Rattle.track_rule.proofs.Frames.{SameChains}
use Rattle.track_rule.proofs.Loads.{others_there, reads}
use Rattle.track_rule.proofs.Sums.{each_put, total_same, total_set, total_term}
use Rattle.track_rule.proofs.TurnMoves.{TurnsAlone, turn_moved}

-- the turn's word is no other one
module _ (z : Sizes) (ws : List ℕ) (n : ℕ) where
  expect_turns : (p : ℕ) → turn_at z (slice_set ws 2 n) p ≡ turn_at z ws p
  expect_turns p = get_or-set_other ws 2 (turn_word z p) n 0 (λ e. omega (arith, e))

  expect_phases : (p : ℕ) → phase_at z (slice_set ws 2 n) p ≡ phase_at z ws p
  expect_phases p = get_or-set_other ws 2 (phase_word z p) n 0 (λ e. omega (arith, e))

  expect_chains : SameChains z ws (slice_set ws 2 n)
  expect_chains = record {
    gens = λ b below. get_or-set_other ws 2 (gen_word z b) n 0 (λ e. omega (arith, e));
    links = record {
      heads = λ b below. get_or-set_other ws 2 (head_word z b) n 0 (λ e. omega (arith, e));
      firsts = λ x. get_or-set_other ws 2 (first_word z x) n 0 (λ e. omega (arith, e));
      seconds = λ x. get_or-set_other ws 2 (second_word z x) n 0 (λ e. omega (arith, e));
      nexts = λ x. get_or-set_other ws 2 (next_word z x) n 0 (λ e. omega (arith, e));
    };
  }

  expect_alone : TurnsAlone z ws (slice_set ws 2 n)
  expect_alone = record {
    history = get_or-set_other ws 2 0 n 0 (λ e. omega (arith, e));
    free = get_or-set_other ws 2 1 n 0 (λ e. omega (arith, e));
    refs = λ p. get_or-set_other ws 2 (refs_word z p) n 0 (λ e. omega (arith, e));
    phases = expect_phases;
    chains = expect_chains;
  }

-- the middle of a commit asks for no less of the expectations where the pass has their turn
middle_expects : (z : Sizes) (l : Ledger) (m : Middle) (hand : Option Hand) (carried : List ℕ) (shut : List Shut) (expected : Option (List Expectation)) (list : List Expectation)
    → IsMiddle z l.log m hand carried shut expected → IsMiddle z l.log m hand carried shut (Some list)
middle_expects z l Calm hand carried shut expected list h = tt
middle_expects z l (Born r) hand carried shut expected list h = h
middle_expects z l (Dying r) hand carried shut expected list h = (h.0, λ helped. refl)

-- one slot more, behind the others
pub last_expects : (c : List (ℕ × Slot)) (k : ℕ) (x : Slot) → expects_at (c ++ (k, x) ∷ []) ≡ expects_in x
last_expects [] k x = refl
last_expects (s ∷ []) k x = refl
last_expects (s ∷ t ∷ c) k x = last_expects (t ∷ c) k x

pub last_others : (c : List (ℕ × Slot)) (s : ℕ × Slot) → before_expects (c ++ s ∷ []) ≡ c
last_others [] s = refl
last_others (t ∷ []) s = refl
last_others (t ∷ u ∷ c) s = λ k. t ∷ last_others (u ∷ c) s k

pub last_subject : (c : List (ℕ × Slot)) (o : Option (Roomed Expectation)) → subject_in (c ++ (1, slot_of_expects o) ∷ []) ≡ subject_in c
last_subject [] None = refl
last_subject [] (Some table) = refl
last_subject (s ∷ c) o = refl

module _ (l : Ledger) (s : State Slot View) (id : ℕ) (v : View) (h : IsKept v.passes.sizes l s) (at : get_elem? s.views id ≡ some v)
    (has_some : 0 < v.passes.shares) where
  long : 2 < length s.words
  long = omega (arith, h.count)

  -- the records are as they were, and so is what passes know of them
  records_left : (n : ℕ) (o : Slotted Slot) (w : View) → w.commit ≡ v.commit
      → AreRecords v.passes.sizes l.log (slice_set s.words 2 n) (slice_set s.homes 1 o) (set s.views id w)
  records_left n o w same =
      let z : Sizes = v.passes.sizes in
      let phases = expect_phases z s.words n in
      let hands : (p : ℕ) → total (has_hand p) (set s.views id w) ≡ total (has_hand p) s.views = λ p.
      total_same (has_hand p) s.views id v w at (ap (λ (c : Commit). is_hand_of p c.hand) same) in
      let left : (x : Hand) → IsHand z l.log s.words x → IsHand z l.log (slice_set s.words 2 n) x = λ x k. record {
        below = k.below;
        shown = λ live. phases x.place ∙ k.shown live;
        idle = λ low. omega (arith, k.idle low, phases x.place);
        live = k.live;
      } in
      record {
        turn = λ p below. expect_turns z s.words n p ∙ h.records.turn p below ∙ sym (hands p);
        single = λ p. omega (arith, h.records.single p, hands p);
        home = λ p below calm.
            let k = h.records.home p below (sym (expect_turns z s.words n p) ∙ calm) in
            subst (IsRecordHome l.log (slice_set s.homes 1 o) p) (sym (phases p)) (record {
              slot = k.slot;
              there = set_else s.homes 1 (record_slot p) o (λ e. omega (arith, e)) ∙ k.there;
              kind = k.kind;
              live = k.live;
            });
        away = each_put (λ u. (x : Hand) → u.commit.hand ≡ Some x → IsHand z l.log (slice_set s.words 2 n) x) s.views id w
            (λ i u at' x e. left x (h.records.away i u at' x e))
            (λ x e. left x (h.records.away id v at x (sym (ap (λ (c : Commit). c.hand) same) ∙ e)));
      }

  -- taking it where it is free
  took : (table : Roomed Expectation) → table.items ≡ (state_after l.log).expects → v.expected ≡ None → slice_index s.words 2 ≡ 0
      → IsKept v.passes.sizes l (record { words = slice_set s.words 2 1; homes = slice_set s.homes 1 none; views = set s.views id (with_expected table.items v) })
  took table same calm free =
      let z : Sizes = v.passes.sizes in
      let w : View = with_expected table.items v in
      let now : slice_index (slice_set s.words 2 1) 2 ≡ 1 = get_or-set_same s.words 2 1 0 long in
      turn_moved l s id 2 1 v h at has_some long (expect_alone z s.words 1) v.commit.hand (Some table.items) (stored 2 1) (slice_set s.homes 1 none)
      (set_else s.homes 1 0 none (λ e. omega (arith, e))) (records_left 1 none w refl)
      (record {
        turn = omega (arith, now, free, h.expected.turn, total_set has_expected s.views id v w at, ap expected_turn calm);
        single = omega (arith, now);
        home = λ none_has. absurd (omega (arith, none_has, now));
        away = each_put (λ (u : View). (list : List Expectation) → u.expected ≡ Some list → list ≡ (state_after l.log).expects) s.views id w h.expected.away
            (λ list e. known table.items list e same);
      }) (record { reading = stored 2 1; more = refl; word = refl; value = refl })
      (middle_expects z l v.commit.middle v.commit.hand v.places.carried v.buckets.shut v.expected table.items (h.commits id v at))
    where
      known : (a b : List Expectation) → Some a ≡ Some b → a ≡ (state_after l.log).expects → b ≡ (state_after l.log).expects
      known a b e x = cc

  -- what it tells
  told : (c : List (ℕ × Slot)) (table : Roomed Expectation) → table.room ≡ v.passes.sizes.expectations → slice_index s.words 2 ≡ 0
      → TookExpected v c (with_expected table.items v) (c ++ (1, Expects table) ∷ [])
  told c table room free =
      let last : expects_at (c ++ (1, Expects table) ∷ []) ≡ Some table = last_expects c 1 (Expects table) in
      let there : table_in (c ++ (1, Expects table) ∷ []) ≡ table = ap (λ (o : Option (Roomed Expectation)). unwrap_or o no_table) last in
      record {
        view = ap (λ (t : Roomed Expectation). with_expected t.items v) (sym there);
        out = ap (λ (t : Roomed Expectation). c ++ (1, Expects t) ∷ []) (sym there);
        there = last ∙ ap (λ (t : Roomed Expectation). Some t) (sym there);
        others = last_others c (1, Expects table);
        subject = last_subject c (Some table);
        room = ap (λ (t : Roomed Expectation). t.room) there ∙ room;
        sole = λ one. sym (h.readings one id v at has_some 2) ∙ free;
      }

  -- where another pass has it nothing changes
  missed : slice_index s.words 2 ≢ 0
      → IsKept v.passes.sizes l (record { words = slice_set s.words 2 (slice_index s.words 2); homes = s.homes; views = set s.views id (noted (found 2 1) v) })
  missed other =
      let z : Sizes = v.passes.sizes in
      let w : View = noted (found 2 1) v in
      let p : IsPass z l.log v = h.passes.each id v at in
      let m : Moves v w = record { made = record { passes = refl; own = refl; gathered = refl }; commit = refl; expected = refl } in
      reads z l s id 2 v w h at m (pass_moved z l.log v w p m.made has_some p.front p.told) refl refl
      (same_lines z l s id v w h at refl (λ q. omega arith) (λ q. omega arith) refl refl) has_some
      (record { reading = found 2 1; more = refl; word = refl; value = omega (arith, other, h.expected.single) })

  -- giving it back with this table
  gave : (table : Roomed Expectation) → CanGiveExpected v table → v.commit.middle ≡ Calm → 1 < length s.homes
      → IsKept v.passes.sizes l (record { words = slice_set s.words 2 0; homes = slice_set s.homes 1 (some (Expects table)); views = set s.views id (gave_expected v) })
  gave table can calm homes =
      let z : Sizes = v.passes.sizes in
      let w : View = gave_expected v in
      let now : slice_index (slice_set s.words 2 0) 2 ≡ 0 = get_or-set_same s.words 2 0 0 long in
      let mine : has_expected v ≡ 1 = ap expected_turn can.items in
      turn_moved l s id 2 0 v h at has_some long (expect_alone z s.words 0) v.commit.hand None (stored 2 0) (slice_set s.homes 1 (some (Expects table)))
      (set_else s.homes 1 0 (some (Expects table)) (λ e. omega (arith, e))) (records_left 0 (some (Expects table)) w refl)
      (record {
        turn = omega (
          arith,
          now,
          mine,
          h.expected.turn,
          h.expected.single,
          total_set has_expected s.views id v w at,
          total_term has_expected s.views id v at,
        );
        single = omega (arith, now);
        home = λ none_has. record {
          table = table;
          there = set_here s.homes 1 (some (Expects table)) homes;
          same = h.expected.away id v at table.items can.items;
          room = can.room;
        };
        away = each_put (λ (u : View). (list : List Expectation) → u.expected ≡ Some list → list ≡ (state_after l.log).expects) s.views id w h.expected.away
            (λ list e. absurd (none-some list e));
      }) (record { reading = stored 2 0; more = refl; word = refl; value = refl })
      (subst (λ (m : Middle). IsMiddle z l.log m v.commit.hand v.places.carried v.buckets.shut None) (sym calm) tt)

-- taking the turn keeps the rule
pub taking_expected : (slots id : ℕ) (v : View) (c : List (ℕ × Slot)) → 0 < v.passes.shares → v.expected ≡ None
    → Allows (RuleHolds v.passes.sizes) slots id (v, c) 2 (λ n. either (eqb n 0) 1 n) (TakeExpectsStep (step slots 2 0 1 none) (v, c))
taking_expected slots id v c has_some calm s (l, h) sized at range =
    exchanged (slice_index s.words 2) 0 1
    (λ (n : ℕ). (w : View) × (a : Act Slot) × Valid s.homes c a × RuleHolds v.passes.sizes (stepped s 2 n id c w a)
    × TakeExpectsStep (step slots 2 0 1 none) (v, c) (slice_index s.words 2) (w, carried_after c a))
    (λ (hit : slice_index s.words 2 ≡ 0).
    let home = h.expected.home hit in
    let table : Roomed Expectation = home.table in
    let w : View = with_expected table.items v in (
      w,
      takes 1 (Expects table),
      home.there,
      (l, took l s id v h at has_some table home.same calm hit),
      subst (λ (b : Bool). MatchBool b (TookExpected v c w (c ++ (1, Expects table) ∷ [])) (MissedExpected v c w ((1, Expects table) ∷ c)))
          (sym (eq-eqb (slice_index s.words 2) 0 hit)) (told l s id v h at has_some c table home.room hit),
    ))
    (λ (miss : slice_index s.words 2 ≢ 0).
    let w : View = noted (found 2 1) v in (
      w,
      unchanged,
      tt,
      (l, missed l s id v h at has_some miss),
      subst (λ (b : Bool). MatchBool b (TookExpected v c w (turned c)) (MissedExpected v c w c)) (sym (ne_eqb (slice_index s.words 2) 0 miss)) (record {
        view = refl;
        out = refl;
        others = others_there l s id v h at has_some has_expected (λ u k. ap expected_turn k.expected)
            (omega (arith, miss, ap expected_turn calm, h.expected.turn));
      }),
    ))

-- giving it back keeps the rule
pub giving_expected : (slots id : ℕ) (v : View) (table : Roomed Expectation) (c : List (ℕ × Slot)) → 1 < slots → 0 < v.passes.shares
    → v.commit.middle ≡ Calm → CanGiveExpected v table
    → Allows (RuleHolds v.passes.sizes) slots id (v, (1, Expects table) ∷ c) 2 (λ _. 0)
    (λ _. GiveExpectsStep (step slots 2 0 0 none) (v, (1, Expects table) ∷ c) 0)
giving_expected slots id v table c some_slots has_some calm can s (l, h) sized at range = (
  gave_expected v,
  gives,
  tt,
  (l, gave l s id v h at has_some table can calm (omega (arith, some_slots, sized))),
  (refl, refl),
)
