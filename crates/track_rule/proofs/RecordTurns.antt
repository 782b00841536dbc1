-- The turn of a record: it is taken, and given back.
use Rattle.std.proofs.Common.{◌≡◌, ◌≢◌, ℕ, ◌+◌, ◌-◌, ◌<◌, ◌≤◌, eqb, true, Bool, Option, Some, None, List, ◌∷◌, length, refl, sym, ap, subst, ◌∙◌, ⊎_elim, arith, set, eq-eqb, ne_eqb}
use Rattle.std.specs.Prelude.{slice_index, slice_set, ◌==◌}
use Rattle.std.proofs.lemmas.Bool.{cases_eq, cases_lt, false≢true}
use Rattle.std.proofs.lemmas.List.{get_or-set_other, get_or-set_same}
use Rattle.std.proofs.lemmas.Option.{none-some}
use prog.Atomic.{either}
use mathlib.Core.Option.{Option as Slotted, none, some}
use lib.ListN.{get_elem?}
use Rattle.atomic_table.specs.Table.{Act, Allows, State, Valid, carried_after, gives, keeps as unchanged, step, stepped, takes}
use Rattle.atomic_table.proofs.Lists.{exchanged, set_else, set_here}
use Rattle.expect_table.specs.declared.expectation.Expectation.{Expectation}
use Rattle.history_book.specs.State.{record_of}
use Rattle.history_book.specs.declared.sizes.Sizes.{Sizes}
use Rattle.track_rule.specs.declared.slot.Slot.{Slot}
use Rattle.track_rule.specs.declared.slot.Slot.TheVariants.{Vacant, Free, Expects, Subject}
use Rattle.track_rule.specs.declared.view.Hand.{Hand}
use Rattle.track_rule.specs.declared.view.Middle.{Middle}
use Rattle.track_rule.specs.declared.view.Middle.TheVariants.{Calm}
use Rattle.track_rule.specs.declared.view.Reading.{Reading}
use Rattle.track_rule.specs.declared.view.View.{View}
use Rattle.track_rule.specs.Commits.{IsMiddle, IsMiddleOf}
use Rattle.track_rule.specs.Expected.{has_expected}
use Rattle.track_rule.specs.History.{state_after}
use Rattle.track_rule.specs.Layout.{first_word, gen_word, head_word, next_word, phase_at, phase_word, record_slot, refs_at, refs_word, second_word, turn_at, turn_word}
use Rattle.track_rule.specs.Passes.{IsPass}
use Rattle.track_rule.specs.Readings.{found, noted, stored}
use Rattle.track_rule.specs.Records.{AreRecords, IsHand, IsRecordHome, has_hand, is_hand_of, is_records, record_in, slot_of_record}
use Rattle.track_rule.specs.Rule.{RuleHolds, IsKept, Ledger}
use Rattle.track_rule.specs.Sums.{bit, total}
use Rattle.track_rule.specs.TurnSteps.{CanGiveTurn, GiveTurnStep, TakeTurnStep, TakesTurn, gave_turn, with_hand}
use Rattle.track_rule.proofs.Balance.{Moves, pass_moved, same_lines}
use Rattle.track_rule.proofs.Frames.{SameChains, middle_calm}
use Rattle.track_rule.proofs.Lists.{other_bit, same_bit}
use Rattle.track_rule.proofs.Loads.{others_there, reads}
use Rattle.track_rule.proofs.LastRead.{ReadsAt}
use Rattle.track_rule.proofs.Sums.{each_put, total_same, total_set, total_term}
use Rattle.track_rule.proofs.TurnMoves.{TurnsAlone, turn_moved}

-- two places have two turns
one_turn : (z : Sizes) (p q : ℕ) → turn_word z p ≡ turn_word z q → p ≡ q
one_turn z p q e = omega (arith, e)

-- the turn of one record
module _ (z : Sizes) (ws : List ℕ) (p n : ℕ) where
  turn_else : (q : ℕ) → q ≢ p → turn_at z (slice_set ws (turn_word z p) n) q ≡ turn_at z ws q
  turn_else q other = get_or-set_other ws (turn_word z p) (turn_word z q) n 0 (λ e. other (one_turn z q p e))

  turn_refs : (q : ℕ) → refs_at z (slice_set ws (turn_word z p) n) q ≡ refs_at z ws q
  turn_refs q = get_or-set_other ws (turn_word z p) (refs_word z q) n 0 (λ e. omega (arith, e))

  turn_phase : (q : ℕ) → phase_at z (slice_set ws (turn_word z p) n) q ≡ phase_at z ws q
  turn_phase q = get_or-set_other ws (turn_word z p) (phase_word z q) n 0 (λ e. omega (arith, e))

  turn_first : (k : ℕ) → k < 3 → slice_index (slice_set ws (turn_word z p) n) k ≡ slice_index ws k
  turn_first k low = get_or-set_other ws (turn_word z p) k n 0 (λ e. omega (arith, e, low))

  turn_chains : SameChains z ws (slice_set ws (turn_word z p) n)
  turn_chains = record {
    gens = λ b below. get_or-set_other ws (turn_word z p) (gen_word z b) n 0 (λ e. omega (arith, e, below));
    links = record {
      heads = λ b below. get_or-set_other ws (turn_word z p) (head_word z b) n 0 (λ e. omega (arith, e, below));
      firsts = λ x. get_or-set_other ws (turn_word z p) (first_word z x) n 0 (λ e. omega (arith, e));
      seconds = λ x. get_or-set_other ws (turn_word z p) (second_word z x) n 0 (λ e. omega (arith, e));
      nexts = λ x. get_or-set_other ws (turn_word z p) (next_word z x) n 0 (λ e. omega (arith, e));
    };
  }

  turn_alone : TurnsAlone z ws (slice_set ws (turn_word z p) n)
  turn_alone = record {
    history = turn_first 0 (omega arith);
    free = turn_first 1 (omega arith);
    refs = turn_refs;
    phases = turn_phase;
    chains = turn_chains;
  }

module _ (l : Ledger) (s : State Slot View) (id p : ℕ) (v : View) (h : IsKept v.passes.sizes l s) (at : get_elem? s.views id ≡ some v)
    (has_some : 0 < v.passes.shares) (below : p < v.passes.sizes.entries) where
  low_word : turn_word v.passes.sizes p < length s.words
  low_word = omega (arith, h.count, below)

  -- the turn of the place's record becomes n, and the pass has this one or none; all parts but that of the records stay
  turn_kept : (n : ℕ) (hand : Option Hand) (r : Reading) (hs' : List (Slotted Slot)) → get_elem? hs' 0 ≡ get_elem? s.homes 0 → get_elem? hs' 1 ≡ get_elem? s.homes 1
      → AreRecords v.passes.sizes l.log (slice_set s.words (turn_word v.passes.sizes p) n) hs' (set s.views id (with_hand hand r v))
      → ReadsAt (turn_word v.passes.sizes p) n v (with_hand hand r v)
      → IsMiddleOf v.passes.sizes l.log (with_hand hand r v)
      → IsKept v.passes.sizes l (record { words = slice_set s.words (turn_word v.passes.sizes p) n; homes = hs'; views = set s.views id (with_hand hand r v) })
  turn_kept n hand r hs' first second records read middle =
      let z : Sizes = v.passes.sizes in
      let w : View = with_hand hand r v in
      let expected : slice_index (slice_set s.words (turn_word z p) n) 2 ≡ slice_index s.words 2 = turn_first z s.words p n 2 (omega arith) in
      turn_moved l s id (turn_word z p) n v h at has_some low_word (turn_alone z s.words p n) hand v.expected r hs' first records
      (record {
        turn = expected ∙ h.expected.turn ∙ sym (total_same has_expected s.views id v w at refl);
        single = omega (arith, expected, h.expected.single);
        home = λ calm. let k = h.expected.home (sym expected ∙ calm) in record { table = k.table; there = second ∙ k.there; same = k.same; room = k.room };
        away = each_put (λ (u : View). (list : List Expectation) → u.expected ≡ Some list → list ≡ (state_after l.log).expects) s.views id w h.expected.away
            (h.expected.away id v at);
      }) read middle

  -- what passes know of phases stays
  hand_left : (n : ℕ) (x : Hand) → IsHand v.passes.sizes l.log s.words x → IsHand v.passes.sizes l.log (slice_set s.words (turn_word v.passes.sizes p) n) x
  hand_left n x k = record {
    below = k.below;
    shown = λ some_shown. turn_phase v.passes.sizes s.words p n x.place ∙ k.shown some_shown;
    idle = λ low. omega (arith, k.idle low, turn_phase v.passes.sizes s.words p n x.place);
    live = k.live;
  }

  -- the record of another place
  home_else : (n : ℕ) (o : Slotted Slot) (q : ℕ) → q ≢ p → IsRecordHome l.log s.homes q (phase_at v.passes.sizes s.words q)
      → IsRecordHome l.log (slice_set s.homes (record_slot p) o) q (phase_at v.passes.sizes (slice_set s.words (turn_word v.passes.sizes p) n) q)
  home_else n o q other k =
      subst (IsRecordHome l.log (slice_set s.homes (record_slot p) o) q) (sym (turn_phase v.passes.sizes s.words p n q)) (record {
        slot = k.slot;
        there = set_else s.homes (record_slot p) (record_slot q) o (λ e. other (omega (arith, e))) ∙ k.there;
        kind = k.kind;
        live = k.live;
      })

  module _ (none_held : v.commit.hand ≡ None) (free : turn_at v.passes.sizes s.words p ≡ 0) where
    nobody : total (has_hand p) s.views ≡ 0
    nobody = sym (h.records.turn p below) ∙ free

    taken_records : (r : Reading) (hand : Hand) → hand ≡ record { place = p; phase = phase_at v.passes.sizes s.words p; subject = record_in (h.records.home p below free).slot }
        → AreRecords v.passes.sizes l.log (slice_set s.words (turn_word v.passes.sizes p) 1) (slice_set s.homes (record_slot p) none)
        (set s.views id (with_hand (Some hand) r v))
    taken_records r hand is =
        let z : Sizes = v.passes.sizes in
        let w : View = with_hand (Some hand) r v in
        let new : List ℕ = slice_set s.words (turn_word v.passes.sizes p) 1 in
        let mine : (q : ℕ) → has_hand q v ≡ 0 = λ q. ap (is_hand_of q) none_held in
        let now : (q : ℕ) → has_hand q w ≡ bit (p == q) = λ q k. is_hand_of q (Some (is k)) in
        record {
          turn = λ q under.
              ⊎_elim
              (λ (e : p ≡ q).
              subst (λ (x : ℕ). turn_at z new x ≡ total (has_hand x) (set s.views id w)) e (omega (
                arith,
                get_or-set_same s.words (turn_word z p) 1 0 low_word,
                total_set (has_hand p) s.views id v w at,
                nobody,
                mine p,
                now p,
                same_bit p p refl,
              )))
              (λ (e : p ≢ q). omega (
                arith,
                turn_else z s.words p 1 q (λ t. e (sym t)),
                h.records.turn q under,
                total_set (has_hand q) s.views id v w at,
                mine q,
                now q,
                other_bit p q e,
              )) (cases_eq p q);
          single = λ q.
              ⊎_elim
              (λ (e : p ≡ q).
              subst (λ (x : ℕ). total (has_hand x) (set s.views id w) ≤ 1) e
              (omega (arith, total_set (has_hand p) s.views id v w at, nobody, mine p, now p, same_bit p p refl)))
              (λ (e : p ≢ q). omega (arith, total_set (has_hand q) s.views id v w at, h.records.single q, mine q, now q, other_bit p q e)) (cases_eq p q);
          home = λ q under calm.
              ⊎_elim
              (λ (e : p ≡ q). absurd (omega (arith, calm, ap (turn_at z new) (sym e), get_or-set_same s.words (turn_word z p) 1 0 low_word)))
              (λ (e : p ≢ q).
              home_else 1 none q (λ t. e (sym t)) (h.records.home q under (sym (turn_else z s.words p 1 q (λ t. e (sym t))) ∙ calm))) (cases_eq p q);
          away = each_put (λ u. (x : Hand) → u.commit.hand ≡ Some x → IsHand z l.log new x) s.views id w (λ i u at' x e. hand_left 1 x (h.records.away i u at' x e))
              (λ x e. subst (IsHand z l.log new) (one_hand hand x e) (subst (IsHand z l.log new) (sym is) (record {
                below = below;
                shown = λ shown. turn_phase z s.words p 1 p;
                idle = λ low. omega (arith, low, turn_phase z s.words p 1 p);
                live = (h.records.home p below free).live;
              })));
        }
      where
        one_hand : (a b : Hand) → Some a ≡ Some b → a ≡ b
        one_hand a b e = cc

-- a slot of records is that of its record
own_slot : (x : Slot) → is_records x ≡ true → x ≡ slot_of_record (record_in x)
own_slot Vacant e = refl
own_slot (Free list) e = absurd (false≢true e)
own_slot (Expects table) e = absurd (false≢true e)
own_slot (Subject r) e = refl

-- taking the turn keeps the rule
pub taking_turn : (slots id p : ℕ) (v : View) (c : List (ℕ × Slot)) → p < v.passes.sizes.entries → 0 < v.passes.shares → v.commit.hand ≡ None
    → Allows (RuleHolds v.passes.sizes) slots id (v, c) (turn_word v.passes.sizes p) (λ n. either (eqb n 0) 1 n)
    (TakeTurnStep (step slots (turn_word v.passes.sizes p) 0 1 none) (v, c))
taking_turn slots id p v c below has_some calm s (l, h) sized at range =
    exchanged (slice_index s.words (turn_word v.passes.sizes p)) 0 1
    (λ (n : ℕ). (w : View) × (a : Act Slot) × Valid s.homes c a × RuleHolds v.passes.sizes (stepped s (turn_word v.passes.sizes p) n id c w a)
    × TakeTurnStep (step slots (turn_word v.passes.sizes p) 0 1 none) (v, c) (slice_index s.words (turn_word v.passes.sizes p)) (w, carried_after c a))
    (λ (hit : slice_index s.words (turn_word v.passes.sizes p) ≡ 0).
    let z : Sizes = v.passes.sizes in
    let home = h.records.home p below hit in
    let x : Slot = home.slot in
    let hand : Hand = record { place = p; phase = phase_at z s.words p; subject = record_in x } in
    let w : View = with_hand (Some hand) (stored (turn_word z p) 1) v in (
      w,
      takes (record_slot p) x,
      home.there,
      (
        l,
        turn_kept l s id p v h at has_some below 1 (Some hand) (stored (turn_word z p) 1) (slice_set s.homes (record_slot p) none)
            (set_else s.homes (record_slot p) 0 none (λ e. omega (arith, e))) (set_else s.homes (record_slot p) 1 none (λ e. omega (arith, e)))
            (taken_records l s id p v h at has_some below calm hit (stored (turn_word z p) 1) hand refl)
            (record { reading = stored (turn_word z p) 1; more = refl; word = refl; value = refl })
            (subst (λ (m : Middle). IsMiddle z l.log m (Some hand) v.places.carried v.buckets.shut v.expected)
            (sym (middle_calm z l.log v.commit.middle v.places.carried v.buckets.shut v.expected v.commit.hand calm (h.commits id v at))) tt),
      ),
      λ q same. subst (λ (k : ℕ). TakesTurn (slice_index s.words (turn_word z p) == 0) k v c w ((record_slot p, x) ∷ c)) (one_turn z p q same)
          (subst (λ (b : Bool). TakesTurn b p v c w ((record_slot p, x) ∷ c)) (sym (eq-eqb (slice_index s.words (turn_word z p)) 0 hit)) (record {
            phase = phase_at z s.words p;
            view = refl;
            out = ap (λ (y : Slot). (record_slot p, y) ∷ c) (own_slot x home.kind);
            sole = λ one. sym (h.readings one id v at has_some (turn_word z p)) ∙ hit;
          })),
    ))
    (λ (miss : slice_index s.words (turn_word v.passes.sizes p) ≢ 0).
    let z : Sizes = v.passes.sizes in
    let w : View = noted (found (turn_word z p) 1) v in
    let one : IsPass z l.log v = h.passes.each id v at in
    let m : Moves v w = record { made = record { passes = refl; own = refl; gathered = refl }; commit = refl; expected = refl } in (
      w,
      unchanged,
      tt,
      (
        l,
        reads z l s id (turn_word z p) v w h at m (pass_moved z l.log v w one m.made has_some one.front one.told) refl refl
            (same_lines z l s id v w h at refl (λ q. omega arith) (λ q. omega arith) refl refl) has_some
            (record {
              reading = found (turn_word z p) 1;
              more = refl;
              word = refl;
              value = omega (arith, miss, h.records.turn p below, h.records.single p);
            }),
      ),
      λ q same. subst (λ (k : ℕ). TakesTurn (slice_index s.words (turn_word z p) == 0) k v c w c) (one_turn z p q same)
          (subst (λ (b : Bool). TakesTurn b p v c w c) (sym (ne_eqb (slice_index s.words (turn_word z p)) 0 miss)) (record {
            view = refl;
            out = refl;
            others = others_there l s id v h at has_some (has_hand p) (λ u k. ap (is_hand_of p) k.hand)
                (omega (arith, miss, ap (is_hand_of p) calm, h.records.turn p below));
          })),
    ))

-- a pass that has the turn has it of this place
pub hand_there : (p : ℕ) (o : Option Hand) → is_hand_of p o ≡ 1 → (x : Hand) × (o ≡ Some x) × (x.place ≡ p)
hand_there p None e = absurd (omega (arith, e))
hand_there p (Some x) e =
    (x, refl, ⊎_elim (λ (t : x.place ≡ p). t) (λ (t : x.place ≢ p). absurd (omega (arith, e, other_bit x.place p t))) (cases_eq x.place p))

-- giving it back keeps the rule
pub giving_turn : (slots id p : ℕ) (v : View) (x : Slot) (c : List (ℕ × Slot)) → p < v.passes.sizes.entries → 2 + v.passes.sizes.entries ≤ slots → 0 < v.passes.shares
    → has_hand p v ≡ 1 → v.commit.middle ≡ Calm → is_records x ≡ true → CanGiveTurn v ((record_slot p, x) ∷ c)
    → Allows (RuleHolds v.passes.sizes) slots id (v, (record_slot p, x) ∷ c) (turn_word v.passes.sizes p) (λ _. 0)
    (λ _. GiveTurnStep (step slots (turn_word v.passes.sizes p) 0 0 none) (v, (record_slot p, x) ∷ c) 0)
giving_turn slots id p v x c below some_slots has_some mine calm kind can s (l, h) sized at range =
    let z : Sizes = v.passes.sizes in (
      gave_turn p v,
      gives,
      tt,
      (
        l,
        turn_kept l s id p v h at has_some below 0 None (stored (turn_word z p) 0) (slice_set s.homes (record_slot p) (some x))
            (set_else s.homes (record_slot p) 0 (some x) (λ e. omega (arith, e))) (set_else s.homes (record_slot p) 1 (some x) (λ e. omega (arith, e)))
            given_records (record { reading = stored (turn_word z p) 0; more = refl; word = refl; value = refl })
            (subst (λ (m : Middle). IsMiddle z l.log m None v.places.carried v.buckets.shut v.expected) (sym calm) tt),
      ),
      λ q same. subst (λ (k : ℕ). (gave_turn p v ≡ gave_turn k v) × (c ≡ c)) (one_turn z p q same) (refl, refl),
    )
  where
    hand : (x : Hand) × (v.commit.hand ≡ Some x) × (x.place ≡ p)
    hand = hand_there p v.commit.hand mine

    last : total (has_hand p) s.views ≡ 1
    last = omega (arith, h.records.single p, total_term (has_hand p) s.views id v at, mine)

    only : (q : ℕ) → p ≢ q → has_hand q v ≡ 0
    only q other =
        ap (is_hand_of q) hand.1 ∙ other_bit hand.0.place q (λ e. other (sym hand.2 ∙ e))

    its_home : IsRecordHome l.log (slice_set s.homes (record_slot p) (some x)) p (phase_at v.passes.sizes (slice_set s.words (turn_word v.passes.sizes p) 0) p)
    its_home =
        let k = h.records.away id v at hand.0 hand.1 in
        let here : phase_at v.passes.sizes s.words hand.0.place ≡ phase_at v.passes.sizes s.words p = ap (phase_at v.passes.sizes s.words) hand.2 in
        subst (IsRecordHome l.log (slice_set s.homes (record_slot p) (some x)) p) (sym (turn_phase v.passes.sizes s.words p 0 p)) (record {
          slot = x;
          there = set_here s.homes (record_slot p) (some x) (omega (arith, some_slots, sized, below));
          kind = kind;
          live = λ shown.
              ⊎_elim
              (λ (e : 2 < hand.0.phase).
              can hand.0 hand.1 e ∙ k.live e ∙ ap (λ (ph : ℕ). record_of (ph - 3) (state_after l.log)) (sym (k.shown e) ∙ here))
              (λ (e : hand.0.phase ≤ 2). absurd (omega (arith, shown, here, k.idle e))) (cases_lt 2 hand.0.phase);
        })

    given_records : AreRecords v.passes.sizes l.log (slice_set s.words (turn_word v.passes.sizes p) 0) (slice_set s.homes (record_slot p) (some x))
        (set s.views id (gave_turn p v))
    given_records =
        let z : Sizes = v.passes.sizes in
        let w : View = gave_turn p v in
        let new : List ℕ = slice_set s.words (turn_word v.passes.sizes p) 0 in
        record {
          turn = λ q under.
              ⊎_elim
              (λ (e : p ≡ q).
              subst (λ (k : ℕ). turn_at z new k ≡ total (has_hand k) (set s.views id w)) e
              (omega (arith, get_or-set_same s.words (turn_word z p) 0 0 (low_word l s id p v h at has_some below), total_set (has_hand p) s.views id v w at, last, mine)))
              (λ (e : p ≢ q). omega (
                arith,
                turn_else z s.words p 0 q (λ t. e (sym t)),
                h.records.turn q under,
                total_set (has_hand q) s.views id v w at,
                only q e,
              )) (cases_eq p q);
          single = λ q. omega (arith, total_set (has_hand q) s.views id v w at, h.records.single q);
          home = λ q under calm.
              ⊎_elim
              (λ (e : p ≡ q).
              subst (λ (k : ℕ). IsRecordHome l.log (slice_set s.homes (record_slot p) (some x)) k (phase_at z new k)) e its_home)
              (λ (e : p ≢ q).
              home_else l s id p v h at has_some below 0 (some x) q (λ t. e (sym t))
              (h.records.home q under (sym (turn_else z s.words p 0 q (λ t. e (sym t))) ∙ calm))) (cases_eq p q);
          away = each_put (λ u. (k : Hand) → u.commit.hand ≡ Some k → IsHand z l.log new k) s.views id w
              (λ i u at' k e. hand_left l s id p v h at has_some below 0 k (h.records.away i u at' k e)) (λ k e. absurd (none-some k e));
        }
