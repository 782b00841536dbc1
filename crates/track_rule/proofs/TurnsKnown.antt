-- What a pass that has the turn of a place's record knows: where the phase shows no id, no live record has the place; and where it does
-- not show the id of an entry for which the pass holds the place, that is live no more.
use Rattle.std.proofs.Common.{◌≡◌, ◌≢◌, ℕ, ◌+◌, ◌<◌, ◌≤◌, true, Option, Some, None, List, refl, sym, ap, subst, ◌∙◌, ⊎_elim, arith}
use Rattle.std.proofs.lemmas.Bool.{cases_lt}
use mathlib.Core.Option.{some}
use lib.ListN.{get_elem?}
use Rattle.atomic_table.specs.Table.{State}
use Rattle.expect_table.specs.declared.expectation.Expectation.{Expectation}
use Rattle.history_book.specs.Laws.{LiveRecordsAreConfirmed}
use Rattle.history_book.specs.Record.{has_id}
use Rattle.history_book.specs.State.{record_of}
use Rattle.history_book.specs.declared.record.Record.{Record}
use Rattle.history_book.specs.declared.sizes.Sizes.{Sizes}
use Rattle.track_rule.specs.declared.slot.Slot.{Slot}
use Rattle.track_rule.specs.declared.view.Hand.{Hand}
use Rattle.track_rule.specs.declared.view.Middle.{Middle}
use Rattle.track_rule.specs.declared.view.Middle.TheVariants.{Calm, Born, Dying}
use Rattle.track_rule.specs.declared.view.Shut.{Shut}
use Rattle.track_rule.specs.declared.view.View.{View}
use Rattle.track_rule.specs.Commits.{IsCommitting, IsMiddle}
use Rattle.track_rule.specs.History.{records_after, state_after}
use Rattle.track_rule.specs.KeptWords.{is_kept_for}
use Rattle.track_rule.specs.Layout.{phase_at}
use Rattle.track_rule.specs.Phases.{middle_of, middle_weight, of_both, of_place}
use Rattle.track_rule.specs.Records.{IsHand, has_hand, is_hand_of}
use Rattle.track_rule.specs.Rule.{IsKept, Ledger}
use Rattle.track_rule.specs.Sums.{total}
use Rattle.track_rule.proofs.Lists.{find_there, other_bit, same_bit}
use Rattle.track_rule.proofs.LivePlaces.{found_confirmed, idle_keeps, none_else, one_place, own_both}
use Rattle.track_rule.proofs.Sums.{total_only, total_term}

module _ (z : Sizes) (l : Ledger) (s : State Slot View) (id : ℕ) (v : View) (h : IsKept z l s) (at : get_elem? s.views id ≡ some v)
    (x : Hand) (turn : v.commit.hand ≡ Some x) where
  -- no other pass has the turn
  its_turn : total (has_hand x.place) s.views ≡ has_hand x.place v
  its_turn = omega (
    arith,
    ap (is_hand_of x.place) turn,
    same_bit x.place x.place refl,
    h.records.single x.place,
    total_term (has_hand x.place) s.views id v at,
  )

  -- one that has it not is in the middle of no commit there
  place_else : (r : Record) (hand : Option Hand) (carried : List ℕ) (shut : List Shut) → IsCommitting z l.log hand carried shut r
      → is_hand_of x.place hand ≡ 0 → r.place ≢ x.place
  place_else r hand carried shut k none here = omega (arith, none, subst (λ (p : ℕ). is_hand_of p hand ≡ 1) here k.turn)

  -- so where the pass itself is in the middle of none, nobody is
  module _ (g : Record → ℕ) (zero : (r : Record) → r.place ≢ x.place → g r ≡ 0) where
    middle_else : (m : Middle) (hand : Option Hand) (carried : List ℕ) (shut : List Shut) (expected : Option (List Expectation))
        → IsMiddle z l.log m hand carried shut expected → is_hand_of x.place hand ≡ 0
        → middle_weight g m ≡ 0
    middle_else Calm hand carried shut expected k none = refl
    middle_else (Born r) hand carried shut expected k none = zero r (place_else r hand carried shut k none)
    middle_else (Dying r) hand carried shut expected k none = zero r (place_else r hand carried shut k.0 none)

    middle_none : v.commit.middle ≡ Calm → total (middle_of g) s.views ≡ 0
    middle_none calm =
        total_only (middle_of g) (has_hand x.place) s.views id v at its_turn
        (λ j u there none. middle_else u.commit.middle u.commit.hand u.places.carried u.buckets.shut u.expected (h.commits j u there) none)
        ∙ ap (middle_weight g) calm

  -- where the pass knows that the place is LIVE of no id, no live record has it
  pub empty : v.commit.middle ≡ Calm → x.phase < 3 → total (of_place x.place) (records_after l.log) ≡ 0
  empty calm few =
      let k : IsHand z l.log s.words x = h.records.away id v at x turn in
      omega (
        arith,
        h.phases.used x.place k.below,
        idle_keeps (phase_at z s.words x.place) (k.idle (omega (arith, few))),
        middle_none (of_place x.place) (λ r other. other_bit r.place x.place other) calm,
      )

  other_phase : (i : ℕ) → IsHand z l.log s.words x → x.phase ≢ 3 + i → phase_at z s.words x.place ≢ 3 + i
  other_phase i k other shown =
      ⊎_elim (λ (e : 2 < x.phase). other (sym (k.shown e) ∙ shown))
      (λ (e : x.phase ≤ 2). absurd (omega (arith, k.idle e, shown)))
      (cases_lt 2 x.phase)

  -- no live record has the id and the place
  none_shown : v.commit.middle ≡ Calm → (i : ℕ) → x.phase ≢ 3 + i → total (of_both x.place i) (records_after l.log) ≡ 0
  none_shown calm i other =
      let k : IsHand z l.log s.words x = h.records.away id v at x turn in
      omega (
        arith,
        h.phases.shown x.place i k.below,
        other_bit (phase_at z s.words x.place) (3 + i) (other_phase i k other),
        middle_none (of_both x.place i) (λ r away. none_else r x.place i (λ e. away (sym e))) calm,
      )

  module _ (low : LiveRecordsAreConfirmed) (calm : v.commit.middle ≡ Calm) (i : ℕ) (kept : is_kept_for x.place i v.places.held ≡ true)
      (other : x.phase ≢ 3 + i) where
    none_found : (r : Record) → record_of i (state_after l.log) ≡ Some r → ⊥
    none_found r e =
        let found = found_confirmed z l s h low i r e in
        let here : r.place ≡ x.place = one_place l.log i r.place x.place found.1 (h.kept_words.each id v at x.place i kept).was in
        let there = find_there (has_id i) (records_after l.log) r e in
        omega (
          arith,
          none_shown calm i other,
          total_term (of_both x.place i) (records_after l.log) there.0 r there.1,
          own_both r,
          ap (λ (n : ℕ). of_both n r.id r) here,
          ap (λ (n : ℕ). of_both x.place n r) found.0,
        )

    absent : (o : Option Record) → o ≡ record_of i (state_after l.log) → o ≡ None
    absent None e = refl
    absent (Some r) e = absurd (none_found r (sym e))

    pub gone : record_of i (state_after l.log) ≡ None
    gone = absent (record_of i (state_after l.log)) refl
