-- A live id has one place: that of its Confirm.
use Rattle.std.proofs.Common.{Bool, ◌≡◌, ℕ, ◌+◌, ◌<◌, ◌≤◌, suc, true, false, Option, Some, None, List, [], ◌∷◌, length, length-append, refl, sym, ap, subst, ◌∙◌, ⊎_elim, arith, eq-eqb, ne_eqb, ◌≢◌}
use Rattle.std.specs.Prelude.{slice_get, ◌==◌, ◌&&◌}
use Rattle.std.specs.List.{All}
use Rattle.std.proofs.lemmas.Bool.{and_parts, cases_Bool, cases_eq, eqb-true}
use Rattle.std.proofs.lemmas.Bool.Decides.{nat_tests}
use Rattle.std.proofs.lemmas.Option.{slice_get_within}
use mathlib.Core.Option.{some}
use lib.ListN.{get_elem?}
use Rattle.atomic_table.specs.Table.{State}
use Rattle.history_book.specs.Desk.{IsLiveIn}
use Rattle.history_book.specs.History.{after, is_legal}
use Rattle.history_book.specs.Laws.{FirstEventsStay, GoneEntriesStayGone, IsConfirmed, LiveRecordsAreConfirmed}
use Rattle.history_book.specs.Point.{StartsWith}
use Rattle.history_book.specs.Record.{has_id}
use Rattle.history_book.specs.State.{record_of}
use Rattle.history_book.specs.declared.event.Event.{Event}
use Rattle.history_book.specs.declared.event.Event.TheVariants.{Confirm}
use Rattle.history_book.specs.declared.record.Record.{Record}
use Rattle.history_book.specs.declared.sizes.Sizes.{Sizes}
use Rattle.track_rule.specs.declared.slot.Slot.{Slot}
use Rattle.track_rule.specs.declared.view.Hand.{Hand}
use Rattle.track_rule.specs.declared.view.View.{View}
use Rattle.track_rule.specs.History.{records_after, state_after}
use Rattle.track_rule.specs.Layout.{phase_at}
use Rattle.track_rule.specs.Phases.{of_both, shows, table_keeps}
use Rattle.track_rule.specs.Records.{IsHand}
use Rattle.track_rule.specs.References.{WasConfirmed}
use Rattle.track_rule.specs.Rule.{IsKept, Ledger}
use Rattle.track_rule.specs.Sums.{bit, total}
use Rattle.track_rule.proofs.Lists.{find_none, find_there, other_bit, same_bit}
use Rattle.track_rule.proofs.Sums.{total_term}

-- one that counts of a place and an id is a record with both, and was confirmed
pub both_live : (log : List Event) (p i : ℕ) (rs : List Record) → All (IsConfirmed log) rs → 0 < total (of_both p i) rs
    → (j : ℕ) × (r : Record) × (get_elem? rs j ≡ some r) × IsConfirmed log r × (r.place ≡ p) × (r.id ≡ i)
both_live log p i [] all any = absurd (omega (arith, any))
both_live log p i (r ∷ rs) all any =
    ⊎_elim
    (λ (e : (r.place == p && r.id == i) ≡ true).
    let parts = and_parts (r.place == p) (r.id == i) e in
    (0, r, refl, all 0 r (omega arith), eqb-true r.place p parts.0, eqb-true r.id i parts.1))
    (λ (e : (r.place == p && r.id == i) ≡ false).
    let t = both_live log p i rs (λ k d short. all (suc k) d (omega (arith, short))) (omega (arith, any, ap bit e)) in
    (suc t.0, t.1, t.2, t.3, t.4, t.5))
    (cases_Bool (r.place == p && r.id == i))

-- it was confirmed there
pub both_confirmed : (log : List Event) (p i : ℕ) (rs : List Record) → All (IsConfirmed log) rs → 0 < total (of_both p i) rs → WasConfirmed log i p
both_confirmed log p i rs all any =
    let t = both_live log p i rs all any in
    record {
      subject = t.3.subject;
      event = subst (λ (k : ℕ). slice_get log k ≡ Some (Confirm t.3.subject)) t.5 t.3.event;
      its_place = sym t.3.same.place ∙ t.4;
    }

-- it was confirmed once
pub one_place : (log : List Event) (i p q : ℕ) → WasConfirmed log i p → WasConfirmed log i q → p ≡ q
one_place log i p q a b =
    sym a.its_place ∙ ap (λ (r : Record). r.place) (one_subject a.subject b.subject (sym a.event ∙ b.event)) ∙ b.its_place
  where
    one_subject : (x y : Record) → Some (Confirm x) ≡ Some (Confirm y) → x ≡ y
    one_subject x y e = cc

-- where the phase is LIVE of an id the table has its reference
pub live_keeps : (id : ℕ) → table_keeps (3 + id) ≡ 1
live_keeps id = grind (arith, nat_tests)

-- and while it is LIVE of none it has not
pub idle_keeps : (n : ℕ) → n ≤ 2 → table_keeps n ≡ 0
idle_keeps n low = grind (arith, nat_tests)

-- it shows the id of a record, and no other, at the place of the record alone
pub both_shown : (r : Record) (i : ℕ) → shows (3 + r.id) i ≡ of_both r.place i r
both_shown r i =
    ⊎_elim
    (λ (e : r.id ≡ i). omega (
      arith,
      same_bit (3 + r.id) (3 + i) (omega (arith, e)),
      ap (λ (b : Bool). bit (b && r.id == i)) (eq-eqb r.place r.place refl),
      same_bit r.id i e,
    ))
    (λ (e : r.id ≢ i). omega (
      arith,
      other_bit (3 + r.id) (3 + i) (λ x. e (omega (arith, x))),
      ap (λ (b : Bool). bit (b && r.id == i)) (eq-eqb r.place r.place refl),
      other_bit r.id i e,
    ))
    (cases_eq r.id i)

pub none_else : (r : Record) (q i : ℕ) → q ≢ r.place → of_both q i r ≡ 0
none_else r q i other = ap (λ (b : Bool). bit (b && r.id == i)) (ne_eqb r.place q (λ e. other (sym e)))

-- of a place and an id that a live record has, it counts one
pub own_both : (r : Record) → of_both r.place r.id r ≡ 1
own_both r = ap bit (λ k. eq-eqb r.place r.place refl k && eq-eqb r.id r.id refl k)

-- the record that is found by its id
pub record_confirmed : (log : List Event) → All (IsConfirmed log) (records_after log) → (i : ℕ) (r : Record) → record_of i (state_after log) ≡ Some r
    → (r.id ≡ i) × WasConfirmed log i r.place
record_confirmed log all i r e =
    let there = find_there (has_id i) (records_after log) r e in
    let its_id : r.id ≡ i = eqb-true r.id i there.2 in (
      its_id,
      both_confirmed log r.place i (records_after log) all (omega (
        arith,
        total_term (of_both r.place i) (records_after log) there.0 r there.1,
        own_both r,
        ap (λ (n : ℕ). of_both r.place n r) its_id,
      )),
    )

module _ (z : Sizes) (l : Ledger) (s : State Slot View) (h : IsKept z l s) (low : LiveRecordsAreConfirmed) where
  pub all_confirmed : All (IsConfirmed l.log) (records_after l.log)
  all_confirmed = (low z l.log (length l.log) h.history.legal).0

  pub found_confirmed : (i : ℕ) (r : Record) → record_of i (state_after l.log) ≡ Some r → (r.id ≡ i) × WasConfirmed l.log i r.place
  found_confirmed i r e = record_confirmed l.log all_confirmed i r e

  -- a place that is LIVE of the id
  pub shown_confirmed : (p i : ℕ) → p < z.entries → phase_at z s.words p ≡ 3 + i → WasConfirmed l.log i p
  shown_confirmed p i below shown =
      both_confirmed l.log p i (records_after l.log) all_confirmed
      (omega (arith, h.phases.shown p i below, same_bit (phase_at z s.words p) (3 + i) shown))

  -- and one that a pass knows so
  pub hand_confirmed : (x : Hand) (i : ℕ) → IsHand z l.log s.words x → x.phase ≡ 3 + i → WasConfirmed l.log i x.place
  hand_confirmed x i k shown = shown_confirmed x.place i k.below (k.shown (omega (arith, shown)) ∙ shown)

-- An id of which a place is LIVE, and whose Confirm stands among the first events, was live there after these: it does not come
-- back once it was destroyed.
pub live_before : LiveRecordsAreConfirmed → GoneEntriesStayGone → FirstEventsStay → (z : Sizes) (l : Ledger) (s : State Slot View) → IsKept z l s
    → (front : List Event) → StartsWith l.log front → (p i : ℕ) → p < z.entries → phase_at z s.words p ≡ 3 + i → WasConfirmed front i p
    → IsLiveIn p i (state_after front)
live_before low gone first z l s h front starts p i below shown was = by_record (record_of i (state_after front)) refl
  where
    legal : (is_legal z front ≡ true) × (after l.log (length front) ≡ state_after front)
    legal = first z l.log front (length front) starts h.history.legal (omega arith)

    by_record : (o : Option Record) → record_of i (state_after front) ≡ o → IsLiveIn p i (state_after front)
    by_record None e =
        let t = both_live l.log p i (records_after l.log) (all_confirmed z l s h low)
        (omega (arith, h.phases.shown p i below, same_bit (phase_at z s.words p) (3 + i) shown)) in
        let dead : record_of i (state_after l.log) ≡ None =
        gone z l.log (length front) (length l.log) i h.history.legal (slice_get_within front i (Confirm was.subject) was.event)
        (omega (arith, ap length starts.1, length-append front starts.0)) (ap (record_of i) legal.1 ∙ e) in
        absurd (find_none (has_id i) (records_after l.log) t.0 t.1 t.2 (eq-eqb t.1.id i t.5) dead)
    by_record (Some r) e = record {
      subject = r;
      is = e;
      placed = one_place front i r.place p (record_confirmed front (low z front (length front) legal.0).0 i r e).1 was;
    }
