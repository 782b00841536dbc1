-- An event that changes the record of one id alone, whose turn the pass has that makes it: what the rule says of records and of
-- other passes' commits.
use Rattle.std.proofs.Common.{◌≡◌, ◌≢◌, ℕ, ◌-◌, ◌<◌, ◌≤◌, Some, List, sym, ap, subst, ◌∙◌, arith, set}
use Rattle.std.specs.Prelude.{slice_set}
use mathlib.Core.Option.{some}
use lib.ListN.{get_elem?}
use Rattle.atomic_table.specs.Table.{State}
use Rattle.history_book.specs.Laws.{LiveRecordsAreConfirmed}
use Rattle.history_book.specs.State.{record_of}
use Rattle.history_book.specs.declared.event.Event.{Event}
use Rattle.history_book.specs.declared.record.Record.{Record}
use Rattle.history_book.specs.declared.sizes.Sizes.{Sizes}
use Rattle.track_rule.specs.declared.slot.Slot.{Slot}
use Rattle.track_rule.specs.declared.view.Hand.{Hand}
use Rattle.track_rule.specs.declared.view.Middle.{Middle}
use Rattle.track_rule.specs.declared.view.Middle.TheVariants.{Calm, Born, Dying}
use Rattle.track_rule.specs.declared.view.View.{View}
use Rattle.track_rule.specs.Commits.{AreCommits, IsCommitting, IsMiddle, IsMiddleOf}
use Rattle.track_rule.specs.History.{packed, state_after}
use Rattle.track_rule.specs.Layout.{phase_at}
use Rattle.track_rule.specs.Records.{AreRecords, IsHand, has_hand, is_hand_of, record_in}
use Rattle.track_rule.specs.References.{WasConfirmed}
use Rattle.track_rule.specs.Rule.{IsKept, Ledger}
use Rattle.track_rule.proofs.HistoryWord.{word_phase, word_turn}
use Rattle.track_rule.proofs.LivePlaces.{found_confirmed, one_place, shown_confirmed}
use Rattle.track_rule.proofs.Lists.{same_bit}
use Rattle.track_rule.proofs.Sums.{each_other, total_same, total_term, total_two}

module _ (l : Ledger) (s : State Slot View) (id : ℕ) (v : View) (h : IsKept v.passes.sizes l s) (at : get_elem? s.views id ≡ some v)
    (low : LiveRecordsAreConfirmed) (made : List Event) (i p : ℕ) (its : WasConfirmed l.log i p) (turn : has_hand p v ≡ 1)
    (stays : (j : ℕ) → j ≢ i → record_of j (state_after made) ≡ record_of j (state_after l.log)) where
  abbrev words : List ℕ
  words = slice_set s.words 0 (packed made)

  -- of another place that is LIVE of some id
  shown_stays : (q : ℕ) → q < v.passes.sizes.entries → q ≢ p → 3 ≤ phase_at v.passes.sizes s.words q
      → record_of (phase_at v.passes.sizes s.words q - 3) (state_after made) ≡ record_of (phase_at v.passes.sizes s.words q - 3) (state_after l.log)
  shown_stays q below other live =
      stays (phase_at v.passes.sizes s.words q - 3) (λ e.
      other (one_place l.log i q p (shown_confirmed v.passes.sizes l s h low q i below (omega (arith, e, live))) its))

  -- what other passes know
  hand_else : (x : Hand) → x.place ≢ p → IsHand v.passes.sizes l.log s.words x → IsHand v.passes.sizes made words x
  hand_else x other k = record {
    below = k.below;
    shown = λ shown. word_phase v.passes.sizes s.words (packed made) x.place ∙ k.shown shown;
    idle = λ idle. omega (arith, k.idle idle, word_phase v.passes.sizes s.words (packed made) x.place);
    live = λ live.
        let shown : phase_at v.passes.sizes s.words x.place ≡ x.phase = k.shown (omega (arith, live)) in
        k.live live
        ∙ sym (subst (λ (n : ℕ). record_of (n - 3) (state_after made) ≡ record_of (n - 3) (state_after l.log)) shown
        (shown_stays x.place k.below other (omega (arith, live, shown))));
  }

  -- no other pass has the turn
  turn_alone : (j : ℕ) (u : View) → j ≢ id → get_elem? s.views j ≡ some u → has_hand p u ≡ 0
  turn_alone j u apart at' = omega (arith, h.records.single p, total_two (has_hand p) s.views id j v u at at' apart, turn)

  -- with what the pass itself knows of it
  pub one_record : (w : View) → ((q : ℕ) → has_hand q w ≡ has_hand q v) → ((x : Hand) → w.commit.hand ≡ Some x → IsHand v.passes.sizes made words x)
      → AreRecords v.passes.sizes made (slice_set s.words 0 (packed made)) s.homes (set s.views id w)
  one_record w same mine =
      let z : Sizes = v.passes.sizes in
      record {
        turn = λ q below. word_turn z s.words (packed made) q ∙ h.records.turn q below ∙ sym (total_same (has_hand q) s.views id v w at (same q));
        single = λ q. omega (arith, h.records.single q, total_same (has_hand q) s.views id v w at (same q));
        home = λ q below calm.
            let free = sym (word_turn z s.words (packed made) q) ∙ calm in
            let k = h.records.home q below free in
            let other : q ≢ p = λ e. omega (
              arith,
              free,
              h.records.turn q below,
              total_term (has_hand q) s.views id v at,
              turn,
              ap (λ (n : ℕ). has_hand n v) e,
            ) in
            record {
              slot = k.slot;
              there = k.there;
              kind = k.kind;
              live = subst (λ (ph : ℕ). 3 ≤ ph → record_in k.slot ≡ record_of (ph - 3) (state_after made)) (sym (word_phase z s.words (packed made) q))
                  (λ live. k.live live ∙ sym (shown_stays q below other live));
            };
        away = each_other (λ u. (x : Hand) → u.commit.hand ≡ Some x → IsHand z made words x) s.views id w
            (λ j u apart at' x e.
            hand_else x (λ same_place. omega (arith, turn_alone j u apart at', ap (is_hand_of p) e, same_bit x.place p same_place)) (h.records.away j u at' x e)) mine;
      }

  -- a pass in the middle of a commit has the turn of another record
  committing_on : (j : ℕ) (u : View) → j ≢ id → get_elem? s.views j ≡ some u → (r : Record)
      → IsCommitting v.passes.sizes l.log u.commit.hand u.places.carried u.buckets.shut r
      → IsCommitting v.passes.sizes made u.commit.hand u.places.carried u.buckets.shut r
  committing_on j u apart at' r k = record {
    turn = k.turn;
    reference = k.reference;
    original = k.original;
    reply = k.reply;
    live = stays r.id (λ e.
        let here : r.place ≡ p = one_place l.log i r.place p
        (subst (λ (n : ℕ). WasConfirmed l.log n r.place) e (found_confirmed v.passes.sizes l s h low r.id r k.live).1) its in
        omega (arith, turn_alone j u apart at', k.turn, ap (λ (n : ℕ). is_hand_of n u.commit.hand) here)) ∙ k.live;
  }

  -- the pass itself is in the middle of none then
  pub one_commit : (w : View) → w.commit.middle ≡ Calm → AreCommits v.passes.sizes made (set s.views id w)
  one_commit w calm =
      each_other (IsMiddleOf v.passes.sizes made) s.views id w (λ j u apart at'. middle_on j u apart at' u.commit.middle (h.commits j u at'))
      (subst (λ (m : Middle). IsMiddle v.passes.sizes made m w.commit.hand w.places.carried w.buckets.shut w.expected) (sym calm) tt)
    where
      middle_on : (j : ℕ) (u : View) → j ≢ id → get_elem? s.views j ≡ some u → (m : Middle)
          → IsMiddle v.passes.sizes l.log m u.commit.hand u.places.carried u.buckets.shut u.expected
          → IsMiddle v.passes.sizes made m u.commit.hand u.places.carried u.buckets.shut u.expected
      middle_on j u apart at' Calm k = tt
      middle_on j u apart at' (Born r) k = committing_on j u apart at' r k
      middle_on j u apart at' (Dying r) k = (committing_on j u apart at' r k.0, k.1)
