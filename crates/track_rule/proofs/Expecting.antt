-- An event that changes what is expected keeps the rule: the records stay, and the pass that has the turn of the expectations knows
-- what is expected then. Such events are an Expect, a Claim and an Unexpect.
use Rattle.std.proofs.Common.{◌≡◌, ℕ, ◌+◌, ◌-◌, ◌%◌, ◌^◌, ◌<◌, ◌≤◌, true, Option, Some, None, List, [], ◌∷◌, ◌++◌, length, refl, sym, ap, subst, ◌∙◌, arith, set, eq-eqb, length-append}
use Rattle.std.specs.Prelude.{slice_index, slice_set, is_some, unwrap_or, find}
use Rattle.std.proofs.lemmas.Bool.{and_from, false≢true}
use mathlib.Core.Option.{none, some}
use lib.ListN.{get_elem?}
use Rattle.atomic_table.specs.Table.{Allows, Me, State as Board, keeps as unchanged, step}
use Rattle.expect_table.specs.Expectations.{add_outcome, matching}
use Rattle.expect_table.specs.Match as expected
use Rattle.expect_table.specs.declared.expectation.Expectation.{Expectation}
use Rattle.history_book.specs.History.{is_legal}
use Rattle.history_book.specs.Laws.{LegalHistoriesGoOn, StatesFollow}
use Rattle.history_book.specs.Legality.{expected_for, helps_in, is_added, may_claim, may_happen, may_unexpect}
use Rattle.history_book.specs.Record.{has_id}
use Rattle.history_book.specs.State.{State, next, record_of}
use Rattle.history_book.specs.declared.event.Event.{Event}
use Rattle.history_book.specs.declared.event.Event.TheVariants.{Confirm, Touch, Destroy, Expect, Claim, Unexpect}
use Rattle.history_book.specs.declared.record.Record.{Record}
use Rattle.history_book.specs.declared.sizes.Sizes.{Sizes}
use Rattle.track_rule.specs.declared.slot.Slot.{Slot}
use Rattle.track_rule.specs.declared.view.Hand.{Hand}
use Rattle.track_rule.specs.declared.view.Middle.{Middle}
use Rattle.track_rule.specs.declared.view.Middle.TheVariants.{Calm, Born, Dying}
use Rattle.track_rule.specs.declared.view.Shut.{Shut}
use Rattle.track_rule.specs.declared.view.View.{View}
use Rattle.track_rule.specs.Chains.{links_in}
use Rattle.track_rule.specs.Commits.{AreCommits, IsCommitting, IsMiddle, IsMiddleOf}
use Rattle.track_rule.specs.Expected.{AreExpected, expected_turn, has_expected}
use Rattle.track_rule.specs.ExpectSteps.{CanChange, CanClaim, CanExpect, CanUnexpect, ChangeStep, HasClaimed, HasExpected, HasUnexpected, KnowsLive, MakesChange, MayExpect, claim_in, expect_in, expectation_as, expects_after, known_expected, made_expected, numbered, unexpect_in}
use Rattle.track_rule.specs.History.{events_in, IsNumber, IsWord, packed, records_after, state_after}
use Rattle.track_rule.specs.Phases.{of_both, of_place}
use Rattle.track_rule.specs.Readings.{stored}
use Rattle.track_rule.specs.Records.{AreRecords, IsHand, has_hand, record_in}
use Rattle.track_rule.specs.Rule.{RuleHolds, IsKept, Ledger}
use Rattle.track_rule.specs.Slots.{expected_number, free_number, hand_number}
use Rattle.track_rule.specs.Sums.{total}
use Rattle.track_rule.proofs.Confirms.{state_on}
use Rattle.track_rule.proofs.EventSteps.{SameRecords, event_kept}
use Rattle.track_rule.proofs.HistoryWord.{word_other, word_phase, word_turn}
use Rattle.track_rule.proofs.Loads.{all_events, number_of}
use Rattle.track_rule.proofs.Seats.{StaysAt, same_at}
use Rattle.track_rule.proofs.Sums.{each_other, each_put, total_same, total_term, total_two}
use Rattle.track_rule.proofs.Touching.{knows_live}

-- WHAT IS EXPECTED

next_expects : (s : State) (e : Event) → (next s e).expects ≡ expects_after e s.expects
next_expects s (Confirm r) = refl
next_expects s (Touch id direction segment moment after) = refl
next_expects s (Destroy id why) = refl
next_expects s (Expect e replaced moment) = refl
next_expects s (Claim expectation master tuple moment) = refl
next_expects s (Unexpect expectation moment) = refl

-- a pass that has the turn knows a list
list_known : (o : Option (List Expectation)) → is_some o ≡ true → o ≡ Some (unwrap_or o [])
list_known None e = absurd (false≢true e)
list_known (Some list) e = refl

-- WHERE THE RECORDS STAY

module _ (z : Sizes) (log made : List Event) (same : records_after made ≡ records_after log) where
  same_record : (i : ℕ) → record_of i (state_after made) ≡ record_of i (state_after log)
  same_record i = ap (find (has_id i)) same

  -- so does the middle of a commit
  middle_stays : (m : Middle) (hand : Option Hand) (carried : List ℕ) (shut : List Shut) (expected expected' : Option (List Expectation))
      → (is_some expected ≡ true → is_some expected' ≡ true) → IsMiddle z log m hand carried shut expected → IsMiddle z made m hand carried shut expected'
  middle_stays m hand carried shut expected expected' turn h = by_middle m h
    where
      still : (r : Record) → IsCommitting z log hand carried shut r → IsCommitting z made hand carried shut r
      still r k = record { turn = k.turn; reference = k.reference; original = k.original; reply = k.reply; live = same_record r.id ∙ k.live }

      by_middle : (m : Middle) → IsMiddle z log m hand carried shut expected → IsMiddle z made m hand carried shut expected'
      by_middle Calm k = tt
      by_middle (Born r) k = still r k
      by_middle (Dying r) k = (still r k.0, λ helped. turn (k.1 helped))

module _ (l : Ledger) (s : Board Slot View) (id : ℕ) (v : View) (e : Event) (h : IsKept v.passes.sizes l s) (at : get_elem? s.views id ≡ some v)
    (has_some : 0 < v.passes.shares) (can : CanChange e v) (follow : StatesFollow) (go_on : LegalHistoriesGoOn) where
  abbrev event : Event
  event = numbered (length l.log) e

  abbrev made : List Event
  made = l.log ++ event ∷ []

  abbrev after_it : View
  after_it = made_expected l.log event v

  abbrev words : List ℕ
  words = slice_set s.words 0 (packed made)

  records_on : records_after made ≡ records_after l.log
  records_on = ap (λ (st : State). st.records) (state_on follow l.log event) ∙ can.leaves (length l.log) (state_after l.log)

  expects_on : (state_after made).expects ≡ expects_after event (state_after l.log).expects
  expects_on = ap (λ (st : State). st.expects) (state_on follow l.log event) ∙ next_expects (state_after l.log) event

  known : v.expected ≡ Some (known_expected v)
  known = list_known v.expected can.turn

  own_turn : has_expected v ≡ 1
  own_turn = ap expected_turn known

  -- what the pass knows was so before
  pub was_expected : (state_after l.log).expects ≡ known_expected v
  was_expected = sym (h.expected.away id v at (known_expected v) known)

  pub was_live : KnowsLive v (state_after l.log)
  was_live = knows_live v.passes.sizes l.log s.words v.commit.hand (h.records.away id v at)

  pub change_legal : is_legal v.passes.sizes (l.log ++ numbered (length l.log) e ∷ []) ≡ true
  change_legal = go_on v.passes.sizes l.log event h.history.legal (can.may (length l.log) (state_after l.log) was_expected was_live)

  pub change_packed : packed (l.log ++ numbered (length l.log) e ∷ []) ≡ packed l.log + 1
  change_packed = omega (arith, length-append l.log (event ∷ []), ap length records_on)

  same_records : SameRecords l.log made
  same_records = record {
    places = λ p. ap (total (of_place p)) records_on;
    both = λ p i. ap (total (of_both p i)) records_on;
    links = λ z b f. ap (total (links_in z b f)) records_on;
  }

  hand_stays : (x : Hand) → IsHand v.passes.sizes l.log s.words x → IsHand v.passes.sizes made words x
  hand_stays x k = record {
    below = k.below;
    shown = λ shown. word_phase v.passes.sizes s.words (packed made) x.place ∙ k.shown shown;
    idle = λ idle. omega (arith, k.idle idle, word_phase v.passes.sizes s.words (packed made) x.place);
    live = λ live. k.live live ∙ sym (same_record v.passes.sizes l.log made records_on (x.phase - 3));
  }

  changed_records : AreRecords v.passes.sizes made words s.homes (set s.views id after_it)
  changed_records =
      let z : Sizes = v.passes.sizes in
      record {
        turn = λ q below. word_turn z s.words (packed made) q ∙ h.records.turn q below ∙ sym (total_same (has_hand q) s.views id v after_it at refl);
        single = λ q. omega (arith, h.records.single q, total_same (has_hand q) s.views id v after_it at refl);
        home = λ q below calm.
            let k = h.records.home q below (sym (word_turn z s.words (packed made) q) ∙ calm) in
            record {
              slot = k.slot;
              there = k.there;
              kind = k.kind;
              live = subst (λ (ph : ℕ). 3 ≤ ph → record_in k.slot ≡ record_of (ph - 3) (state_after made)) (sym (word_phase z s.words (packed made) q))
                  (λ live. k.live live ∙ sym (same_record z l.log made records_on _));
            };
        away = each_put (λ u. (x : Hand) → u.commit.hand ≡ Some x → IsHand z made words x) s.views id after_it
            (λ j u at' x is. hand_stays x (h.records.away j u at' x is)) (λ x is. hand_stays x (h.records.away id v at x is));
      }

  changed_commits : AreCommits v.passes.sizes made (set s.views id after_it)
  changed_commits =
      let z : Sizes = v.passes.sizes in
      each_put (IsMiddleOf z made) s.views id after_it
      (λ j u at'.
      middle_stays z l.log made records_on u.commit.middle u.commit.hand u.places.carried u.buckets.shut u.expected u.expected (λ turn. turn) (h.commits j u at'))
      (middle_stays z l.log made records_on v.commit.middle v.commit.hand v.places.carried v.buckets.shut v.expected after_it.expected (λ turn. refl) (h.commits id v at))

  changed_expected : AreExpected v.passes.sizes made words s.homes (set s.views id after_it)
  changed_expected =
      let expected : slice_index words 2 ≡ slice_index s.words 2 = word_other v.passes.sizes s.words (packed made) 2 (omega arith) in
      record {
        turn = expected ∙ h.expected.turn ∙ sym (total_same has_expected s.views id v after_it at (sym own_turn));
        single = omega (arith, expected, h.expected.single);
        home = λ calm. absurd (omega (arith, calm, expected, h.expected.turn, total_term has_expected s.views id v at, own_turn));
        away = each_other (λ (u : View). (list : List Expectation) → u.expected ≡ Some list → list ≡ (state_after made).expects) s.views id after_it
            (λ j u apart at' list is.
            absurd (omega (
              arith,
              h.expected.turn,
              h.expected.single,
              total_two has_expected s.views id j v u at at' apart,
              own_turn,
              ap expected_turn is,
            )))
            (λ list is. one_list list (expects_after event (known_expected v)) (sym is) ∙ ap (expects_after event) (sym was_expected) ∙ sym expects_on);
      }
    where
      one_list : (x y : List Expectation) → Some x ≡ Some y → x ≡ y
      one_list x y t = cc

  pub changed_kept : IsKept v.passes.sizes (record l { log = l.log ++ numbered (length l.log) e ∷ [] }) (record {
    words = slice_set s.words 0 (packed (l.log ++ numbered (length l.log) e ∷ []));
    homes = s.homes;
    views = set s.views id (made_expected l.log (numbered (length l.log) e) v);
  })
  changed_kept =
      event_kept l s id v after_it event h at has_some can.few change_legal
      (record { passes = refl; places = refl; free = refl; buckets = refl; middle = refl; walk = refl }) refl
      (record { reading = stored 0 (packed made); more = refl; word = refl; value = refl }) same_records changed_records changed_commits changed_expected

-- adding to the history word for such an event keeps the rule
pub changing : (slots id : ℕ) (v : View) (c : List (ℕ × Slot)) (e : Event) → 0 < v.passes.shares → CanChange e v → StatesFollow → LegalHistoriesGoOn
    → Allows (RuleHolds v.passes.sizes) slots id (v, c) 0 (λ n. (n + 1) % 2 ^ 64) (ChangeStep e (step slots 0 1 0 none) (v, c))
changing slots id v c e has_some can follow go_on s (l, h) long at range =
    let z : Sizes = v.passes.sizes in
    let all = all_events l s id v h at has_some in
    let event : Event = numbered (length l.log) e in
    let next_word : (slice_index s.words 0 + 1) % 2 ^ 64 ≡ packed (l.log ++ event ∷ []) =
    omega (arith, h.history.word, change_packed l s id v e h at has_some can follow go_on, range, all.few, h.limits.passes) in (
      made_expected l.log event v,
      unchanged,
      tt,
      (
        record l { log = l.log ++ event ∷ [] },
        subst (λ (k : ℕ). IsKept z (record l { log = l.log ++ event ∷ [] }) (record {
          words = slice_set s.words 0 k;
          homes = s.homes;
          views = set s.views id (made_expected l.log event v);
        })) (sym next_word) (changed_kept l s id v e h at has_some can follow go_on),
      ),
      (
        record {
          log = l.log;
          all = all;
          told = h.history.word;
          view = refl;
          legal = change_legal l s id v e h at has_some can follow go_on;
          expects = was_expected l s id v e h at has_some can follow go_on;
          lives = was_live l s id v e h at has_some can follow go_on;
        },
        refl,
      ),
    )

-- the same shares, turns and places
pub stays_changed : (e : Event) (me me' : Me Slot View) (n : ℕ) → CanChange e me.0 → MakesChange e me.0 (IsWord n) me'.0 × (me'.1 ≡ me.1) → StaysAt me.0 me'.0 × (me'.1 ≡ me.1)
stays_changed e me me' n can told = (
  same_at me.0 me'.0 _ told.0.view (record {
    passes = refl;
    same = ap (λ (o : Option (List Expectation)). free_number me.0.free ++ hand_number me.0.commit.hand ++ expected_number o) (sym (list_known me.0.expected can.turn));
    pool = λ k. record { held = k.held; owed = k.owed };
  }),
  told.1,
)

-- what the call tells
pub has_changed : (e : Event) (v w : View) (word n : ℕ) → MakesChange e v (IsWord word) w → n ≡ events_in word → MakesChange e v (IsNumber n) w
has_changed e v w word n told is = record {
  log = told.log;
  all = told.all;
  told = number_of v word n told.log told.all told.told is;
  view = told.view;
  legal = told.legal;
  expects = told.expects;
  lives = told.lives;
}

-- AN EXPECT

-- it is lawful after what the pass knows
expect_lawful : (x : _) (v : View) → MayExpect x v → (n : ℕ) (s : State) → s.expects ≡ known_expected v → KnowsLive v s
    → may_happen v.passes.sizes s n (Expect (expectation_as n x) x.replaced x.moment) ≡ true
expect_lawful x v can n s expects lives =
    and_from _ _
    (and_from _ _ (and_from _ _ (eq-eqb n n refl) (eq-eqb x.deadline (x.moment + expected_for) can.deadline))
    (ap (helps_in x.zone) (lives x.master can.shown) ∙ can.helper))
    (ap (λ (list : List Expectation). is_added (add_outcome v.passes.sizes.expectations list (expectation_as n x) x.moment) x.replaced) expects ∙ can.added n)

pub can_expect : (e : Event) (v : View) → CanExpect (expect_in e) v → CanChange e v
can_expect (Confirm r) v can = absurd can
can_expect (Touch id direction segment moment after) v can = absurd can
can_expect (Destroy id why) v can = absurd can
can_expect (Expect e replaced moment) v can = record {
  turn = can.turn;
  few = can.few;
  leaves = λ n s. refl;
  may = expect_lawful _ v can;
}
can_expect (Claim expectation master tuple moment) v can = absurd can
can_expect (Unexpect expectation moment) v can = absurd can

pub expect_made : (e : Event) (v : View) (n : ℕ) (w : View) → CanExpect (expect_in e) v → MakesChange e v (IsNumber n) w → HasExpected (expect_in e) v n w
expect_made (Confirm r) v n w can h = absurd can
expect_made (Touch id direction segment moment after) v n w can h = absurd can
expect_made (Destroy id why) v n w can h = absurd can
expect_made (Expect e replaced moment) v n w can h = record {
  log = h.log;
  all = h.all;
  number = h.told;
  view = h.view;
  legal = h.legal;
  expects = h.expects;
  before = h.lives e.master can.shown;
}
expect_made (Claim expectation master tuple moment) v n w can h = absurd can
expect_made (Unexpect expectation moment) v n w can h = absurd can

-- A CLAIM

pub can_claim : (e : Event) (v : View) → CanClaim (claim_in e) v → CanChange e v
can_claim (Confirm r) v can = absurd can
can_claim (Touch id direction segment moment after) v can = absurd can
can_claim (Destroy id why) v can = absurd can
can_claim (Expect e replaced moment) v can = absurd can
can_claim (Claim expectation master tuple moment) v can = record {
  turn = can.turn;
  few = can.few;
  leaves = λ n s. refl;
  may = λ n s expects lives. ap (λ (list : List Expectation). may_claim (matching tuple moment list) expectation master) expects ∙ can.may;
}
can_claim (Unexpect expectation moment) v can = absurd can

pub claim_made : (e : Event) (v : View) (n : ℕ) (w : View) → CanClaim (claim_in e) v → MakesChange e v (IsNumber n) w → HasClaimed (claim_in e) v n w
claim_made (Confirm r) v n w can h = absurd can
claim_made (Touch id direction segment moment after) v n w can h = absurd can
claim_made (Destroy id why) v n w can h = absurd can
claim_made (Expect e replaced moment) v n w can h = absurd can
claim_made (Claim expectation master tuple moment) v n w can h = record {
  log = h.log;
  all = h.all;
  number = h.told;
  view = h.view;
  legal = h.legal;
  expects = h.expects;
}
claim_made (Unexpect expectation moment) v n w can h = absurd can

-- AN UNEXPECT

pub can_unexpect : (e : Event) (v : View) → CanUnexpect (unexpect_in e) v → CanChange e v
can_unexpect (Confirm r) v can = absurd can
can_unexpect (Touch id direction segment moment after) v can = absurd can
can_unexpect (Destroy id why) v can = absurd can
can_unexpect (Expect e replaced moment) v can = absurd can
can_unexpect (Claim expectation master tuple moment) v can = absurd can
can_unexpect (Unexpect expectation moment) v can = record {
  turn = can.turn;
  few = can.few;
  leaves = λ n s. refl;
  may = λ n s expects lives. ap (λ (list : List Expectation). may_unexpect (find (expected.has_id expectation) list) moment) expects ∙ can.may;
}

pub unexpect_made : (e : Event) (v : View) (n : ℕ) (w : View) → CanUnexpect (unexpect_in e) v → MakesChange e v (IsNumber n) w → HasUnexpected (unexpect_in e) v n w
unexpect_made (Confirm r) v n w can h = absurd can
unexpect_made (Touch id direction segment moment after) v n w can h = absurd can
unexpect_made (Destroy id why) v n w can h = absurd can
unexpect_made (Expect e replaced moment) v n w can h = absurd can
unexpect_made (Claim expectation master tuple moment) v n w can h = absurd can
unexpect_made (Unexpect expectation moment) v n w can h = record {
  log = h.log;
  all = h.all;
  number = h.told;
  view = h.view;
  legal = h.legal;
  expects = h.expects;
}
