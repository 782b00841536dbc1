-- A Touch keeps the rule: the record of its id goes on with the new part, and the pass that has its turn knows it so.
use Rattle.track_rule.proofs.OneRecord.{one_commit, one_record}
use Rattle.std.proofs.Common.{◌≡◌, ◌≢◌, ℕ, ◌+◌, ◌-◌, ◌%◌, ◌^◌, ◌<◌, Bool, true, false, Option, Some, None, List, [], ◌∷◌, ◌++◌, length, map, refl, sym, ap, subst, ◌∙◌, ⊎_elim, arith, set, ne_eqb, length-append}
use Rattle.std.specs.Prelude.{slice_index, slice_set, find, if◌then◌else◌}
use Rattle.std.proofs.lemmas.Bool.{cases_Bool, cond_both, eqb-true, false≢true}
use mathlib.Core.Option.{none, some}
use lib.ListN.{get_elem?}
use Rattle.atomic_table.specs.Table.{Allows, Me, State, Step, keeps as unchanged, step}
use Rattle.expect_table.specs.declared.expectation.Expectation.{Expectation}
use Rattle.tuple_core.specs.declared.Direction.{Direction}
use Rattle.tuple_core.specs.declared.Segment.{Segment}
use Rattle.proto_rules.specs.declared.Part.{Part}
use Rattle.history_book.specs.History.{is_legal}
use Rattle.history_book.specs.Laws.{LegalHistoriesGoOn, LiveRecordsAreConfirmed, StatesFollow}
use Rattle.history_book.specs.Legality.{may_touch}
use Rattle.history_book.specs.Record.{has_id}
use Rattle.history_book.specs.State.{record_of, with_part}
use Rattle.history_book.specs.declared.event.Event.{Event}
use Rattle.history_book.specs.declared.event.Event.TheVariants.{Touch}
use Rattle.history_book.specs.declared.record.Record.{Record}
use Rattle.history_book.specs.declared.sizes.Sizes.{Sizes}
use Rattle.track_rule.specs.declared.slot.Slot.{Slot}
use Rattle.track_rule.specs.declared.view.Hand.{Hand}
use Rattle.track_rule.specs.declared.view.View.{View}
use Rattle.track_rule.specs.Chains.{links_in}
use Rattle.track_rule.specs.Commits.{AreCommits}
use Rattle.track_rule.specs.Expected.{AreExpected, has_expected}
use Rattle.track_rule.specs.History.{events_in, packed, records_after, state_after}
use Rattle.track_rule.specs.Phases.{of_both, of_place}
use Rattle.track_rule.specs.Readings.{stored}
use Rattle.track_rule.specs.Records.{AreRecords, IsHand, has_hand, is_hand_of}
use Rattle.track_rule.specs.References.{WasConfirmed}
use Rattle.track_rule.specs.Rule.{RuleHolds, IsKept, Ledger}
use Rattle.track_rule.specs.Slots.{expected_number, free_number, hand_number}
use Rattle.track_rule.specs.Sums.{total}
use Rattle.track_rule.specs.TouchSteps.{CanTouch, HasTouched, IsItsTurn, MayTouch, TouchStep, Touching, goes_on, hand_goes_on, known_phase, known_record, touched, with_touch}
use Rattle.track_rule.proofs.Confirms.{state_on}
use Rattle.track_rule.proofs.EventSteps.{SameRecords, event_kept}
use Rattle.track_rule.proofs.HistoryWord.{word_other, word_phase}
use Rattle.track_rule.proofs.LivePlaces.{found_confirmed, one_place, hand_confirmed}
use Rattle.track_rule.proofs.Lists.{same_bit}
use Rattle.track_rule.proofs.Loads.{all_events, number_of}
use Rattle.track_rule.proofs.Seats.{StaysAt, same_at}
use Rattle.track_rule.proofs.Sums.{each_put, total_alike, total_map, total_same}

-- RECORDS WITH ANOTHER PART

-- what reads no part is the same of a record that goes on
part_left : {X : Type 0} (f : Record → X) → ((r : Record) (a : Part) → f (record r { part = a }) ≡ f r) → (i : ℕ) (a : Part) (r : Record) → f (with_part i a r) ≡ f r
part_left f same i a r = cond_both (has_id i r) (record r { part = a }) r (λ x. f x ≡ f r) (λ e. same r a) (λ e. refl)

total_parts : (f : Record → ℕ) → ((r : Record) (a : Part) → f (record r { part = a }) ≡ f r) → (i : ℕ) (a : Part) (rs : List Record)
    → total f (map (with_part i a) rs) ≡ total f rs
total_parts f same i a rs =
    total_map f (with_part i a) rs ∙ total_alike (λ r. f (with_part i a r)) f rs (λ j r at. part_left f same i a r)

-- another id names the record that it named
find_else : (i j : ℕ) (a : Part) (rs : List Record) → j ≢ i → find (has_id j) (map (with_part i a) rs) ≡ find (has_id j) rs
find_else i j a [] other = refl
find_else i j a (r ∷ rs) other =
    cond_both (has_id i r) (record r { part = a }) r
    (λ x. (if has_id j x then Some x else find (has_id j) (map (with_part i a) rs)) ≡ (if has_id j r then Some r else find (has_id j) rs))
    (λ e.
    let off : has_id j r ≡ false = ne_eqb r.id j (λ k. other (sym k ∙ eqb-true r.id i e)) in
    ap (λ (b : Bool). if b then Some (record r { part = a }) else find (has_id j) (map (with_part i a) rs)) off ∙ find_else i j a rs other
    ∙ sym (ap (λ (b : Bool). if b then Some r else find (has_id j) rs) off))
    (λ e. ap (λ o. if has_id j r then Some r else o) (find_else i j a rs other))

-- the id names its record, with the part
find_part : (i : ℕ) (a : Part) (rs : List Record) (r : Record) → find (has_id i) rs ≡ Some r → find (has_id i) (map (with_part i a) rs) ≡ Some (record r { part = a })
find_part i a [] r e = cc
find_part i a (x ∷ xs) r e =
    ⊎_elim
    (λ (k : has_id i x ≡ true).
    let same : x ≡ r = one_record x r (sym (ap (λ (b : Bool). if b then Some x else find (has_id i) xs) k) ∙ e) in
    ap (λ (b : Bool). find (has_id i) ((if b then record x { part = a } else x) ∷ map (with_part i a) xs)) k
    ∙ ap (λ (b : Bool). if b then Some (record x { part = a }) else find (has_id i) (map (with_part i a) xs)) k
    ∙ ap (λ (y : Record). Some (record y { part = a })) same)
    (λ (k : has_id i x ≡ false).
    ap (λ (b : Bool). find (has_id i) ((if b then record x { part = a } else x) ∷ map (with_part i a) xs)) k
    ∙ ap (λ (b : Bool). if b then Some x else find (has_id i) (map (with_part i a) xs)) k
    ∙ find_part i a xs r (sym (ap (λ (b : Bool). if b then Some x else find (has_id i) xs) k) ∙ e))
    (cases_Bool (has_id i x))
  where
    one_record : (y z : Record) → Some y ≡ Some z → y ≡ z
    one_record y z t = cc

length-parts : (i : ℕ) (a : Part) (rs : List Record) → length (map (with_part i a) rs) ≡ length rs
length-parts i a [] = refl
length-parts i a (r ∷ rs) = omega (arith, length-parts i a rs)

-- WHAT THE PASS KNOWS

hand_of_phase : (o : Option Hand) (n : ℕ) → known_phase o ≡ 3 + n → (x : Hand) × (o ≡ Some x) × (x.phase ≡ 3 + n)
hand_of_phase None n e = absurd (omega (arith, e))
hand_of_phase (Some x) n e = (x, refl, e)

some_record : (o : Option Record) (direction : Direction) (segment : Segment) (moment : ℕ) (a : Part) → may_touch o direction segment moment a ≡ true
    → (r : Record) × (o ≡ Some r)
some_record None direction segment moment a e = absurd (false≢true e)
some_record (Some r) direction segment moment a e = (r, refl)

same_hands : (q : ℕ) (a : Part) (o : Option Hand) → is_hand_of q (hand_goes_on a o) ≡ is_hand_of q o
same_hands q a None = refl
same_hands q a (Some x) = refl

same_numbers : (a : Part) (o : Option Hand) → hand_number (hand_goes_on a o) ≡ hand_number o
same_numbers a None = refl
same_numbers a (Some x) = refl

-- under the turn of a place that is LIVE of an id it is the record of that id
pub knows_live : (z : Sizes) (log : List Event) (words : List ℕ) (hand : Option Hand) → ((x : Hand) → hand ≡ Some x → IsHand z log words x)
    → (i : ℕ) → known_phase hand ≡ 3 + i → record_of i (state_after log) ≡ known_record hand
knows_live z log words None known i e = absurd (omega (arith, e))
knows_live z log words (Some x) known i e =
    ap (λ (n : ℕ). record_of n (state_after log)) (less x.phase i e) ∙ sym ((known x refl).live (omega (arith, e)))
  where
    less : (n i : ℕ) → n ≡ 3 + i → i ≡ n - 3
    less n i e = omega (arith, e)

module _ (l : Ledger) (s : State Slot View) (id : ℕ) (v : View) (t : Touching) (h : IsKept v.passes.sizes l s) (at : get_elem? s.views id ≡ some v)
    (has_some : 0 < v.passes.shares) (can : MayTouch t v) (follow : StatesFollow) (go_on : LegalHistoriesGoOn) (low : LiveRecordsAreConfirmed) where
  abbrev event : Event
  event = Touch t.id t.direction t.segment t.moment t.part

  abbrev made : List Event
  made = with_touch l.log t

  abbrev after_it : View
  after_it = touched l.log t v

  abbrev words : List ℕ
  words = slice_set s.words 0 (packed (with_touch l.log t))

  records_on : records_after made ≡ map (with_part t.id t.part) (records_after l.log)
  records_on = ap (λ st. st.records) (state_on follow l.log event)

  expects_on : (state_after made).expects ≡ (state_after l.log).expects
  expects_on = ap (λ st. st.expects) (state_on follow l.log event)

  own : (x : Hand) × (v.commit.hand ≡ Some x) × (x.phase ≡ 3 + t.id)
  own = hand_of_phase v.commit.hand t.id can.shown

  own_hand : IsHand v.passes.sizes l.log s.words own.0
  own_hand = h.records.away id v at own.0 own.1

  own_place : WasConfirmed l.log t.id own.0.place
  own_place = hand_confirmed v.passes.sizes l s h low own.0 t.id own_hand own.2

  own_turn : has_hand own.0.place v ≡ 1
  own_turn = ap (is_hand_of own.0.place) own.1 ∙ same_bit own.0.place own.0.place refl

  -- the record that the pass knows is the one of the id
  pub known_before : record_of t.id (state_after l.log) ≡ known_record v.commit.hand
  known_before = knows_live v.passes.sizes l.log s.words v.commit.hand (h.records.away id v at) t.id can.shown

  -- it has the place of the turn
  pub its_turn : IsItsTurn v.commit.hand
  its_turn x r e known =
      let k = h.records.away id v at x e in
      let shown : x.phase ≡ 3 + t.id = sym (ap known_phase e) ∙ can.shown in
      let live : record_of t.id (state_after l.log) ≡ Some r = known_before ∙ ap known_record e ∙ known in
      one_place l.log t.id r.place x.place (found_confirmed v.passes.sizes l s h low t.id r live).1 (hand_confirmed v.passes.sizes l s h low x t.id k shown)

  subject : (r : Record) × (known_record v.commit.hand ≡ Some r)
  subject = some_record (known_record v.commit.hand) t.direction t.segment t.moment t.part can.may

  pub touch_legal : is_legal v.passes.sizes (with_touch l.log t) ≡ true
  touch_legal =
      go_on v.passes.sizes l.log event h.history.legal
      (ap (λ (o : Option Record). may_touch o t.direction t.segment t.moment t.part) known_before ∙ can.may)

  pub touch_packed : packed made ≡ packed l.log + 1
  touch_packed = omega (
    arith,
    length-append l.log (event ∷ []),
    ap length records_on,
    length-parts t.id t.part (records_after l.log),
  )

  same_records : SameRecords l.log made
  same_records = record {
    places = λ p. ap (total (of_place p)) records_on ∙ total_parts (of_place p) (λ r a. refl) t.id t.part (records_after l.log);
    both = λ p i. ap (total (of_both p i)) records_on ∙ total_parts (of_both p i) (λ r a. refl) t.id t.part (records_after l.log);
    links = λ z b f. ap (total (links_in z b f)) records_on ∙ total_parts (links_in z b f) (λ r a. refl) t.id t.part (records_after l.log);
  }

  -- records of other ids stay
  other_stays : (i : ℕ) → i ≢ t.id → record_of i (state_after made) ≡ record_of i (state_after l.log)
  other_stays i other = ap (find (has_id i)) records_on ∙ find_else t.id i t.part (records_after l.log) other

  own_goes_on : record_of t.id (state_after made) ≡ goes_on t.part (known_record v.commit.hand)
  own_goes_on =
      ap (find (has_id t.id)) records_on ∙ find_part t.id t.part (records_after l.log) subject.0 (known_before ∙ subject.1)
      ∙ sym (ap (goes_on t.part) subject.1)

  hand_mine : IsHand v.passes.sizes made words (record own.0 { subject = goes_on t.part own.0.subject })
  hand_mine = record {
    below = own_hand.below;
    shown = λ shown. word_phase v.passes.sizes s.words (packed made) own.0.place ∙ own_hand.shown shown;
    idle = λ idle. absurd (omega (arith, idle, own.2));
    live = λ live.
        ap (goes_on t.part) (sym (ap known_record own.1)) ∙ sym own_goes_on
        ∙ ap (λ (n : ℕ). record_of n (state_after made)) (less own.0.phase t.id own.2);
  }
    where
      less : (n i : ℕ) → n ≡ 3 + i → i ≡ n - 3
      less n i e = omega (arith, e)

  touched_records : AreRecords v.passes.sizes made words s.homes (set s.views id after_it)
  touched_records =
      one_record l s id v h at low made t.id own.0.place own_place own_turn other_stays after_it (λ q. same_hands q t.part v.commit.hand)
      (λ x e. subst (IsHand v.passes.sizes made words) (one_hand _ x (sym (ap (hand_goes_on t.part) own.1) ∙ e)) hand_mine)
    where
      one_hand : (a b : Hand) → Some a ≡ Some b → a ≡ b
      one_hand a b e = cc

  touched_commits : AreCommits v.passes.sizes made (set s.views id after_it)
  touched_commits = one_commit l s id v h at low made t.id own.0.place own_place own_turn other_stays after_it can.calm

  touched_expected : AreExpected v.passes.sizes made words s.homes (set s.views id after_it)
  touched_expected =
      let expected : slice_index words 2 ≡ slice_index s.words 2 = word_other v.passes.sizes s.words (packed made) 2 (omega arith) in
      record {
        turn = expected ∙ h.expected.turn ∙ sym (total_same has_expected s.views id v after_it at refl);
        single = omega (arith, expected, h.expected.single);
        home = λ calm.
            let k = h.expected.home (sym expected ∙ calm) in
            record { table = k.table; there = k.there; same = k.same ∙ sym expects_on; room = k.room };
        away = each_put (λ (u : View). (list : List Expectation) → u.expected ≡ Some list → list ≡ (state_after made).expects) s.views id after_it
            (λ i u at' list e. h.expected.away i u at' list e ∙ sym expects_on) (λ list e. h.expected.away id v at list e ∙ sym expects_on);
      }

  pub touched_kept : IsKept v.passes.sizes (record l { log = with_touch l.log t })
      (record { words = slice_set s.words 0 (packed (with_touch l.log t)); homes = s.homes; views = set s.views id (touched l.log t v) })
  touched_kept =
      event_kept l s id v after_it event h at has_some can.few touch_legal
      (record { passes = refl; places = refl; free = refl; buckets = refl; middle = refl; walk = refl }) refl
      (record { reading = stored 0 (packed made); more = refl; word = refl; value = refl }) same_records touched_records touched_commits touched_expected

-- adding to the history word for a Touch keeps the rule
pub touching : (slots id : ℕ) (v : View) (c : List (ℕ × Slot)) (t : Touching) → 0 < v.passes.shares → MayTouch t v → StatesFollow → LegalHistoriesGoOn
    → LiveRecordsAreConfirmed
    → Allows (RuleHolds v.passes.sizes) slots id (v, c) 0 (λ n. (n + 1) % 2 ^ 64) (TouchStep (Some t) (step slots 0 1 0 none) (v, c))
touching slots id v c t has_some can follow go_on low s (l, h) long at range =
    let z : Sizes = v.passes.sizes in
    let all = all_events l s id v h at has_some in
    let next : (slice_index s.words 0 + 1) % 2 ^ 64 ≡ packed (with_touch l.log t) =
    omega (arith, h.history.word, touch_packed l s id v t h at has_some can follow go_on low, range, all.few, h.limits.passes) in (
      touched l.log t v,
      unchanged,
      tt,
      (
        record l { log = with_touch l.log t },
        subst (λ (k : ℕ). IsKept z (record l { log = with_touch l.log t }) (record {
          words = slice_set s.words 0 k;
          homes = s.homes;
          views = set s.views id (touched l.log t v);
        })) (sym next) (touched_kept l s id v t h at has_some can follow go_on low),
      ),
      (
        record {
          log = l.log;
          all = all;
          told = h.history.word;
          view = refl;
          legal = touch_legal l s id v t h at has_some can follow go_on low;
          before = known_before l s id v t h at has_some can follow go_on low;
          placed = its_turn l s id v t h at has_some can follow go_on low;
        },
        refl,
      ),
    )

-- the same, as the event that is added says what it touches
pub adding_touch : (slots id : ℕ) (v : View) (c : List (ℕ × Slot)) (o : Option Touching) → 0 < v.passes.shares → CanTouch o v → StatesFollow → LegalHistoriesGoOn
    → LiveRecordsAreConfirmed
    → Allows (RuleHolds v.passes.sizes) slots id (v, c) 0 (λ n. (n + 1) % 2 ^ 64) (TouchStep o (step slots 0 1 0 none) (v, c))
adding_touch slots id v c None has_some can follow go_on low = absurd can
adding_touch slots id v c (Some t) has_some can follow go_on low = touching slots id v c t has_some can follow go_on low

-- the same shares, turns and places
pub stays_touched : (o : Option Touching) (s : Step Slot) (me me' : Me Slot View) (n : ℕ) → CanTouch o me.0 → TouchStep o s me n me' → StaysAt me.0 me'.0 × (me'.1 ≡ me.1)
stays_touched None s me me' n can told = absurd can
stays_touched (Some t) s me me' n can told = (
  same_at me.0 me'.0 _ told.0.view (record {
    passes = refl;
    same = ap (λ (ns : List ℕ). free_number me.0.free ++ ns ++ expected_number me.0.expected) (same_numbers t.part me.0.commit.hand);
    pool = λ k. record { held = k.held; owed = k.owed };
  }),
  told.1,
)

-- what the call tells
pub has_touched : (o : Option Touching) (s : Step Slot) (me me' : Me Slot View) (word n : ℕ) → CanTouch o me.0 → TouchStep o s me word me' → n ≡ events_in word
    → HasTouched o me.0 n me'.0
has_touched None s me me' word n can told is = absurd can
has_touched (Some t) s me me' word n can told is = record {
  log = told.0.log;
  all = told.0.all;
  told = number_of me.0 word n told.0.log told.0.all told.0.told is;
  view = told.0.view;
  legal = told.0.legal;
  before = told.0.before;
  placed = told.0.placed;
}
