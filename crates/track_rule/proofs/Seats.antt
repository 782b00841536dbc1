-- A pass stays one at its table.
use Rattle.std.specs.Prelude.{◌==◌, ◌||◌, not, if◌then◌else◌, is_some, unwrap_or}
use Rattle.std.proofs.Common.{Bool, false, ◌≡◌, ◌≢◌, ℕ, zero, suc, ◌+◌, ◌<◌, ⊎_elim, true, Option, Some, None, List, [], ◌∷◌, ◌++◌, length, refl, sym, ap, subst, ◌∙◌, arith}
use Rattle.std.proofs.lemmas.Bool.{cases_Bool, cases_eq, cond_both, eqb-true, false≢true}
use Rattle.atomic_table.specs.Seated.{TableId}
use Rattle.atomic_table.specs.Table.{Allows, Me, rest}
use Rattle.track_rule.proofs.Lists.{other_bit}
use Rattle.std.proofs.lemmas.Option.{none-some}
use Rattle.track_rule.specs.Rule.{RuleHolds}
use Rattle.expect_table.specs.declared.expectation.Expectation.{Expectation}
use Rattle.room_list.specs.Roomed.{Roomed}
use Rattle.history_book.specs.declared.sizes.Sizes.{Sizes}
use Rattle.history_book.specs.Sizes.{AreWithinLimits}
use Rattle.track_rule.specs.declared.slot.Slot.{Slot}
use Rattle.track_rule.specs.declared.slot.Slot.TheVariants.{Vacant, Free, Expects, Subject}
use Rattle.track_rule.specs.declared.view.Hand.{Hand}
use Rattle.track_rule.specs.declared.view.Keep.{Keep}
use Rattle.track_rule.specs.declared.view.Places.{Places}
use Rattle.track_rule.specs.declared.view.Shares.{Shares}
use Rattle.track_rule.specs.declared.view.View.{View}
use Rattle.track_rule.specs.Layout.{IsTable, record_slot}
use Rattle.track_rule.specs.Passes.{HasNothing}
use Rattle.track_rule.specs.Records.{has_hand, is_hand_of, is_records, slot_of_record}
use Rattle.track_rule.specs.TurnSteps.{TakesTurn, gave_turn, subject_in}
use Rattle.history_book.specs.declared.record.Record.{Record}
use Rattle.track_rule.specs.Sights.{AreHeldBelow, AreOfPool, AreOwedBelow, IsAt, PassSight, sight_at}
use Rattle.track_rule.specs.Slots.{AllSuit, expected_number, free_at, free_in, free_number, hand_number, list_in, no_list, numbers, numbers_of, slot_of_free, suits}
use Rattle.track_rule.specs.Free.{is_among, known_free, unlisted}
use Rattle.track_rule.specs.References.{is_at, is_held, without}
use Rattle.track_rule.specs.Steps.{Opens, RaisesRefs, is_second, let_go_of, one_more}

-- what most steps leave of a view: the shares and the turns; and each place that is held is one of the pool
pub record StaysAt (v w : View) : Type 0 where
  pub passes : w.passes ≡ v.passes
  pub same : numbers_of w ≡ numbers_of v
  pub pool : AreOfPool v.passes.sizes.entries v.places → AreOfPool v.passes.sizes.entries w.places

-- a seat that knows more, with the same slots out
pub stays_at : (table key-table : TableId) (key sizes : Sizes) (table' : TableId) (me me' : Me Slot View) → IsAt key-table key sizes (sight_at table me)
    → table' ≡ table → StaysAt me.0 me'.0 → me'.1 ≡ me.1 → IsAt key-table key sizes (sight_at table' me')
stays_at table key-table key sizes table' me me' h there stays slots =
    let z : me'.0.passes.sizes ≡ me.0.passes.sizes = ap (λ (s : Shares). s.sizes) stays.passes in
    record {
      same = there ∙ h.same;
      key_is = z ∙ h.key_is;
      sizes_are = h.sizes_are ∙ sym z;
      right = record {
        counts = subst (λ (y : Sizes). IsTable y table') (sym z) (subst (IsTable me.0.passes.sizes) (sym there) h.right.counts);
        limits = subst AreWithinLimits (sym z) h.right.limits;
        some = omega (arith, h.right.some, ap (λ (s : Shares). s.shares) stays.passes);
        carries = ap numbers slots ∙ h.right.carries ∙ sym stays.same;
        pool = subst (λ (y : Sizes). AreOfPool y.entries me'.0.places) (sym z) (stays.pool h.right.pool);
        suit = subst AllSuit (sym slots) h.right.suit;
      };
    }

-- a seat with the same shares and places, and other slots out
pub moves_at : (table key-table : TableId) (key sizes : Sizes) (table' : TableId) (me me' : Me Slot View) → IsAt key-table key sizes (sight_at table me)
    → table' ≡ table → me'.0.passes ≡ me.0.passes → me'.0.places ≡ me.0.places → numbers me'.1 ≡ numbers_of me'.0 → AllSuit me'.1
    → IsAt key-table key sizes (sight_at table' me')
moves_at table key-table key sizes table' me me' h there passes places carries suit =
    let z : me'.0.passes.sizes ≡ me.0.passes.sizes = ap (λ (s : Shares). s.sizes) passes in
    record {
      same = there ∙ h.same;
      key_is = z ∙ h.key_is;
      sizes_are = h.sizes_are ∙ sym z;
      right = record {
        counts = subst (λ (y : Sizes). IsTable y table') (sym z) (subst (IsTable me.0.passes.sizes) (sym there) h.right.counts);
        limits = subst AreWithinLimits (sym z) h.right.limits;
        some = omega (arith, h.right.some, ap (λ (s : Shares). s.shares) passes);
        carries = carries;
        pool = subst (λ (y : Sizes). AreOfPool y.entries me'.0.places) (sym z) (subst (AreOfPool me.0.passes.sizes.entries) (sym places) h.right.pool);
        suit = suit;
      };
    }

-- contracts see that only the view changed
pub kept_at : (old : PassSight) (table table' : TableId) (me me' : Me Slot View) → sight_at table me ≡ old → table' ≡ table → me'.1 ≡ me.1
    → sight_at table' me' ≡ record old { view = me'.0 }
kept_at old table table' me me' was there slots k = record {
  table = (there ∙ ap (λ (p : PassSight). p.table) was) k;
  view = me'.0;
  slots = (slots ∙ ap (λ (p : PassSight). p.slots) was) k;
}

-- what a step asks, at the sizes of the rule and at the word as it was reckoned
pub allowed : (z key : Sizes) (slots id : ℕ) (me : Me Slot View) (word word' : ℕ) (f : ℕ → ℕ) (tells : ℕ → ℕ → Me Slot View → Type 0)
    → z ≡ key → word' ≡ word → Allows (RuleHolds z) slots id me word f (tells word) → Allows (RuleHolds key) slots id me word' f (tells word')
allowed z key slots id me word word' f tells same there h =
    subst (λ (w : ℕ). Allows (RuleHolds key) slots id me w f (tells w)) (sym there) (subst (λ (y : Sizes). Allows (RuleHolds y) slots id me word f (tells word)) same h)

abbrev pub first_number : List ℕ → ℕ
first_number [] = 0
first_number (n ∷ ns) = n

-- the place of a slot that is out, where the pass has the turn of the free list
pub free_out : (me : Me Slot View) → is_some me.0.free ≡ true → numbers me.1 ≡ numbers_of me.0 → AllSuit me.1
    → (x : Slot) × (me.1 ≡ (0, x) ∷ rest me.1) × (x ≡ slot_of_free (free_in x))
free_out me turn carries suit = first_out me.0.free me.0.commit.hand me.0.expected me.1 turn carries suit
  where
    own_slot : (x : Slot) → suits 0 x ≡ true → x ≡ slot_of_free (free_in x)
    own_slot Vacant e = refl
    own_slot (Free list) e = refl
    own_slot (Expects table) e = absurd (false≢true e)
    own_slot (Subject r) e = absurd (false≢true e)

    first_out : (free : Option (List ℕ)) (hand : Option Hand) (expected : Option (List Expectation)) (slots : List (ℕ × Slot)) → is_some free ≡ true
        → numbers slots ≡ free_number free ++ hand_number hand ++ expected_number expected → AllSuit slots
        → (x : Slot) × (slots ≡ (0, x) ∷ rest slots) × (x ≡ slot_of_free (free_in x))
    first_out None hand expected slots e same suit = absurd (false≢true e)
    first_out (Some free) hand expected [] e same suit = absurd (omega (arith, ap length same))
    first_out (Some free) hand expected (s ∷ slots) e same suit =
        let zero_is : s.0 ≡ 0 = ap first_number same in (
          s.1,
          (λ k. (zero_is k, s.1) ∷ slots),
          own_slot s.1 (subst (λ (n : ℕ). suits n s.1 ≡ true) zero_is suit.0),
        )

-- a pass that has nothing has no slot out
pub none_out : (me : Me Slot View) → HasNothing me.0 → numbers me.1 ≡ numbers_of me.0 → me.1 ≡ []
none_out me none same = none_of me.1 (same ∙ none_number me.0 none)
  where
    none_number : (v : View) → HasNothing v → numbers_of v ≡ []
    none_number v n = λ k. free_number (n.free k) ++ hand_number (n.hand k) ++ expected_number (n.expected k)

    none_of : (slots : List (ℕ × Slot)) → numbers slots ≡ [] → slots ≡ []
    none_of [] e = refl
    none_of (s ∷ slots) e = absurd (omega (arith, ap length e))

-- the view after each step has the same shares and the same turns
pub opened_at : (place : ℕ) (v w : View) → place < v.passes.sizes.entries → is_among place (known_free v) ≡ true → Opens place v w → StaysAt v w
opened_at place v w below on o = record {
  passes = ap (λ (x : View). x.passes) o.view;
  same = ap numbers_of o.view ∙ ap (λ (ns : List ℕ). ns ++ hand_number v.commit.hand ++ expected_number v.expected) (has_list v.free on);
  pool = λ k. subst (λ (x : View). AreOfPool v.passes.sizes.entries x.places) (sym o.view) (record { held = (below, k.held); owed = k.owed });
}
  where
    has_list : (free : Option (List ℕ)) → is_among place (unwrap_or free []) ≡ true → 0 ∷ [] ≡ free_number free
    has_list None e = absurd (false≢true e)
    has_list (Some list) e = refl

pub same_at : (v w u : View) → w ≡ u → StaysAt v u → StaysAt v w
same_at v w u e h = record {
  passes = ap (λ (x : View). x.passes) e ∙ h.passes;
  same = ap numbers_of e ∙ h.same;
  pool = λ k. subst (λ (x : View). AreOfPool v.passes.sizes.entries x.places) (sym e) (h.pool k);
}

-- where a further place is held, or one place less, or not
pub pool_more : (second : Bool) (n place : ℕ) (places : Places) → place < n → AreOfPool n places → AreOfPool n (one_more second place places)
pool_more true n place places below h = record { held = h.held; owed = h.owed }
pool_more false n place places below h = record { held = (below, h.held); owed = h.owed }

pub pool_less : (carries : Bool) (n place k : ℕ) (v : View) → place < n → AreOfPool n v.places → AreOfPool n (let_go_of carries place k v).places
pool_less true n place k v below h = record { held = h.held; owed = h.owed }
pool_less false n place k v below h = record { held = below_without v.places.held h.held; owed = below_then (k == 1) v.places.owed h.owed }
  where
    below_without : (held : List Keep) → AreHeldBelow n held → AreHeldBelow n (without place held)
    below_without [] h = tt
    below_without (k ∷ ks) h = cond_both (is_at place k) ks (k ∷ without place ks) (AreHeldBelow n) (λ e. h.1) (λ e. (h.0, below_without ks h.1))

    below_then : (b : Bool) (owed : List ℕ) → AreOwedBelow n owed → AreOwedBelow n (if b then place ∷ owed else owed)
    below_then true owed h = (below, h)
    below_then false owed h = h

pub pool_listed : (n : ℕ) (list owed : List ℕ) → AreOwedBelow n owed → AreOwedBelow n (unlisted list owed)
pool_listed n list [] h = tt
pool_listed n list (p ∷ ps) h =
    cond_both (not (is_among p list)) (p ∷ unlisted list ps) (unlisted list ps) (AreOwedBelow n) (λ e. (h.0, pool_listed n list ps h.1))
    (λ e. pool_listed n list ps h.1)

-- a place that is held, or owed, is one of the pool
pub held_below : (n place : ℕ) (held : List Keep) → AreHeldBelow n held → is_held place held ≡ true → place < n
held_below n place [] h e = absurd (false≢true e)
held_below n place (k ∷ ks) h e =
    ⊎_elim
    (λ (t : is_at place k ≡ true). subst (λ (p : ℕ). p < n) (eqb-true k.place place t) h.0)
    (λ (t : is_at place k ≡ false). held_below n place ks h.1 (sym (ap (λ (b : Bool). b || is_held place ks) t) ∙ e))
    (cases_Bool (is_at place k))

pub owed_below : (n place : ℕ) (owed : List ℕ) → AreOwedBelow n owed → is_among place owed ≡ true → place < n
owed_below n place [] h e = absurd (false≢true e)
owed_below n place (p ∷ ps) h e =
    ⊎_elim
    (λ (t : (p == place) ≡ true). subst (λ (x : ℕ). x < n) (eqb-true p place t) h.0)
    (λ (t : (p == place) ≡ false). owed_below n place ps h.1 (sym (ap (λ (b : Bool). b || is_among place ps) t) ∙ e))
    (cases_Bool (p == place))

pub raised_at : (same : Bool) (place seen n : ℕ) (v w : View) → place < v.passes.sizes.entries → RaisesRefs same place seen v n w → StaysAt v w
raised_at true place seen n v w below h =
    same_at v w _ h.view (record {
      passes = refl;
      same = refl;
      pool = pool_more (is_second place v) v.passes.sizes.entries place v.places below;
    })
raised_at false place seen n v w below h = same_at v w _ h.view (record { passes = refl; same = refl; pool = λ k. k })

-- the list itself, where it is out
pub list_out : (me : Me Slot View) → is_some me.0.free ≡ true → is_some (free_at me.1) ≡ true → numbers me.1 ≡ numbers_of me.0 → AllSuit me.1
    → me.1 ≡ (0, Free (list_in me.1)) ∷ rest me.1
list_out me turn there carries suit =
    let out = free_out me turn carries suit in
    let here : free_at me.1 ≡ free_in out.0 = ap free_at out.1 in
    out.1 ∙ ap (λ (x : Slot). (0, x) ∷ rest me.1) (out.2 ∙ slot_is (free_in out.0) (free_at me.1) here there)
  where
    slot_is : (o p : Option (Roomed ℕ)) → p ≡ o → is_some p ≡ true → slot_of_free o ≡ Free (unwrap_or p no_list)
    slot_is o None e some_there = absurd (false≢true some_there)
    slot_is o (Some list) e some_there = ap slot_of_free (sym e)

-- the slot of a record that is out, where the pass has its turn and not the free list
pub hand_out : (place : ℕ) (me : Me Slot View) → me.0.free ≡ None → has_hand place me.0 ≡ 1 → numbers me.1 ≡ numbers_of me.0 → AllSuit me.1
    → (x : Slot) × (me.1 ≡ (record_slot place, x) ∷ rest me.1) × (is_records x ≡ true)
hand_out place me none mine carries suit = first_out me.0.free me.0.commit.hand me.0.expected me.1 none mine carries suit
  where
    record_kind : (k : ℕ) (x : Slot) → k ≡ 2 + place → suits k x ≡ true → is_records x ≡ true
    record_kind k Vacant e h = refl
    record_kind k (Subject r) e h = refl
    record_kind zero (Free list) e h = absurd (omega (arith, e))
    record_kind (suc zero) (Free list) e h = absurd (false≢true h)
    record_kind (suc (suc k)) (Free list) e h = absurd (false≢true h)
    record_kind zero (Expects table) e h = absurd (false≢true h)
    record_kind (suc zero) (Expects table) e h = absurd (omega (arith, e))
    record_kind (suc (suc k)) (Expects table) e h = absurd (false≢true h)

    first_out : (free : Option (List ℕ)) (hand : Option Hand) (expected : Option (List Expectation)) (slots : List (ℕ × Slot)) → free ≡ None
        → is_hand_of place hand ≡ 1 → numbers slots ≡ free_number free ++ hand_number hand ++ expected_number expected → AllSuit slots
        → (x : Slot) × (slots ≡ (record_slot place, x) ∷ rest slots) × (is_records x ≡ true)
    first_out (Some free) hand expected slots none mine same suit = absurd (none-some free (sym none))
    first_out None None expected slots none mine same suit = absurd (omega (arith, mine))
    first_out None (Some h) expected [] none mine same suit = absurd (omega (arith, ap length same))
    first_out None (Some h) expected (s ∷ slots) none mine same suit =
        let here : h.place ≡ place =
        ⊎_elim (λ (t : h.place ≡ place). t) (λ (t : h.place ≢ place). absurd (omega (arith, mine, other_bit h.place place t))) (cases_eq h.place place) in
        let number : s.0 ≡ 2 + place = ap first_number same ∙ ap (λ (n : ℕ). 2 + n) here in (
          s.1,
          (λ k. (number k, s.1) ∷ slots),
          record_kind s.0 s.1 number suit.0,
        )

abbrev pub tail_of : List ℕ → List ℕ
tail_of [] = []
tail_of (n ∷ ns) = ns

-- a pass that took the turn of a record, or missed it, is one at its table
pub turned_at : (took : Bool) (place : ℕ) (table key-table : TableId) (key sizes : Sizes) (table' : TableId) (me me' : Me Slot View)
    → IsAt key-table key sizes (sight_at table me) → table' ≡ table → me.0.free ≡ None → me.0.commit.hand ≡ None
    → TakesTurn took place me.0 me.1 me'.0 me'.1 → IsAt key-table key sizes (sight_at table' me')
turned_at false place table key-table key sizes table' me me' h there free calm t =
    stays_at table key-table key sizes table' me me' h there (same_at me.0 me'.0 _ t.view (record { passes = refl; same = refl; pool = λ k. k })) t.out
turned_at true place table key-table key sizes table' me me' h there free calm t =
    let before : numbers_of me.0 ≡ expected_number me.0.expected =
    λ k. free_number (free k) ++ hand_number (calm k) ++ expected_number me.0.expected in
    let after : numbers_of me'.0 ≡ (2 + place) ∷ expected_number me.0.expected =
    ap numbers_of t.view ∙ (λ k. free_number (free k) ++ (2 + place) ∷ [] ++ expected_number me.0.expected) in
    moves_at table key-table key sizes table' me me' h there (ap (λ (v : View). v.passes) t.view) (ap (λ (v : View). v.places) t.view)
    (ap numbers t.out ∙ (λ k. (2 + place) ∷ (h.right.carries ∙ before) k) ∙ sym after)
    (subst AllSuit (sym t.out) (record_suits (subject_in me'.1), h.right.suit))
  where
    record_suits : (o : Option Record) → suits (record_slot place) (slot_of_record o) ≡ true
    record_suits None = refl
    record_suits (Some r) =
        let two : 2 + place ≡ suc (suc place) = omega arith in
        ap (λ (k : ℕ). suits k (Subject r)) two

-- and so is one that gave it back
pub turned_back : (place : ℕ) (table key-table : TableId) (key sizes : Sizes) (table' : TableId) (me me' : Me Slot View)
    → IsAt key-table key sizes (sight_at table me) → table' ≡ table → me.0.free ≡ None → has_hand place me.0 ≡ 1
    → me'.0 ≡ gave_turn place me.0 → me'.1 ≡ rest me.1 → IsAt key-table key sizes (sight_at table' me')
turned_back place table key-table key sizes table' me me' h there free mine view slots =
    let out = hand_out place me free mine h.right.carries h.right.suit in
    let left : numbers (rest me.1) ≡ expected_number me.0.expected =
    sym (ap (λ (d : List (ℕ × Slot)). tail_of (numbers d)) out.1) ∙ ap tail_of h.right.carries ∙ hand_first me.0.free me.0.commit.hand free mine in
    let after : numbers_of me'.0 ≡ expected_number me.0.expected =
    ap numbers_of view ∙ (λ k. free_number (free k) ++ [] ++ expected_number me.0.expected) in
    moves_at table key-table key sizes table' me me' h there (ap (λ (v : View). v.passes) view) (ap (λ (v : View). v.places) view)
    (ap numbers slots ∙ left ∙ sym after) (subst AllSuit (sym slots) (subst AllSuit out.1 h.right.suit).1)
  where
    hand_first : (free : Option (List ℕ)) (hand : Option Hand) → free ≡ None → is_hand_of place hand ≡ 1
        → tail_of (free_number free ++ hand_number hand ++ expected_number me.0.expected) ≡ expected_number me.0.expected
    hand_first (Some list) hand none e = absurd (none-some list (sym none))
    hand_first None None none e = absurd (omega (arith, e))
    hand_first None (Some x) none e = refl
