-- A check of a history, as far as it has come: what it has seen is a legal history, and its table is the state after it.
use Rattle.std.proofs.Common.{◌≡◌, ℕ, ◌+◌, ◌<◌, ◌≤◌, zero, suc, Bool, true, false, List, [], ◌∷◌, length, take, refl, sym, ap, subst, ◌∙◌, Some, arith, zero-add}
use Rattle.std.specs.List.{slice_get}
use Rattle.std.specs.Prelude.{◌==◌, ◌&&◌, not}
use Rattle.std.proofs.lemmas.Bool.{and_from, and_parts, eq-eqb, eqb-true, false≢true, not-false}
use Rattle.std.proofs.lemmas.List.{take_all}
use Rattle.std.proofs.lemmas.Option.{slice_get_within}
use Rattle.history_book.specs.Checked.{IsBrokenAt, IsFirstBroken, IsLegalHistory, TwoSizesDecide, is_broken_at, sizes_with}
use Rattle.history_book.specs.declared.event.Event.{Event}
use Rattle.history_book.specs.declared.event.Event.TheVariants.{Confirm, Touch, Destroy, Expect, Claim, Unexpect}
use Rattle.history_book.specs.declared.event.Numbered.{Numbered}
use Rattle.history_book.specs.declared.sizes.Sizes.{Sizes}
use Rattle.history_book.specs.History.{after, is_legal, is_legal_from, run}
use Rattle.history_book.specs.Legality.{may_happen}
use Rattle.history_book.specs.Numbered.{IsNumberedFrom, events_of}
use Rattle.history_book.specs.State.{State, empty_state, next}
use Rattle.history_book.proofs.Gone.{places_after}
use Rattle.history_book.proofs.Room.{no_more_than}
use Rattle.history_book.proofs.Sound.{sound_after}

-- the first items are a legal history, which leaves this state
pub record IsSoundTo (sizes : Sizes) (items : List Numbered) (index : ℕ) (s : State) : Type 0 where
  pub leaves : s ≡ after (events_of items) index
  pub front : IsLegalHistory sizes (take index items)

pub sound_start : (sizes : Sizes) (items : List Numbered) → IsSoundTo sizes items 0 empty_state
unfolding is_legal after
sound_start sizes items = record { leaves = refl; front = record { numbers = tt; events = refl } }

run_more : (s : State) (items : List Numbered) (i : ℕ) (item : Numbered) → slice_get items i ≡ Some item
    → run s (take (suc i) (events_of items)) ≡ next (run s (take i (events_of items))) item.event
run_more s [] i item at = cc
run_more s (x ∷ xs) zero item at =
    let same : x ≡ item = cc in ap (λ (y : Numbered). next s y.event) same
run_more s (x ∷ xs) (suc i) item at = run_more (next s x.event) xs i item at

numbered_more : (n i : ℕ) (items : List Numbered) (item : Numbered) → IsNumberedFrom n (take i items) → slice_get items i ≡ Some item
    → item.number ≡ n + i → IsNumberedFrom n (take (suc i) items)
numbered_more n i [] item h at is = cc
numbered_more n zero (x ∷ xs) item h at is =
    let same : x ≡ item = cc in
    let number : x.number ≡ item.number = ap (λ (y : Numbered). y.number) same in
    (omega (arith, number, is), tt)
numbered_more n (suc i) (x ∷ xs) item (here, h) at is = (here, numbered_more (n + 1) i xs item h at (omega (arith, is)))

legal_more : (sizes : Sizes) (n i : ℕ) (s : State) (items : List Numbered) (item : Numbered)
    → is_legal_from sizes s n (events_of (take i items)) ≡ true → slice_get items i ≡ Some item
    → may_happen sizes (run s (take i (events_of items))) (n + i) item.event ≡ true
    → is_legal_from sizes s n (events_of (take (suc i) items)) ≡ true
legal_more sizes n i s [] item legal at may = cc
legal_more sizes n zero s (x ∷ xs) item legal at may =
    let same : item ≡ x = cc in
    let here : n + 0 ≡ n = omega arith in
    and_from _ true
    (subst (λ k. may_happen sizes s k x.event ≡ true) here
    (subst (λ (y : Numbered). may_happen sizes s (n + 0) y.event ≡ true) same may)) refl
legal_more sizes n (suc i) s (x ∷ xs) item legal at may =
    let parts = and_parts (may_happen sizes s n x.event) (is_legal_from sizes (next s x.event) (n + 1) (events_of (take i xs))) legal in
    let here : n + suc i ≡ n + 1 + i = omega arith in
    and_from _ _ parts.0
    (legal_more sizes (n + 1) i (next s x.event) xs item parts.1 at
    (subst (λ k. may_happen sizes (run (next s x.event) (take i (events_of xs))) k item.event ≡ true) here may))

-- one item more
pub sound_more : (sizes : Sizes) (items : List Numbered) (i : ℕ) (s t : State) (item : Numbered) → IsSoundTo sizes items i s
    → slice_get items i ≡ Some item → not (item.number == i && may_happen sizes s i item.event) ≡ false → t ≡ next s item.event
    → IsSoundTo sizes items (i + 1) t
unfolding is_legal after
sound_more sizes items i s t item h at sound is =
    let good : (item.number == i && may_happen sizes s i item.event) ≡ true = not-false _ sound in
    let parts = and_parts (item.number == i) (may_happen sizes s i item.event) good in
    let one_more : suc i ≡ i + 1 = omega arith in
    let may : may_happen sizes (after (events_of items) i) (0 + i) item.event ≡ true =
    subst (λ k. may_happen sizes (after (events_of items) i) k item.event ≡ true) (sym (zero-add i))
    (subst (λ (x : State). may_happen sizes x i item.event ≡ true) h.leaves parts.1) in
    let leaves_next : t ≡ after (events_of items) (suc i) =
    is ∙ ap (λ (x : State). next x item.event) h.leaves ∙ sym (run_more empty_state items i item at) in
    let front_next : IsLegalHistory sizes (take (suc i) items) = record {
      numbers = numbered_more 0 i items item h.front.numbers at (omega (arith, eqb-true item.number i parts.0));
      events = legal_more sizes 0 i empty_state items item h.front.events at may;
    } in
    record {
      leaves = subst (λ k. t ≡ after (events_of items) k) one_more leaves_next;
      front = subst (λ k. IsLegalHistory sizes (take k items)) one_more front_next;
    }

numbered_before : (n i k : ℕ) (items : List Numbered) (item : Numbered) → IsNumberedFrom n (take i items) → k < i
    → slice_get items k ≡ Some item → item.number ≡ n + k
numbered_before n i k [] item h low at = cc
numbered_before n zero k (x ∷ xs) item h low at = absurd (omega (arith, low))
numbered_before n (suc i) zero (x ∷ xs) item (here, h) low at =
    let same : item ≡ x = cc in
    let number : item.number ≡ x.number = ap (λ (y : Numbered). y.number) same in omega (arith, number, here)
numbered_before n (suc i) (suc k) (x ∷ xs) item (here, h) low at =
    let later : item.number ≡ n + 1 + k = numbered_before (n + 1) i k xs item h (omega (arith, low)) at in omega (arith, later)

may_before : (sizes : Sizes) (n i k : ℕ) (s : State) (items : List Numbered) (item : Numbered)
    → is_legal_from sizes s n (events_of (take i items)) ≡ true → k < i → slice_get items k ≡ Some item
    → may_happen sizes (run s (take k (events_of items))) (n + k) item.event ≡ true
may_before sizes n i k s [] item legal low at = cc
may_before sizes n zero k s (x ∷ xs) item legal low at = absurd (omega (arith, low))
may_before sizes n (suc i) zero s (x ∷ xs) item legal low at =
    let parts = and_parts (may_happen sizes s n x.event) (is_legal_from sizes (next s x.event) (n + 1) (events_of (take i xs))) legal in
    let same : x ≡ item = cc in
    let here : n ≡ n + 0 = omega arith in
    subst (λ k. may_happen sizes s k item.event ≡ true) here
    (subst (λ (y : Numbered). may_happen sizes s n y.event ≡ true) same parts.0)
may_before sizes n (suc i) (suc k) s (x ∷ xs) item legal low at =
    let parts = and_parts (may_happen sizes s n x.event) (is_legal_from sizes (next s x.event) (n + 1) (events_of (take i xs))) legal in
    let here : n + 1 + k ≡ n + suc k = omega arith in
    subst (λ m. may_happen sizes (run (next s x.event) (take k (events_of xs))) m item.event ≡ true) here
    (may_before sizes (n + 1) i k (next s x.event) xs item parts.1 (omega (arith, low)) at)

-- no item of a legal history is broken
pub none_broken : (sizes : Sizes) (items : List Numbered) (i k : ℕ) → IsLegalHistory sizes (take i items) → k < i
    → ¬ IsBrokenAt sizes items k
unfolding is_legal after
none_broken sizes items i k h low bad =
    let number : bad.item.number ≡ k =
    numbered_before 0 i k items bad.item h.numbers low bad.stands ∙ zero-add k in
    let may : may_happen sizes (after (events_of items) k) k bad.item.event ≡ true =
    subst (λ m. may_happen sizes (after (events_of items) k) m bad.item.event ≡ true) (zero-add k)
    (may_before sizes 0 i k empty_state items bad.item h.events low bad.stands) in
    let good : (bad.item.number == k && may_happen sizes (after (events_of items) k) k bad.item.event) ≡ true =
    and_from _ _ (eq-eqb bad.item.number k number) may in
    false≢true (sym (ap not good) ∙ bad.broken)

pub first_broken : (sizes : Sizes) (items : List Numbered) (i : ℕ) (s : State) (item : Numbered) → IsSoundTo sizes items i s
    → slice_get items i ≡ Some item → not (item.number == i && may_happen sizes s i item.event) ≡ true
    → IsFirstBroken sizes items i
first_broken sizes items i s item h at bad = record {
  here = record {
    item = item;
    stands = at;
    broken = subst (λ (x : State). not (item.number == i && may_happen sizes x i item.event) ≡ true) h.leaves bad;
  };
  before = λ k low. none_broken sizes items i k h.front low;
}

-- the same where the sizes are those that a call answered
pub sound_on : (sizes z : Sizes) (items : List Numbered) (i : ℕ) (item : Numbered) (b : Bool) (s t : State) → z ≡ sizes
    → IsSoundTo sizes items i s → slice_get items i ≡ Some item
    → b ≡ not (item.number == i && may_happen z s i item.event) → b ≡ false
    → t ≡ next s item.event → IsSoundTo sizes items (i + 1) t
sound_on sizes z items i item b s t same h at tells is_false is =
    let test : not (item.number == i && may_happen sizes s i item.event) ≡ false =
    subst (λ (x : Sizes). not (item.number == i && may_happen x s i item.event) ≡ false) same (sym tells ∙ is_false) in
    sound_more sizes items i s t item h at test is

pub broken_here : (sizes z : Sizes) (items : List Numbered) (i : ℕ) (item : Numbered) (b : Bool) (s : State) → z ≡ sizes
    → IsSoundTo sizes items i s → slice_get items i ≡ Some item
    → b ≡ not (item.number == i && may_happen z s i item.event) → b ≡ true
    → IsFirstBroken sizes items i
broken_here sizes z items i item b s same h at tells is_true =
    let test : not (item.number == i && may_happen sizes s i item.event) ≡ true =
    subst (λ (x : Sizes). not (item.number == i && may_happen x s i item.event) ≡ true) same (sym tells ∙ is_true) in
    first_broken sizes items i s item h at test

pub legal_unbroken : (sizes : Sizes) (items : List Numbered) → IsLegalHistory sizes items → (k : ℕ) → ¬ IsBrokenAt sizes items k
legal_unbroken sizes items h k bad =
    let whole : items ≡ take (length items) items = sym (take_all (length items) items (omega arith)) in
    none_broken sizes items (length items) k (subst (λ (l : List Numbered). IsLegalHistory sizes l) whole h)
    (slice_get_within items k bad.item bad.stands) bad

-- the whole is legal once each item was seen
pub whole_legal : (sizes : Sizes) (items : List Numbered) (i : ℕ) (s : State) → IsSoundTo sizes items i s → length items ≤ i
    → IsLegalHistory sizes items
whole_legal sizes items i s h all =
    subst (λ (l : List Numbered). IsLegalHistory sizes l) (take_all i items all) h.front

-- the item at an index
pub there : {X : Type 0} (items : List X) (i : ℕ) → i < length items → (item : X) × (slice_get items i ≡ Some item)
there [] i low = absurd (omega (arith, low))
there (x ∷ xs) zero low = (x, refl)
there (x ∷ xs) (suc i) low = there xs i (omega (arith, low))

false_from_ne_true : (b : Bool) → ¬ (b ≡ true) → b ≡ false
false_from_ne_true true h = absurd (h refl)
false_from_ne_true false h = refl

-- where no item is broken, the first ones are a legal history, however many
unbroken_to : (sizes : Sizes) (items : List Numbered) → ((k : ℕ) → ¬ IsBrokenAt sizes items k) → (i : ℕ) → i ≤ length items
    → IsSoundTo sizes items i (after (events_of items) i)
unfolding is_legal after
unbroken_to sizes items none zero le = record { leaves = refl; front = record { numbers = tt; events = refl } }
unbroken_to sizes items none (suc i) le =
    let found = there items i (omega (arith, le)) in
    let good : is_broken_at sizes (events_of items) i found.0 ≡ false =
    false_from_ne_true _ (λ bad. none i (record { item = found.0; stands = found.1; broken = bad })) in
    let more : i + 1 ≡ suc i = omega arith in
    subst (λ k. IsSoundTo sizes items k (after (events_of items) (suc i))) more
    (sound_more sizes items i (after (events_of items) i) (after (events_of items) (suc i)) found.0
    (unbroken_to sizes items none i (omega (arith, le))) found.1 good (run_more empty_state items i found.0 found.1))

pub unbroken_legal : (sizes : Sizes) (items : List Numbered) → ((k : ℕ) → ¬ IsBrokenAt sizes items k) → IsLegalHistory sizes items
unbroken_legal sizes items none =
    whole_legal sizes items (length items) (after (events_of items) (length items))
    (unbroken_to sizes items none (length items) (omega arith)) (omega arith)

-- no more records than places
pub few_live : (sizes : Sizes) (items : List Numbered) (i : ℕ) (s : State) → IsSoundTo sizes items i s → length items ≤ i
    → length s.records ≤ sizes.entries
few_live sizes items i s h all =
    let legal : is_legal sizes (events_of items) ≡ true = (whole_legal sizes items i s h all).events in
    subst (λ (x : State). length x.records ≤ sizes.entries) (sym h.leaves)
    (no_more_than sizes.entries (after (events_of items) i).records (places_after sizes (events_of items) i legal)
    (sound_after sizes i (events_of items) legal).apart)

may_happen-sizes : (sizes : Sizes) (s : State) (n : ℕ) (e : Event)
    → may_happen (sizes_with sizes.entries sizes.expectations) s n e ≡ may_happen sizes s n e
may_happen-sizes sizes s n (Confirm r) = refl
may_happen-sizes sizes s n (Touch id direction segment moment after) = refl
may_happen-sizes sizes s n (Destroy id why) = refl
may_happen-sizes sizes s n (Expect expectation replaced moment) = refl
may_happen-sizes sizes s n (Claim expectation master tuple moment) = refl
may_happen-sizes sizes s n (Unexpect expectation moment) = refl

legal_from-sizes : (sizes : Sizes) (s : State) (n : ℕ) (log : List Event)
    → is_legal_from (sizes_with sizes.entries sizes.expectations) s n log ≡ is_legal_from sizes s n log
legal_from-sizes sizes s n [] = refl
legal_from-sizes sizes s n (e ∷ es) =
    ap (λ b. b && is_legal_from (sizes_with sizes.entries sizes.expectations) (next s e) (n + 1) es) (may_happen-sizes sizes s n e)
    ∙ ap (λ b. may_happen sizes s n e && b) (legal_from-sizes sizes (next s e) (n + 1) es)

pub legal-sizes : TwoSizesDecide
unfolding is_legal
legal-sizes sizes log = legal_from-sizes sizes empty_state 0 log
