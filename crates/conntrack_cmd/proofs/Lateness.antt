-- Expectations that end.
use Rattle.std.proofs.Common.{◌≡◌, ℕ, suc, zero, ◌+◌, ◌<◌, ◌≤◌, Bool, true, false, cond, List, [], ◌∷◌, ◌++◌, length, refl, sym, ap, subst, ◌∙◌, Option, Some, None, arith, append_assoc, length-append}
use Rattle.std.specs.List.{All, AllByRecursion, filter, find, slice_get}
use Rattle.std.specs.Prelude.{nat_lt, not}
use Rattle.std.proofs.lemmas.Bool.{eqb-true, eqb-false}
use Rattle.std.proofs.lemmas.List.{append-nil}
use Rattle.std.proofs.lemmas.List.Elements.{recursion_from_All}
use Rattle.expect_table.specs.Expectations.{without_id}
use Rattle.expect_table.specs.Match.{has_id, is_awaited}
use Rattle.expect_table.specs.declared.expectation.Expectation.{Expectation}
use Rattle.history_book.specs.declared.event.Event.{Event}
use Rattle.history_book.specs.declared.event.Event.TheVariants.{Expect, Unexpect}
use Rattle.history_book.specs.declared.event.Note.{Note}
use Rattle.history_book.specs.declared.sizes.Sizes.{Sizes}
use Rattle.history_book.specs.SightLaws.{GoingOnAddsUp}
use Rattle.history_book.specs.WentOn.{Looked, MadeEvent, Saw}
use Rattle.history_book.specs.DeskExpectations.{IsDueUntil}
use Rattle.history_book.specs.History.{after, is_legal}
use Rattle.history_book.specs.Laws.{EventsStay, ExpectationsAreExpected, IsExpected, StatesFollow, StatesStay}
use Rattle.history_book.specs.Notes.{Happened}
use Rattle.history_book.specs.Places.{HoldsNothing}
use Rattle.history_book.specs.Point.{StartsWith}
use Rattle.history_book.specs.Sight.{IsKnown, Sight}
use Rattle.history_book.specs.State.{State, next}
use Rattle.conntrack_cmd.specs.Answer.{IsUnexpectAt}
use Rattle.conntrack_cmd.specs.Internal.Late.{IsEnding, IsOver, IsOverWhereLate}
use Rattle.conntrack_cmd.specs.Internal.Loops.{MadeNotes}
use Rattle.conntrack_cmd.proofs.Ends.{found_one}
use Rattle.conntrack_cmd.proofs.Growth.{happened_grows}
use Rattle.conntrack_cmd.proofs.Fronts.{found_has, starts_longer}
use Rattle.conntrack_cmd.proofs.Sweeps.{each_map, each_push}

-- what stands at an index, with what stands before it and after it
record Split {X : Type 0} (xs : List X) (i : ℕ) (x : X) : Type 0 where
  front : List X
  rest : List X
  is : xs ≡ (front ++ x ∷ []) ++ rest
  long : length front ≡ i

split_at : {X : Type 0} (xs : List X) (i : ℕ) (x : X) → slice_get xs i ≡ Some x → Split xs i x
split_at [] i x h = cc
split_at (y ∷ ys) zero x h = record { front = []; rest = ys; is = ap (λ z. z ∷ ys) (first y x h); long = refl }
  where
    first : {X : Type 0} (y x : X) → Some y ≡ Some x → y ≡ x
    first y x h = cc
split_at (y ∷ ys) (suc i) x h =
    let s = split_at ys i x h in
    record { front = y ∷ s.front; rest = s.rest; is = ap (λ l. y ∷ l) s.is; long = omega (arith, s.long) }

-- the state after an event is the next of the state before it
next_state : StatesFollow → StatesStay → (log : List Event) (n : ℕ) (e : Event) → slice_get log n ≡ Some e
    → after log (n + 1) ≡ next (after log n) e
next_state follow stay log n e h =
    let s = split_at log n e h in
    let longer : List Event = s.front ++ e ∷ [] in
    let long : length longer ≡ n + 1 = length-append s.front (e ∷ []) ∙ ap (λ k. k + 1) s.long in
    (stay log longer (n + 1) (s.rest, s.is) (omega (arith, long))).1
    ∙ ap (λ k. after longer (k + 1)) (sym s.long)
    ∙ follow s.front e
    ∙ ap (λ t. next t e) (ap (after s.front) s.long ∙ sym (stay log s.front n (e ∷ s.rest, s.is ∙ append_assoc s.front (e ∷ []) s.rest) (omega (arith, s.long))).1)

none_without : (id : ℕ) (es : List Expectation) → find (has_id id) (without_id id es) ≡ None
none_without id [] = refl
none_without id (e ∷ es) = by_id (has_id id e) refl (none_without id es)
  where
    by_id : (b : Bool) → has_id id e ≡ b → find (has_id id) (without_id id es) ≡ None
        → find (has_id id) (cond (not b) (e ∷ filter (λ x. not (has_id id x)) es) (filter (λ x. not (has_id id x)) es)) ≡ None
    by_id true is rest = rest
    by_id false is rest = ap (λ b. cond b (Some e) (find (has_id id) (without_id id es))) is ∙ rest

pub all_at : {X : Type 0} (P : X → Type 0) (xs : List X) (k : ℕ) (x : X) → AllByRecursion P xs → slice_get xs k ≡ Some x → P x
all_at P [] k x h e = cc
all_at P (y ∷ ys) zero x (h, hs) e = subst P (first y x e) h
  where
    first : {X : Type 0} (y x : X) → Some y ≡ Some x → y ≡ x
    first y x h = cc
all_at P (y ∷ ys) (suc k) x (h, hs) e = all_at P ys k x hs e

-- expectations of one id are one
pub same_expectation : (log : List Event) (d e : Expectation) → IsExpected log d → IsExpected log e → d.id ≡ e.id → d ≡ e
same_expectation log d e one other same =
    expect_same d e one.replaced other.replaced one.moment other.moment (sym one.event ∙ ap (slice_get log) same ∙ other.event)
  where
    expect_same : (d e : Expectation) (a b : Option ℕ) (m n : ℕ) → Some (Expect d a m) ≡ Some (Expect e b n) → d ≡ e
    expect_same d e a b m n h = cc

pub expected_at : ExpectationsAreExpected → (sizes : Sizes) (log : List Event) → is_legal sizes log ≡ true → (p id : ℕ) (e : Expectation)
    → find (has_id id) (after log p).expects ≡ Some e → IsExpected log e × (e.id ≡ id)
expected_at expected sizes log legal p id e found = (
  found_one (IsExpected log) (has_id id) (after log p).expects e
      (recursion_from_All (IsExpected log) (after log p).expects (expected sizes log p legal)) found,
  eqb-true e.id id (found_has (has_id id) (after log p).expects e found),
)

module _ (going : GoingOnAddsUp) (states : StatesStay) (events : EventsStay) where
  pub expected_grows : (longer log : List Event) (e : Expectation) → StartsWith longer log → IsExpected log e → IsExpected longer e
  expected_grows longer log e starts h = record { replaced = h.replaced; moment = h.moment; event = events longer log _ _ starts h.event }

  -- an expectation that ended is over at the point after the event
  pub over_removed : StatesFollow → (old new : Sight) (moment number id : ℕ) → MadeEvent old new number (Unexpect id moment)
      → IsOver new.front (length old.front) (length new.front) id
  over_removed follow old new moment number id made = record {
    at = number + 1;
    low = omega (arith, made.low);
    high = omega (arith, made.high);
    none = ap (λ (s : State). find (has_id id) s.expects) (next_state follow states new.front number (Unexpect id moment) made.happened)
        ∙ none_without id (after new.front number).expects;
  }

  -- an expectation that is still due is not late
  pub due_not_late : ExpectationsAreExpected → (old new : Sight) (moment deadline at : ℕ) (e : Expectation) → IsKnown new
      → IsExpected old.front e → Looked old new at (IsDueUntil e.id deadline) → moment < deadline → is_awaited moment e ≡ false → ⊥
  due_not_late expected old new moment deadline at e known is looked due late =
      let d : Expectation = looked.fact.fact.subject in
      let there = expected_at expected new.sizes new.front known.legal at e.id d looked.fact.fact.is in
      let same : d ≡ e = same_expectation new.front d e there.0 (expected_grows new.front old.front e looked.saw.went.front is) there.1 in
      not_both moment e.deadline
      (omega (arith, due, looked.fact.fact.ends, ap (λ (x : Expectation). x.deadline) same)) late
    where
      not_both : (m n : ℕ) → m < n → nat_lt m n ≡ false → ⊥
      not_both m n lt is = omega (arith, lt, Rattle.std.proofs.lemmas.Bool.ltb-false m n is)

  happened_wider : (longer log : List Event) (from : ℕ) (notes : List Note) → StartsWith longer log
      → AllByRecursion (λ n. Happened log from n × (n.number < length log)) notes
      → AllByRecursion (λ n. Happened longer from n × (n.number < length longer)) notes
  happened_wider longer log from notes starts h =
      each_map (λ (n : Note). Happened longer from n × (n.number < length log)) (λ (n : Note). Happened longer from n × (n.number < length longer)) notes
      (λ n f. (f.0, omega (arith, f.1, starts_longer longer log starts)))
      (happened_grows events states longer log starts from (length log) notes h)

  -- no event more
  pub made_saw : (a b c : Sight) (notes : List Note) → MadeNotes a b notes → Saw b c → MadeNotes a c notes
  made_saw a b c notes m saw = record {
    went = going.before a b c notes m.went saw;
    taken = saw.taken ∙ m.taken;
    happened = happened_wider c.front b.front (length a.front) notes saw.went.front m.happened;
  }

  -- one event more
  made_event : (a b c : Sight) (notes : List Note) → MadeNotes a b notes → (number : ℕ) (e : Event) → MadeEvent b c number e
      → MadeNotes a c (notes ++ record { number = number; event = e } ∷ [])
  made_event a b c notes m number e made = record {
    went = going.twice a b c notes (record { number = number; event = e } ∷ []) m.went made.went;
    taken = made.taken ∙ m.taken;
    happened = each_push (λ (n : Note). Happened c.front (length a.front) n × (n.number < length c.front)) notes
        (record { number = number; event = e }) (happened_wider c.front b.front (length a.front) notes made.went.front m.happened)
        (record { event = made.happened; later = omega (arith, made.low, starts_longer b.front a.front m.went.front) }, made.high);
  }

  pub over_grows : (longer log : List Event) (from to first last id : ℕ) → StartsWith longer log → first ≤ from → to ≤ last → to ≤ length log
      → IsOver log from to id → IsOver longer first last id
  over_grows longer log from to first last id starts low high within o = record {
    at = o.at;
    low = omega (arith, low, o.low);
    high = omega (arith, high, o.high);
    none = ap (λ (s : State). find (has_id id) s.expects) (states longer log o.at starts (omega (arith, o.high, within))).1 ∙ o.none;
  }

  module _ (moment : ℕ) (old now new : Sight) (listed : List Expectation) (count : ℕ) (e : Expectation) (at : slice_get listed count ≡ Some e)
      (over : IsOverWhereLate new.front moment (length now.front) (length new.front) e) (empty : HoldsNothing new) (known : IsKnown new) where
    over_more : StartsWith now.front old.front → StartsWith new.front now.front
        → ((k : ℕ) (d : Expectation) → k < count → slice_get listed k ≡ Some d
        → IsOverWhereLate now.front moment (length old.front) (length now.front) d)
        → (k : ℕ) (d : Expectation) → k < count + 1 → slice_get listed k ≡ Some d
        → IsOverWhereLate new.front moment (length old.front) (length new.front) d
    over_more first then earlier k d below there late = by_index (Rattle.std.specs.Prelude.◌==◌ k count) refl
      where
        first_longer : length old.front ≤ length now.front
        first_longer = starts_longer now.front old.front first

        then_longer : length now.front ≤ length new.front
        then_longer = starts_longer new.front now.front then

        some_same : Some e ≡ Some d → e ≡ d
        some_same h = cc

        by_index : (b : Bool) → Rattle.std.specs.Prelude.◌==◌ k count ≡ b → IsOver new.front (length old.front) (length new.front) d.id
        by_index true is =
            let same : e ≡ d = some_same (sym at ∙ ap (slice_get listed) (sym (eqb-true k count is)) ∙ there) in
            over_grows new.front new.front (length now.front) (length new.front) (length old.front) (length new.front) d.id
            ([], sym (append-nil new.front)) first_longer (omega arith) (omega arith)
            (subst (λ (x : Expectation). IsOverWhereLate new.front moment (length now.front) (length new.front) x) same over late)
        by_index false is =
            over_grows new.front now.front (length old.front) (length now.front) (length old.front) (length new.front) d.id then
            (omega arith) then_longer (omega arith) (earlier k d (omega (arith, below, eqb-false k count is)) there late)

    pub ending_same : (ended : ℕ) → IsEnding moment old now listed count ended → Saw now new → IsEnding moment old new listed (count + 1) ended
    ending_same ended n saw = record {
      notes = n.notes;
      made = made_saw old now new n.notes n.made saw;
      exact = n.exact;
      few = omega (arith, n.few);
      each = n.each;
      over = over_more n.made.went.front saw.went.front n.over;
      empty = empty;
      known = known;
    }

    pub ending_more : (ended number : ℕ) → IsEnding moment old now listed count ended → MadeEvent now new number (Unexpect e.id moment)
        → IsEnding moment old new listed (count + 1) (ended + 1)
    ending_more ended number n made = record {
      notes = n.notes ++ record { number = number; event = Unexpect e.id moment } ∷ [];
      made = made_event old now new n.notes n.made number (Unexpect e.id moment) made;
      exact = ap (λ k. k + 1) n.exact ∙ sym (length-append n.notes (record { number = number; event = Unexpect e.id moment } ∷ []));
      few = omega (arith, n.few);
      each = each_push (IsUnexpectAt moment) n.notes (record { number = number; event = Unexpect e.id moment }) n.each (e.id, refl);
      over = over_more n.made.went.front made.went.front n.over;
      empty = empty;
      known = known;
    }

-- before the first expectation
pub ending_start : GoingOnAddsUp → (moment : ℕ) (s : Sight) (listed : List Expectation) → HoldsNothing s → IsKnown s → IsEnding moment s s listed 0 0
ending_start going moment s listed empty known = record {
  notes = [];
  made = record { went = (going.resting s).went; taken = refl; happened = tt };
  exact = refl;
  few = omega arith;
  each = tt;
  over = λ k e below there late. absurd (below_none k below);
  empty = empty;
  known = known;
}
  where
    below_none : (k : ℕ) → k < 0 → ⊥
    below_none k h = omega (arith, h)
