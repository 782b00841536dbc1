-- What a call in its turn tells the pass: what it would tell one pass that kept everything, as far as it is this pass's.
use Rattle.std.proofs.Common.{◌≡◌, ℕ, ◌+◌, ◌-◌, ◌*◌, ◌≤◌, true, false, not, List, [], ◌∷◌, ◌++◌, length, refl, sym, ap, subst, ◌∙◌, ⊎_elim, arith, Option, Some, None, append-nil, length-append}
use Rattle.std.specs.List.{slice_get}
use Rattle.std.specs.Prelude.{◌||◌, ◌==◌}
use Rattle.std.proofs.lemmas.Bool.{false≢true, or_cases, or_from, or_left, or_parts, or_right}
use Rattle.expect_table.specs.declared.expectation.Want.{Want}
use Rattle.tuple_core.specs.declared.Direction.{Direction}
use Rattle.tuple_core.specs.declared.Segment.{Segment}
use Rattle.tuple_core.specs.declared.Tuple.{Tuple}
use Rattle.history_book.specs.declared.event.Event.{Event}
use Rattle.history_book.specs.declared.event.Event.TheVariants.{Expect}
use Rattle.history_book.specs.declared.event.Note.{Note}
use Rattle.history_book.specs.declared.event.Why.{Why}
use Rattle.history_book.specs.declared.outcome.ClaimOutcome.{ClaimOutcome}
use Rattle.history_book.specs.declared.outcome.ClaimOutcome.TheVariants as claim
use Rattle.history_book.specs.declared.outcome.ConfirmOutcome.{ConfirmOutcome}
use Rattle.history_book.specs.declared.outcome.ConfirmOutcome.TheVariants as confirm
use Rattle.history_book.specs.declared.outcome.ExpectOutcome.{ExpectOutcome}
use Rattle.history_book.specs.declared.outcome.ExpectOutcome.TheVariants as expect
use Rattle.history_book.specs.declared.outcome.FindOutcome.{FindOutcome}
use Rattle.history_book.specs.declared.outcome.FindOutcome.TheVariants as find
use Rattle.history_book.specs.declared.outcome.HoldOutcome.{HoldOutcome}
use Rattle.history_book.specs.declared.outcome.HoldOutcome.TheVariants as hold
use Rattle.history_book.specs.declared.outcome.KillOutcome.{KillOutcome}
use Rattle.history_book.specs.declared.outcome.KillOutcome.TheVariants as kill
use Rattle.history_book.specs.declared.outcome.PeekOutcome.{PeekOutcome}
use Rattle.history_book.specs.declared.outcome.PeekOutcome.TheVariants as peek
use Rattle.history_book.specs.declared.outcome.ReleaseOutcome.{ReleaseOutcome}
use Rattle.history_book.specs.declared.outcome.ReleaseOutcome.TheVariants as release
use Rattle.history_book.specs.declared.outcome.TakeOutcome.{TakeOutcome}
use Rattle.history_book.specs.declared.outcome.TakeOutcome.TheVariants as take
use Rattle.history_book.specs.declared.outcome.TouchOutcome.{TouchOutcome}
use Rattle.history_book.specs.declared.outcome.TouchOutcome.TheVariants as touch
use Rattle.history_book.specs.declared.outcome.UnexpectOutcome.{UnexpectOutcome}
use Rattle.history_book.specs.declared.outcome.UnexpectOutcome.TheVariants as unexpect
use Rattle.history_book.specs.declared.record.Flow.{Flow}
use Rattle.history_book.specs.declared.sizes.Sizes.{Sizes}
use Rattle.history_book.specs.Desk.{ConfirmSays, Destroys, FindSays, HoldSays, IsRecord, KillSays, PeekSays, RecycleSays, ReleaseSays, SamePlaces, StepGives, TakeSays, TouchSays, Touches, is_in_use}
use Rattle.history_book.specs.DeskExpectations.{AddGives, ClaimSays, ExpectSays, ListsExpected, UnexpectSays, expectation_at}
use Rattle.expect_table.specs.declared.expectation.Expectation.{Expectation}
use Rattle.proto_rules.specs.declared.Outcome.TheVariants as outcome
use Rattle.expect_table.specs.declared.table.AddOutcome.{AddOutcome}
use Rattle.expect_table.specs.declared.table.AddOutcome.TheVariants as add
use Rattle.history_book.specs.Entry.{confirmed_by, is_helped_entry, zone_of, zone_of_entry}
use Rattle.history_book.specs.Legality.{has_helper}
use Rattle.history_book.specs.Held.{held_id, is_at, is_held, is_owed}
use Rattle.history_book.specs.History.{after}
use Rattle.history_book.specs.Point.{StartsWith}
use Rattle.history_book.specs.Sight.{Sight}
use Rattle.history_book.specs.State.{State, is_unused, record_of}
use Rattle.history_book.specs.WentOn.{IsSamePass, Looked, MadeEvent, Saw}
use Rattle.book_desk.specs.declared.book.Book.{Book}
use Rattle.book_desk.specs.declared.turn.change.PlaceChange.{PlaceChange}
use Rattle.book_desk.specs.declared.turn.change.PlaceChange.TheVariants.{Same, Holds, Names, Releases, Owes, Pays}
use Rattle.book_desk.specs.declared.turn.view.TurnView.{TurnView}
use Rattle.book_desk.specs.Made.{with_made, noted}
use Rattle.book_desk.specs.Internal.Book.{counted, sight_in, spare_before}
use Rattle.book_desk.specs.Internal.Seated.{pass_sight}
use Rattle.book_desk.specs.Turn.Change.{confirmed_change, found_change, held_after, held_change, owed_after, released_change, taken_change}
use Rattle.book_desk.specs.Turn.Steps.{HasTurn, ended, turned}
use Rattle.book_desk.specs.Turn.Sums.{total}
use Rattle.book_desk.proofs.Histories.{get_append, get_last}
use Rattle.book_desk.proofs.Passes.Among.{Among, any_among, held_id_among, none_among}
use Rattle.book_desk.proofs.Passes.Ended.{starts_on}

-- an entry with the helper, which was confirmed then, is in its zone as the history goes on
zone_on : (log front : List Event) (id : ℕ) → StartsWith log front → is_helped_entry id front ≡ true → zone_of_entry id front ≡ zone_of_entry id log
zone_on log front id (rest, same) helped = by_event (slice_get front id) refl helped
  where
    by_event : (o : Option Event) → slice_get front id ≡ o → has_helper (confirmed_by o) ≡ true → zone_of_entry id front ≡ zone_of_entry id log
    by_event None at none = absurd (false≢true none)
    by_event (Some e) at has =
        ap (λ (x : Option Event). zone_of (confirmed_by x)) (at ∙ sym (ap (λ l. slice_get l id) same ∙ get_append front rest id e at))

-- the pass before and after, and one pass that kept everything before and after
module _ (tracker : List ℕ) (v : TurnView) (log : List Event) (b b' : Book) (made : Option Event) (notes : List Note) (less : ℕ) (has : HasTurn v log b) (taken : ℕ) where
  abbrev pub before : Sight
  before = pass_sight tracker v notes (spare_before less made) taken

  abbrev pub behind : PlaceChange → Sight
  behind c = pass_sight tracker (ended (record { places = c; made = made }) (turned v log b)) (noted notes (length log) made) less taken

  abbrev pub one_before : Sight
  one_before = sight_in log (spare_before less made) taken b

  abbrev pub one_behind : Sight
  one_behind = sight_in (with_made log made) less taken b'

  front_short : length v.front ≤ length log
  front_short = let s = has.all.front in omega (arith, ap length s.1, length-append v.front s.0)

  same_pass : (c : PlaceChange) → IsSamePass before (behind c)
  same_pass c = record { tracker = refl; sizes = refl; shares = refl; returned = refl; gathered = refl }

  seen_on : StartsWith (with_made log made) v.front
  seen_on = starts_on log v.front made has.all.front

-- where one pass made no event, so did this one
saw_too : (tracker : List ℕ) (v : TurnView) (log : List Event) (b b' : Book) (made : Option Event) (notes : List Note) (less : ℕ) (has : HasTurn v log b) (taken : ℕ)
    (c : PlaceChange) → Saw (one_before tracker v log b b' made notes less has taken) (one_behind tracker v log b b' made notes less has taken)
    → (Saw (before tracker v log b b' made notes less has taken) (behind tracker v log b b' made notes less has taken c)) × (made ≡ None)
saw_too tracker v log b b' None notes less has taken c saw = (
  record {
    went = record {
      front = has.all.front;
      own = sym (append-nil notes);
      spare = omega arith;
      pass = same_pass tracker v log b b' None notes less has taken c;
    };
    spare = refl;
    taken = refl;
  },
  refl,
)
saw_too tracker v log b b' (Some e) notes less has taken c saw = absurd (omega (arith, saw.spare))

looked_too : (tracker : List ℕ) (v : TurnView) (log : List Event) (b b' : Book) (made : Option Event) (notes : List Note) (less : ℕ) (has : HasTurn v log b) (taken : ℕ)
    (c : PlaceChange) (at : ℕ) (F : State → Type 0)
    → Looked (one_before tracker v log b b' made notes less has taken) (one_behind tracker v log b b' made notes less has taken) at F
    → Looked (before tracker v log b b' made notes less has taken) (behind tracker v log b b' made notes less has taken c) at F
looked_too tracker v log b b' made notes less has taken c at F l = record {
  saw = (saw_too tracker v log b b' made notes less has taken c l.saw).0;
  low = omega (arith, l.low, front_short tracker v log b b' made notes less has taken);
  fact = l.fact;
}

made_too : (tracker : List ℕ) (v : TurnView) (log : List Event) (b b' : Book) (made : Option Event) (notes : List Note) (less : ℕ) (has : HasTurn v log b) (taken : ℕ)
    (c : PlaceChange) (number : ℕ) (e : Event)
    → MadeEvent (one_before tracker v log b b' made notes less has taken) (one_behind tracker v log b b' made notes less has taken) number e
    → MadeEvent (before tracker v log b b' made notes less has taken) (behind tracker v log b b' made notes less has taken c) number e
made_too tracker v log b b' None notes less has taken c number e m = absurd (omega (arith, m.low, m.high))
made_too tracker v log b b' (Some x) notes less has taken c number e m =
    let here : number ≡ length log = omega (arith, m.low, m.high, length-append log (x ∷ [])) in
    let same : Some x ≡ Some e = sym (get_last log x) ∙ ap (slice_get (log ++ x ∷ [])) (sym here) ∙ m.happened in
    let its : x ≡ e = cc in
    let note : record { number = length log; event = x } ≡ record { number = number; event = e } = λ i. record { number = sym here i; event = its i } in
    record {
      went = record {
        front = seen_on tracker v log b b' (Some x) notes less has taken;
        own = ap (λ (n : Note). notes ++ n ∷ []) note;
        spare = omega arith;
        pass = same_pass tracker v log b b' (Some x) notes less has taken c;
      };
      spare = refl;
      taken = refl;
      low = omega (arith, m.low, front_short tracker v log b b' (Some x) notes less has taken);
      high = m.high;
      happened = m.happened;
    }

-- whether a place is in use, by the three who may use it
in_use : (p : ℕ) (s t : Sight) → s.front ≡ t.front → Among s.held t.held → Among s.owed t.owed → is_in_use p s ≡ true → is_in_use p t ≡ true
in_use p s t front held owed used =
    ⊎_elim
    (λ (e : (not (is_unused p (after s.front (length s.front))) || is_held p s.held) ≡ true).
    or_left _ (is_owed p t.owed)
    (⊎_elim
    (λ (u : not (is_unused p (after s.front (length s.front))) ≡ true).
    or_left _ (is_held p t.held) (subst (λ l. not (is_unused p (after l (length l))) ≡ true) front u))
    (λ (u : is_held p s.held ≡ true). or_right _ (is_held p t.held) (any_among (is_at p) s.held t.held held u))
    (or_cases (not (is_unused p (after s.front (length s.front)))) (is_held p s.held) e)))
    (λ (e : is_owed p s.owed ≡ true). or_right _ (is_owed p t.owed) (any_among (λ q. q == p) s.owed t.owed owed e))
    (or_cases (not (is_unused p (after s.front (length s.front))) || is_held p s.held) (is_owed p s.owed) used)

not_in_use : (p : ℕ) (s t : Sight) → t.front ≡ s.front → Among s.held t.held → Among s.owed t.owed → is_in_use p t ≡ false → is_in_use p s ≡ false
not_in_use p s t front held owed unused =
    let parts = or_parts (not (is_unused p (after t.front (length t.front))) || is_held p t.held) (is_owed p t.owed) unused in
    let two = or_parts (not (is_unused p (after t.front (length t.front)))) (is_held p t.held) parts.0 in
    or_from _ _ (or_from _ _ (subst (λ l. not (is_unused p (after l (length l))) ≡ false) front two.0) (none_among (is_at p) s.held t.held held two.1))
    (none_among (λ q. q == p) s.owed t.owed owed parts.1)

module _ (tracker : List ℕ) (v : TurnView) (log : List Event) (b b' : Book) (notes : List Note) (less : ℕ) (has : HasTurn v log b) (taken : ℕ) where
  abbrev S : Sight
  S = one_before tracker v log b b' None notes less has taken

  abbrev T : Sight
  T = one_behind tracker v log b b' None notes less has taken

  pub find_says : (t : Tuple) (o : FindOutcome) → FindSays t S T o
      → FindSays t (before tracker v log b b' None notes less has taken) (behind tracker v log b b' None notes less has taken (found_change o)) o
  find_says t (find.Found place id direction at) (looked, holds) =
      (looked_too tracker v log b b' None notes less has taken (Holds (record { place = place; id = Some id })) at _ looked, record { held = refl; owed = refl })
  find_says t (find.Absent at) (looked, same) = (looked_too tracker v log b b' None notes less has taken Same at _ looked, record { held = refl; owed = refl })

  pub find_places : (t : Tuple) (o : FindOutcome) → FindSays t S T o
      → (b'.holds.items ≡ held_after (found_change o) b.holds.items) × (b'.owed.items ≡ owed_after (found_change o) b.owed.items)
  find_places t (find.Found place id direction at) (looked, holds) = (holds.held, holds.owed)
  find_places t (find.Absent at) (looked, same) = (same.held, same.owed)

  pub hold_says : (place : ℕ) (o : HoldOutcome) → HoldSays place S T o
      → HoldSays place (before tracker v log b b' None notes less has taken) (behind tracker v log b b' None notes less has taken (held_change place o)) o
  hold_says place (hold.Held id at) (looked, holds) =
      (looked_too tracker v log b b' None notes less has taken (Holds (record { place = place; id = Some id })) at _ looked, record { held = refl; owed = refl })
  hold_says place (hold.Empty at) (looked, same) = (looked_too tracker v log b b' None notes less has taken Same at _ looked, record { held = refl; owed = refl })

  pub hold_places : (place : ℕ) (o : HoldOutcome) → HoldSays place S T o
      → (b'.holds.items ≡ held_after (held_change place o) b.holds.items) × (b'.owed.items ≡ owed_after (held_change place o) b.owed.items)
  hold_places place (hold.Held id at) (looked, holds) = (holds.held, holds.owed)
  hold_places place (hold.Empty at) (looked, same) = (same.held, same.owed)

  pub take_says : (o : TakeOutcome) → TakeSays S (counted o T) o
      → TakeSays (before tracker v log b b' None notes less has taken) (counted o (behind tracker v log b b' None notes less has taken (taken_change o))) o
  take_says (take.Taken place) t = record {
    saw = (saw_too tracker v log b b' None notes less has taken (Holds (record { place = place; id = None })) t.saw).0;
    taken = refl;
    below = omega (arith, t.below, ap (λ (z : Sizes). z.entries) has.sizes);
    unheld = none_among (is_at place) v.held b.holds.items has.held t.unheld;
    unowed = none_among (λ q. q == place) v.owed b.owed.items has.owed t.unowed;
    holds = record { held = refl; owed = refl };
    alone = λ one. t.alone refl;
  }
  take_says (take.Full at) f = record {
    looked = looked_too tracker v log b b' None notes less has taken Same at
        (λ s. v.sizes.entries - 4 * (v.sizes.passes - 1) - (length v.held + length v.owed) ≤ length s.records) (record {
          saw = f.looked.saw;
          low = f.looked.low;
          fact = record {
            within = f.looked.fact.within;
            fact = omega (arith, f.looked.fact.fact, has.crowd, ap (λ (z : Sizes). z.entries) has.sizes);
          };
        });
    same = record { held = refl; owed = refl };
    alone = λ one p low. in_use p T (behind tracker v log b b' None notes less has taken Same) refl
        (λ weight. omega (arith, ap (total weight) f.same.held, has.only_held one weight))
        (λ weight. omega (arith, ap (total weight) f.same.owed, has.only_owed one weight))
        (f.alone refl p (omega (arith, low, ap (λ (z : Sizes). z.entries) has.sizes)));
  }

  pub take_places : (o : TakeOutcome) → TakeSays S (counted o T) o
      → (b'.holds.items ≡ held_after (taken_change o) b.holds.items) × (b'.owed.items ≡ owed_after (taken_change o) b.owed.items)
  take_places (take.Taken place) t = (t.holds.held, t.holds.owed)
  take_places (take.Full at) f = (f.same.held, f.same.owed)

  same_entry : (place : ℕ) → is_held place v.held ≡ true → held_id place b.holds.items ≡ held_id place v.held
  same_entry place there = sym (held_id_among place v.held b.holds.items has.book.references.agreed has.held there)

  pub peek_says : (place : ℕ) (o : PeekOutcome) → is_held place v.held ≡ true → PeekSays place S T o
      → PeekSays place (before tracker v log b b' None notes less has taken) (behind tracker v log b b' None notes less has taken Same) o
  peek_says place (peek.Seen subject at) there (looked, same) = (
    subst (λ (k : ℕ). Looked (before tracker v log b b' None notes less has taken) (behind tracker v log b b' None notes less has taken Same) at (IsRecord k subject))
        (same_entry place there) (looked_too tracker v log b b' None notes less has taken Same at (IsRecord (held_id place b.holds.items) subject) looked),
    record { held = refl; owed = refl },
  )
  peek_says place (peek.Gone at) there (looked, same) = (
    subst (λ (k : ℕ). Looked (before tracker v log b b' None notes less has taken) (behind tracker v log b b' None notes less has taken Same) at (λ s. record_of k s ≡ None))
        (same_entry place there) (looked_too tracker v log b b' None notes less has taken Same at (λ s. record_of (held_id place b.holds.items) s ≡ None) looked),
    record { held = refl; owed = refl },
  )

  pub peek_places : (place : ℕ) (o : PeekOutcome) → PeekSays place S T o → (b'.holds.items ≡ b.holds.items) × (b'.owed.items ≡ b.owed.items)
  peek_places place (peek.Seen subject at) (looked, same) = (same.held, same.owed)
  peek_places place (peek.Gone at) (looked, same) = (same.held, same.owed)

  pub lists_says : (listed : List Expectation) (at : ℕ) → ListsExpected listed S T at
      → ListsExpected listed (before tracker v log b b' None notes less has taken) (behind tracker v log b b' None notes less has taken Same) at
  lists_says listed at (looked, same) =
      (looked_too tracker v log b b' None notes less has taken Same at (λ s. listed ≡ s.expects) looked, record { held = refl; owed = refl })

  pub release_says : (place : ℕ) (o : ReleaseOutcome) → is_held place v.held ≡ true
      → Among (held_after (released_change place o) v.held) b'.holds.items
      → (v.sizes.passes ≡ 1 → Among b'.holds.items (held_after (released_change place o) v.held))
      → ReleaseSays place S T o
      → ReleaseSays place (before tracker v log b b' None notes less has taken) (behind tracker v log b b' None notes less has taken (released_change place o)) o
  release_says place release.Kept there among only k = record {
    saw = (saw_too tracker v log b b' None notes less has taken (Releases place) k.saw).0;
    held = refl;
    owed = refl;
    alone = λ one. in_use place T (behind tracker v log b b' None notes less has taken (Releases place)) refl (only one)
        (λ weight. omega (arith, ap (total weight) k.owed, has.only_owed one weight)) (k.alone refl);
  }
  release_says place release.Last there among only k = record {
    saw = (saw_too tracker v log b b' None notes less has taken (Owes place) k.saw).0;
    held = refl;
    owed = refl;
    unheld = none_among (is_at place) (held_after (Owes place) v.held) b'.holds.items among k.unheld;
    alone = λ one. k.alone refl;
  }

  pub release_places : (place : ℕ) (o : ReleaseOutcome) → ReleaseSays place S T o
      → (b'.holds.items ≡ held_after (released_change place o) b.holds.items) × (b'.owed.items ≡ owed_after (released_change place o) b.owed.items)
  release_places place release.Kept k = (k.held, k.owed)
  release_places place release.Last k = (k.held, k.owed)

  pub recycle_says : (place : ℕ) → Among v.held b'.holds.items → Among (owed_after (Pays place) v.owed) b'.owed.items → RecycleSays place S T
      → RecycleSays place (before tracker v log b b' None notes less has taken) (behind tracker v log b b' None notes less has taken (Pays place))
  recycle_says place held owed r = record {
    saw = (saw_too tracker v log b b' None notes less has taken (Pays place) r.saw).0;
    held = refl;
    owed = refl;
    alone = λ one. not_in_use place (behind tracker v log b b' None notes less has taken (Pays place)) T refl held owed (r.alone refl);
  }

module _ (tracker : List ℕ) (v : TurnView) (log : List Event) (b b' : Book) (made : Option Event) (notes : List Note) (less : ℕ) (has : HasTurn v log b) (taken : ℕ)
    (same_sizes : b'.sizes ≡ b.sizes) where
  abbrev S' : Sight
  S' = one_before tracker v log b b' made notes less has taken

  abbrev T' : Sight
  T' = one_behind tracker v log b b' made notes less has taken

  abbrev A' : Sight
  A' = before tracker v log b b' made notes less has taken

  abbrev B' : PlaceChange → Sight
  B' c = behind tracker v log b b' made notes less has taken c

  its_entry : (place : ℕ) → is_held place v.held ≡ true → held_id place b.holds.items ≡ held_id place v.held
  its_entry place there = sym (held_id_among place v.held b.holds.items has.book.references.agreed has.held there)

  looked_at : (c : PlaceChange) (at : ℕ) (F : State → Type 0) → Looked S' T' at F → Looked A' (B' c) at F
  looked_at c at F l = looked_too tracker v log b b' made notes less has taken c at F l

  -- the same of the entry for which the place is held
  looked_of : (place at : ℕ) (F : ℕ → State → Type 0) → is_held place v.held ≡ true → Looked S' T' at (F (held_id place b.holds.items))
      → Looked A' (B' Same) at (F (held_id place v.held))
  looked_of place at F there l =
      subst (λ (k : ℕ). Looked A' (B' Same) at (F k)) (its_entry place there) (looked_at Same at (F (held_id place b.holds.items)) l)

  made_of : (c : PlaceChange) (number : ℕ) (e : Event) → MadeEvent S' T' number e → MadeEvent A' (B' c) number e
  made_of c number e m = made_too tracker v log b b' made notes less has taken c number e m

  pub confirm_says : (place : ℕ) (flow : Flow) (o : ConfirmOutcome) → ConfirmSays place flow S' T' o
      → ConfirmSays place flow A' (B' (confirmed_change place o)) o
  confirm_says place flow (confirm.Confirmed id) k = record { made = made_of (Names place id) id _ k.made; held = refl; owed = refl }
  confirm_says place flow (confirm.Clash id direction both at) (looked, same) = (looked_at Same at _ looked, record { held = refl; owed = refl })

  pub confirm_places : (place : ℕ) (flow : Flow) (o : ConfirmOutcome) → ConfirmSays place flow S' T' o
      → (b'.holds.items ≡ held_after (confirmed_change place o) b.holds.items) × (b'.owed.items ≡ owed_after (confirmed_change place o) b.owed.items)
  confirm_places place flow (confirm.Confirmed id) k = (k.held, k.owed)
  confirm_places place flow (confirm.Clash id direction both at) (looked, same) = (same.held, same.owed)

  pub touch_says : (place : ℕ) (direction : Direction) (segment : Segment) (moment : ℕ) (o : TouchOutcome) → is_held place v.held ≡ true
      → TouchSays place direction segment moment S' T' o → TouchSays place direction segment moment A' (B' Same) o
  touch_says place direction segment moment (touch.Touched number old) there k =
      subst (λ (n : ℕ). Touches n direction segment moment A' (B' Same) number old) (its_entry place there) (record {
        after = k.after;
        made = made_of Same number _ k.made;
        found = k.found;
        step = k.step;
        same = record { held = refl; owed = refl };
      })
  touch_says place direction segment moment (touch.Ignored at) there (looked, same) =
      (looked_of place at (λ n. StepGives n direction segment moment outcome.Ignore) there looked, record { held = refl; owed = refl })
  touch_says place direction segment moment (touch.Invalid at) there (looked, same) =
      (looked_of place at (λ n. StepGives n direction segment moment outcome.Invalid) there looked, record { held = refl; owed = refl })
  touch_says place direction segment moment (touch.Reopen at) there (looked, same) =
      (looked_of place at (λ n. StepGives n direction segment moment outcome.Reopen) there looked, record { held = refl; owed = refl })
  touch_says place direction segment moment (touch.Reset at) there (looked, same) =
      (looked_of place at (λ n. StepGives n direction segment moment outcome.Reset) there looked, record { held = refl; owed = refl })
  touch_says place direction segment moment (touch.Expired at) there (looked, same) =
      (looked_of place at (λ n. StepGives n direction segment moment outcome.Expired) there looked, record { held = refl; owed = refl })
  touch_says place direction segment moment (touch.Gone at) there (looked, same) =
      (looked_of place at (λ n s. record_of n s ≡ None) there looked, record { held = refl; owed = refl })

  pub touch_places : (place : ℕ) (direction : Direction) (segment : Segment) (moment : ℕ) (o : TouchOutcome)
      → TouchSays place direction segment moment S' T' o → SamePlaces S' T'
  touch_places place direction segment moment (touch.Touched number old) k = k.same
  touch_places place direction segment moment (touch.Ignored at) (looked, same) = same
  touch_places place direction segment moment (touch.Invalid at) (looked, same) = same
  touch_places place direction segment moment (touch.Reopen at) (looked, same) = same
  touch_places place direction segment moment (touch.Reset at) (looked, same) = same
  touch_places place direction segment moment (touch.Expired at) (looked, same) = same
  touch_places place direction segment moment (touch.Gone at) (looked, same) = same

  pub kill_says : (place : ℕ) (why : Why) (o : KillOutcome) → is_held place v.held ≡ true → KillSays place why S' T' o → KillSays place why A' (B' Same) o
  kill_says place why (kill.Killed number subject) there k =
      subst (λ (n : ℕ). Destroys n why A' (B' Same) number subject) (its_entry place there) (record {
        made = made_of Same number _ k.made;
        found = k.found;
        reason = k.reason;
        same = record { held = refl; owed = refl };
      })
  kill_says place why (kill.Gone at) there (looked, same) =
      (looked_of place at (λ n s. record_of n s ≡ None) there looked, record { held = refl; owed = refl })
  kill_says place why (kill.Not subject at) there (looked, reason, same) =
      (looked_of place at (λ n. IsRecord n subject) there looked, reason, record { held = refl; owed = refl })

  pub kill_places : (place : ℕ) (why : Why) (o : KillOutcome) → KillSays place why S' T' o → SamePlaces S' T'
  kill_places place why (kill.Killed number subject) k = k.same
  kill_places place why (kill.Gone at) (looked, same) = same
  kill_places place why (kill.Not subject at) (looked, reason, same) = same

  -- the zone of the entry for which the place is held is that which the pass knows
  its_zone : (place : ℕ) → is_held place v.held ≡ true → is_helped_entry (held_id place v.held) v.front ≡ true
      → zone_of_entry (held_id place b.holds.items) log ≡ zone_of_entry (held_id place v.held) v.front
  its_zone place there helped =
      ap (λ (n : ℕ). zone_of_entry n log) (its_entry place there) ∙ sym (zone_on log v.front (held_id place v.held) has.all.front helped)

  -- with the room for expectations that the pass knows
  added : (place at : ℕ) (want : Want) (moment : ℕ) (o : AddOutcome) → is_held place v.held ≡ true
      → is_helped_entry (held_id place v.held) v.front ≡ true
      → Looked S' T' at (AddGives b'.sizes.expectations at (held_id place b.holds.items) (zone_of_entry (held_id place b.holds.items) log) want moment o)
      → Looked A' (B' Same) at (AddGives v.sizes.expectations at (held_id place v.held) (zone_of_entry (held_id place v.held) v.front) want moment o)
  added place at want moment o there helped l =
      subst (λ (room : ℕ). Looked A' (B' Same) at (AddGives room at (held_id place v.held) (zone_of_entry (held_id place v.held) v.front) want moment o))
      (ap (λ (z : Sizes). z.expectations) (same_sizes ∙ has.sizes))
      (looked_of place at (λ n. AddGives b'.sizes.expectations at n (zone_of_entry (held_id place v.held) v.front) want moment o) there
      (subst (λ (z : ℕ). Looked S' T' at (AddGives b'.sizes.expectations at (held_id place b.holds.items) z want moment o))
      (its_zone place there helped) l))

  pub expect_says : (place : ℕ) (want : Want) (moment : ℕ) (o : ExpectOutcome) → is_held place v.held ≡ true
      → is_helped_entry (held_id place v.held) v.front ≡ true
      → ExpectSays place want moment S' T' o → ExpectSays place want moment A' (B' Same) o
  expect_says place want moment (expect.Expected id replaced) there helped (event, same) = (
    subst (λ (n : ℕ). MadeEvent A' (B' Same) id
        (Expect (expectation_at id n (zone_of_entry (held_id place v.held) v.front) want moment) replaced moment)) (its_entry place there)
        (subst (λ (z : ℕ). MadeEvent A' (B' Same) id (Expect (expectation_at id (held_id place b.holds.items) z want moment) replaced moment))
        (its_zone place there helped) (made_of Same id _ event)),
    record { held = refl; owed = refl },
  )
  expect_says place want moment (expect.MasterGone at) there helped (looked, same) =
      (looked_of place at (λ n s. record_of n s ≡ None) there looked, record { held = refl; owed = refl })
  expect_says place want moment (expect.Clash id at) there helped (looked, same) =
      (added place at want moment (add.Clash id) there helped looked, record { held = refl; owed = refl })
  expect_says place want moment (expect.ExpectFull at) there helped (looked, same) =
      (added place at want moment add.Full there helped looked, record { held = refl; owed = refl })

  pub expect_places : (place : ℕ) (want : Want) (moment : ℕ) (o : ExpectOutcome) → ExpectSays place want moment S' T' o → SamePlaces S' T'
  expect_places place want moment (expect.Expected id replaced) (event, same) = same
  expect_places place want moment (expect.MasterGone at) (looked, same) = same
  expect_places place want moment (expect.Clash id at) (looked, same) = same
  expect_places place want moment (expect.ExpectFull at) (looked, same) = same

  pub claim_says : (t : Tuple) (moment : ℕ) (o : ClaimOutcome) → ClaimSays t moment S' T' o → ClaimSays t moment A' (B' Same) o
  claim_says t moment (claim.Claimed number expectation master) (event, same) = (made_of Same number _ event, record { held = refl; owed = refl })
  claim_says t moment (claim.Unclaimed at) (looked, same) = (looked_at Same at _ looked, record { held = refl; owed = refl })

  pub claim_places : (t : Tuple) (moment : ℕ) (o : ClaimOutcome) → ClaimSays t moment S' T' o → SamePlaces S' T'
  claim_places t moment (claim.Claimed number expectation master) (event, same) = same
  claim_places t moment (claim.Unclaimed at) (looked, same) = same

  pub unexpect_says : (id moment : ℕ) (o : UnexpectOutcome) → UnexpectSays id moment S' T' o → UnexpectSays id moment A' (B' Same) o
  unexpect_says id moment (unexpect.Removed number) (event, same) = (made_of Same number _ event, record { held = refl; owed = refl })
  unexpect_says id moment (unexpect.Gone at) (looked, same) = (looked_at Same at _ looked, record { held = refl; owed = refl })
  unexpect_says id moment (unexpect.Not deadline at) (looked, late, same) = (looked_at Same at _ looked, late, record { held = refl; owed = refl })

  pub unexpect_places : (id moment : ℕ) (o : UnexpectOutcome) → UnexpectSays id moment S' T' o → SamePlaces S' T'
  unexpect_places id moment (unexpect.Removed number) (event, same) = same
  unexpect_places id moment (unexpect.Gone at) (looked, same) = same
  unexpect_places id moment (unexpect.Not deadline at) (looked, late, same) = same
