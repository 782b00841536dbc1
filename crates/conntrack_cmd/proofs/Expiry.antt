-- What is said of a sweep that destroys what is expired, and then ends what is expected no longer.
use Rattle.std.proofs.Common.{◌≡◌, ℕ, suc, zero, ◌+◌, ◌<◌, ◌≤◌, Bool, true, false, cond, List, [], ◌∷◌, ◌++◌, length, refl, sym, ap, subst, ◌∙◌, Option, Some, None, arith, length-append}
use Rattle.std.specs.List.{AllByRecursion, find, slice_get}
use Rattle.std.specs.Prelude.{not}
use Rattle.std.proofs.lemmas.List.Elements.{recursion_from_All}
use Rattle.expect_table.specs.Match.{has_id, is_awaited}
use Rattle.expect_table.specs.declared.expectation.Expectation.{Expectation}
use Rattle.history_book.specs.declared.answer.Said.TheVariants as said
use Rattle.history_book.specs.declared.event.Note.{Note}
use Rattle.history_book.specs.declared.event.Why.TheVariants as why
use Rattle.history_book.specs.declared.sizes.Sizes.{Sizes}
use Rattle.history_book.specs.SightLaws.{GoingOnAddsUp}
use Rattle.history_book.specs.WentOn.{Looked}
use Rattle.history_book.specs.History.{after}
use Rattle.history_book.specs.Laws.{EntriesKeepTheirPlace, EventsStay, ExpectationsAreExpected, ExpectationsAreFew, ExpectationsAreInOrder, GoneExpectationsStayGone, PlacesAreInThePool, StatesStay}
use Rattle.history_book.specs.Notes.{Happened}
use Rattle.history_book.specs.Places.{HoldsNothing}
use Rattle.history_book.specs.Point.{StartsWith}
use Rattle.history_book.specs.Sight.{IsKnown, Sight}
use Rattle.history_book.specs.State.{State}
use Rattle.proto_rules.specs.Part.{is_expired}
use Rattle.conntrack_cmd.specs.declared.command.Command.TheVariants as command
use Rattle.conntrack_cmd.specs.Answer.{NoLateIsLeft, is_there_and_late}
use Rattle.conntrack_cmd.specs.Internal.Late.{IsEnding, IsOver, IsOverWhereLate}
use Rattle.conntrack_cmd.specs.Internal.Loops.{IsCounting, MadeNotes}
use Rattle.conntrack_cmd.specs.Internal.Spoken.{Speaks}
use Rattle.conntrack_cmd.proofs.Ends.{all_have_rows, found_one}
use Rattle.conntrack_cmd.proofs.Growth.{happened_grows}
use Rattle.conntrack_cmd.proofs.Lateness.{expected_at, made_saw, over_grows, same_expectation}
use Rattle.pool_visits.specs.Laws.{AllVisitsStay, LivedHaveRows}
use Rattle.conntrack_cmd.proofs.Fronts.{starts_longer, starts_trans}
use Rattle.conntrack_cmd.proofs.Said.{destroyed_for, made_between, visited_between}
use Rattle.conntrack_cmd.proofs.Sweeps.{each_map}

-- what is found stands at some index
found_at : {X : Type 0} (p : X → Bool) (xs : List X) (y : X) → find p xs ≡ Some y → (k : ℕ) × (k < length xs) × (slice_get xs k ≡ Some y)
found_at p [] y h = cc
found_at p (x ∷ xs) y h = by_first p x xs y (p x) h (found_at p xs y)
  where
    by_first : {X : Type 0} (p : X → Bool) (x : X) (xs : List X) (y : X) (b : Bool) → cond b (Some x) (find p xs) ≡ Some y
        → (find p xs ≡ Some y → (k : ℕ) × (k < length xs) × (slice_get xs k ≡ Some y))
        → (k : ℕ) × (k < length (x ∷ xs)) × (slice_get (x ∷ xs) k ≡ Some y)
    by_first p x xs y true h rest = (zero, omega arith, h)
    by_first p x xs y false h rest = let r = rest h in (suc r.0, omega (arith, r.1), r.2)

each_append : {X : Type 0} (P : X → Type 0) (xs ys : List X) → AllByRecursion P xs → AllByRecursion P ys → AllByRecursion P (xs ++ ys)
each_append P [] ys h k = k
each_append P (x ∷ xs) ys (h, hs) k = (h, each_append P xs ys hs k)

-- no more are listed than there is room for
listed_bound : ExpectationsAreFew → (b c : Sight) (listing : ℕ) (listed : List Expectation) → Looked b c listing (λ s. listed ≡ s.expects) → IsKnown c
    → length listed ≤ c.sizes.expectations
listed_bound few b c listing listed looked known =
    subst (λ (l : List Expectation). length l ≤ c.sizes.expectations) (sym looked.fact.fact) (few c.sizes c.front listing known.legal)

module _ (going : GoingOnAddsUp) (states : StatesStay) (events : EventsStay) where
  -- the events of one stretch, and then those of the next
  made_trans : (a b c : Sight) (first then : List Note) → MadeNotes a b first → MadeNotes b c then → MadeNotes a c (first ++ then)
  made_trans a b c first then m n =
      let longer : length b.front ≤ length c.front = starts_longer c.front b.front n.went.front in
      let earlier : length a.front ≤ length b.front = starts_longer b.front a.front m.went.front in
      record {
        went = going.twice a b c first then m.went n.went;
        taken = n.taken ∙ m.taken;
        happened = each_append (λ (x : Note). Happened c.front (length a.front) x × (x.number < length c.front)) first then
            (each_map (λ (x : Note). Happened c.front (length a.front) x × (x.number < length b.front))
            (λ (x : Note). Happened c.front (length a.front) x × (x.number < length c.front)) first
            (λ x h. (h.0, omega (arith, h.1, longer)))
            (happened_grows events states c.front b.front n.went.front (length a.front) (length b.front) first m.happened))
            (each_map (λ (x : Note). Happened c.front (length b.front) x × (x.number < length c.front))
            (λ (x : Note). Happened c.front (length a.front) x × (x.number < length c.front)) then
            (λ x h. (record { event = h.0.event; later = omega (arith, h.0.later, earlier) }, h.1)) n.happened);
      }

  -- no expectation that was late at the first point is there at the last
  none_late : ExpectationsAreExpected → ExpectationsAreInOrder → GoneExpectationsStayGone → (new : Sight) (moment from listing to : ℕ)
      (listed : List Expectation) → IsKnown new → from ≤ listing → listing ≤ to → listed ≡ (after new.front listing).expects
      → ((k : ℕ) (e : Expectation) → k < length listed → slice_get listed k ≡ Some e → IsOverWhereLate new.front moment listing to e)
      → NoLateIsLeft new.front moment from to
  none_late expected ordered gone new moment from listing to listed known first last are over id late =
      by_first (find (has_id id) (after new.front from).expects) refl
    where
      differ : false ≡ true → ⊥
      differ e = cc

      is_late : (d : Expectation) → not (is_awaited moment d) ≡ true → is_awaited moment d ≡ false
      is_late d h = by_due (is_awaited moment d) h
        where
          by_due : (b : Bool) → not b ≡ true → b ≡ false
          by_due true h = cc
          by_due false h = refl

      by_listed : (e : Expectation) → find (has_id id) (after new.front from).expects ≡ Some e
          → (o : Option Expectation) → find (has_id id) (after new.front listing).expects ≡ o
          → find (has_id id) (after new.front to).expects ≡ None
      by_listed e there None none =
          let is = expected_at expected new.sizes new.front known.legal from id e there in
          let early : e.id < from = found_one (λ (x : Expectation). x.id < from) (has_id id) (after new.front from).expects e
          (recursion_from_All (λ (x : Expectation). x.id < from) (after new.front from).expects (ordered new.sizes new.front from known.legal).1)
          there in
          gone new.sizes new.front listing to id known.legal (omega (arith, early, is.1, first)) last none
      by_listed e there (Some d) found =
          let is = expected_at expected new.sizes new.front known.legal from id e there in
          let other = expected_at expected new.sizes new.front known.legal listing id d found in
          let same : e ≡ d = same_expectation new.front e d is.0 other.0 (is.1 ∙ sym other.1) in
          let at = found_at (has_id id) listed d (ap (find (has_id id)) are ∙ found) in
          let due : is_awaited moment d ≡ false =
          is_late d (ap (λ x. not (is_awaited moment x)) (sym same) ∙ ap (is_there_and_late moment) (sym there) ∙ late) in
          let o : IsOver new.front listing to d.id = over at.0 d at.1 at.2 due in
          let early : e.id < from = found_one (λ (x : Expectation). x.id < from) (has_id id) (after new.front from).expects e
          (recursion_from_All (λ (x : Expectation). x.id < from) (after new.front from).expects (ordered new.sizes new.front from known.legal).1)
          there in
          gone new.sizes new.front o.at to id known.legal (omega (arith, early, is.1, first, o.low)) o.high
          (subst (λ i. find (has_id i) (after new.front o.at).expects ≡ None) other.1 o.none)

      by_first : (o : Option Expectation) → find (has_id id) (after new.front from).expects ≡ o → find (has_id id) (after new.front to).expects ≡ None
      by_first None none = absurd (differ (ap (is_there_and_late moment) (sym none) ∙ late))
      by_first (Some e) there = by_listed e there (find (has_id id) (after new.front listing).expects) refl

  pub expire_speaks : AllVisitsStay → LivedHaveRows → ExpectationsAreFew → EntriesKeepTheirPlace → PlacesAreInThePool → ExpectationsAreExpected → ExpectationsAreInOrder → GoneExpectationsStayGone
      → (old a b c d new : Sight) (moment from listing to ended over : ℕ) (listed : List Expectation) (F G : State → Type 0)
      → Looked old a from F → IsCounting (why.Expired moment) a b a.sizes.entries ended → Looked b c listing (λ s. listed ≡ s.expects) → IsKnown c
      → IsEnding moment c d listed (length listed) over → Looked d new to G → HoldsNothing new → IsKnown new
      → Speaks (command.Expire moment) old new (record { said = said.Expired ended over; from = from; to = to })
  expire_speaks stay have bounded keep pool expected ordered gone old a b c d new moment from listing to ended over listed F G first counting looked known_c ending last
      empty known =
      let k = counting.destroying in
      let made : MadeNotes a c k.notes = made_saw going states events a b c k.notes k.made looked.saw in
      let b_longer : length a.front ≤ length b.front = starts_longer b.front a.front k.made.went.front in
      let c_longer : length b.front ≤ length c.front = starts_longer c.front b.front looked.saw.went.front in
      let d_longer : length c.front ≤ length d.front = starts_longer d.front c.front ending.made.went.front in
      let new_d : StartsWith new.front d.front = last.saw.went.front in
      let new_c : StartsWith new.front c.front = starts_trans new.front d.front c.front new_d ending.made.went.front in
      let new_b : StartsWith new.front b.front = starts_trans new.front c.front b.front new_c looked.saw.went.front in
      let sizes_b : new.sizes ≡ b.sizes = last.saw.went.pass.sizes ∙ ending.made.went.pass.sizes ∙ looked.saw.went.pass.sizes in
      let bound : length listed ≤ c.sizes.expectations = listed_bound bounded b c listing listed looked known_c in
      made_between going states old a d new from to F G first last events (command.Expire moment) (said.Expired ended over) (k.notes ++ ending.notes)
      (made_trans a c d k.notes ending.notes made ending.made)
      (omega (
        arith,
        length-append k.notes ending.notes,
        k.as_many,
        k.few,
        ending.exact,
        ending.few,
        bound,
        ap (λ (z : Sizes). z.entries) first.saw.went.pass.sizes,
        ap (λ (z : Sizes). z.expectations) (looked.saw.went.pass.sizes ∙ k.made.went.pass.sizes ∙ first.saw.went.pass.sizes),
      ))
      empty
      (record {
        kills = k.notes;
        ends = ending.notes;
        is = ap (λ n. said.Expired n over) (counting.exact ∙ sym k.as_many) ∙ ap (said.Expired (length k.notes)) ending.exact;
        all = refl;
        killed = destroyed_for b.front (why.Expired moment) k.notes counting.rows k.each;
        ended = ending.each;
        no_survivor = λ id lived. none_without_row (all_have_rows have keep pool new.sizes new.front known.legal (λ r. is_expired r.part moment) from to []
            (omega (arith, first.fact.within, b_longer, c_longer, d_longer, last.low))
            (visited_between stay b new (λ r. is_expired r.part moment) a.sizes.entries (length a.front) (length b.front) from to []
            k.known known new_b sizes_b (ap (λ (z : Sizes). z.entries) (sym (sizes_b ∙ k.made.went.pass.sizes))) first.fact.within b_longer (omega arith)
            (omega (arith, c_longer, d_longer, last.low)) k.visited) id lived);
        left = none_late expected ordered gone new moment from listing to listed known (omega (arith, first.fact.within, b_longer, looked.low))
            (omega (arith, looked.fact.within, d_longer, last.low))
            (looked.fact.fact ∙ ap (λ (s : State). s.expects) (sym (states new.front c.front listing new_c looked.fact.within).1))
            (λ n e below there late. over_grows going states events new.front d.front (length c.front) (length d.front) listing to e.id new_d
            looked.fact.within last.low (omega arith) (ending.over n e below there late));
      })
    where
      none_without_row : false ≡ true → ⊥
      none_without_row e = cc

-- after the kills there is room for an event for each expectation
pub late_spare : ExpectationsAreFew → (old a b c : Sight) (moment from listing ended : ℕ) (listed : List Expectation) (F : State → Type 0)
    → old.sizes.entries + old.sizes.expectations ≤ old.spare → Looked old a from F → IsCounting (why.Expired moment) a b a.sizes.entries ended
    → Looked b c listing (λ s. listed ≡ s.expects) → IsKnown c → length listed ≤ c.spare
late_spare bounded old a b c moment from listing ended listed F room first counting looked known =
    let k = counting.destroying in
    omega (
      arith,
      room,
      listed_bound bounded b c listing listed looked known,
      k.made.went.spare,
      k.as_many,
      k.few,
      first.saw.spare,
      looked.saw.spare,
      ap (λ (z : Sizes). z.entries) first.saw.went.pass.sizes,
      ap (λ (z : Sizes). z.expectations) (looked.saw.went.pass.sizes ∙ k.made.went.pass.sizes ∙ first.saw.went.pass.sizes),
    )
