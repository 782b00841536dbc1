-- The end of a turn keeps the rule.
use Rattle.std.proofs.Common.{◌≡◌, ℕ, ◌+◌, ◌^◌, ◌<◌, ◌≤◌, zero, suc, List, [], ◌∷◌, ◌++◌, length, refl, sym, ap, subst, ◌∙◌, arith, set, Option, Some, None, append_assoc, append-nil}
use Rattle.std.specs.List.{All, AllPairs, slice_get}
use Rattle.std.specs.Prelude.{slice_set}
use Rattle.std.proofs.lemmas.List.Elements.{All-from_recursion, recursion_from_All}
use Rattle.std.proofs.lemmas.List.Elements.{All-append}
use Rattle.std.proofs.lemmas.List.Kept.{AllPairs-cons}
use mathlib.Core.Option.{some, none}
use lib.ListN.{get_elem?}
use Rattle.atomic_table.specs.Table.{Allows, State, gives, step, stepped}
use Rattle.atomic_table.proofs.Lists.{set_here}
use Rattle.history_book.specs.declared.event.Event.{Event}
use Rattle.history_book.specs.declared.event.Note.{Note}
use Rattle.history_book.specs.declared.sizes.Sizes.{Sizes}
use Rattle.history_book.specs.Point.{StartsWith}
use Rattle.history_book.specs.Sight.{AreEventsOf, notes_from}
use Rattle.book_desk.specs.declared.book.Book.{Book}
use Rattle.book_desk.specs.declared.turn.change.Ending.{Ending}
use Rattle.book_desk.specs.declared.turn.view.TurnView.{TurnView}
use Rattle.book_desk.specs.Made.{with_made, noted}
use Rattle.book_desk.specs.Turn.Passes.{ArePasses, IsPass, has_share, made_weight, shares_of}
use Rattle.book_desk.specs.Turn.Places.{AreOfPasses}
use Rattle.book_desk.specs.Turn.Rule.{Holds, IsKept, packed, turn_of}
use Rattle.book_desk.specs.Turn.Steps.{CanEnd, Ends, ended, holds_in, owed_in}
use Rattle.book_desk.specs.Turn.Sums.{total}
use Rattle.book_desk.proofs.Histories.{get_append, get_last, notes_from-push}
use Rattle.book_desk.proofs.Lists.{each_map, each_push}
use Rattle.book_desk.proofs.Passes.Kept.{only_pass}
use Rattle.book_desk.proofs.Passes.Sums.{each_other, each_put, total_append, total_same, total_set, total_term, total_two}

-- the events so far are the first of those after an event
pub grows : (log : List Event) (made : Option Event) → StartsWith (with_made log made) log
grows log None = ([], sym (append-nil log))
grows log (Some e) = (e ∷ [], refl)

pub starts_on : (log front : List Event) (made : Option Event) → StartsWith log front → StartsWith (with_made log made) front
starts_on log front None h = h
starts_on log front (Some e) (rest, same) = (rest ++ e ∷ [], ap (λ l. l ++ e ∷ []) same ∙ append_assoc front rest (e ∷ []))

-- what stood in the history stands in it
pub events_on : (log : List Event) (made : Option Event) (notes : List Note) → AreEventsOf log notes → AreEventsOf (with_made log made) notes
events_on log None notes h = h
events_on log (Some e) notes h =
    All-from_recursion (λ (n : Note). slice_get (log ++ e ∷ []) n.number ≡ Some n.event) notes
    (each_map (λ (n : Note). slice_get log n.number ≡ Some n.event) (λ (n : Note). slice_get (log ++ e ∷ []) n.number ≡ Some n.event) notes
    (λ n at. get_append log (e ∷ []) n.number n.event at)
    (recursion_from_All (λ (n : Note). slice_get log n.number ≡ Some n.event) notes h))

-- and the new event, if there is one
pub own_on : (log : List Event) (made : Option Event) (notes : List Note) → AreEventsOf log notes → AreEventsOf (with_made log made) (noted notes (length log) made)
own_on log None notes h = h
own_on log (Some e) notes h =
    All-from_recursion (λ (n : Note). slice_get (log ++ e ∷ []) n.number ≡ Some n.event) (notes ++ record { number = length log; event = e } ∷ [])
    (each_push (λ (n : Note). slice_get (log ++ e ∷ []) n.number ≡ Some n.event) notes (record { number = length log; event = e })
    (recursion_from_All (λ (n : Note). slice_get (log ++ e ∷ []) n.number ≡ Some n.event) notes (events_on log (Some e) notes h))
    (get_last log e))

-- one more that all others are before
AllPairs-snoc : {X : Type 0} (R : X → X → Type 0) (xs : List X) (x : X) → AllPairs R xs → All (λ y. R y x) xs → AllPairs R (xs ++ x ∷ [])
AllPairs-snoc R [] x pairs all = λ i j d lt short. absurd (omega (arith, lt, short))
AllPairs-snoc R (y ∷ ys) x pairs all =
    AllPairs-cons R y (ys ++ x ∷ [])
    (All-append (R y) ys (x ∷ []) (λ i d short. pairs 0 (suc i) d (omega arith) (omega (arith, short)))
    (All-from_recursion (R y) (x ∷ []) (all 0 y (omega arith), tt)))
    (AllPairs-snoc R ys x (λ i j d lt short. pairs (suc i) (suc j) d (omega (arith, lt)) (omega (arith, short))) (λ i d short. all (suc i) d (omega (arith, short))))

-- numbers of events of a history are below its length
at_below : (log : List Event) (k : ℕ) (e : Event) → slice_get log k ≡ Some e → k < length log
at_below [] k e at = cc
at_below (x ∷ xs) zero e at = omega arith
at_below (x ∷ xs) (suc k) e at = omega (arith, at_below xs k e at)

pub ordered_on : (log : List Event) (made : Option Event) (notes : List Note) → AreEventsOf log notes → AllPairs (λ (m n : Note). m.number < n.number) notes
    → AllPairs (λ (m n : Note). m.number < n.number) (noted notes (length log) made)
ordered_on log None notes h ordered = ordered
ordered_on log (Some e) notes h ordered =
    AllPairs-snoc (λ (m n : Note). m.number < n.number) notes (record { number = length log; event = e }) ordered
    (All-from_recursion (λ (m : Note). m.number < length log) notes
    (each_map (λ (n : Note). slice_get log n.number ≡ Some n.event) (λ (m : Note). m.number < length log) notes
    (λ n at. at_below log n.number n.event at)
    (recursion_from_All (λ (n : Note). slice_get log n.number ≡ Some n.event) notes h)))

-- the only pass made it
pub alone_on : (log : List Event) (made : Option Event) (notes : List Note) → notes ≡ notes_from 0 log
    → noted notes (length log) made ≡ notes_from 0 (with_made log made)
alone_on log None notes h = h
alone_on log (Some e) notes h =
    let number : 0 + length log ≡ length log = omega arith in
    ap (λ ns. ns ++ record { number = length log; event = e } ∷ []) h
    ∙ sym (notes_from-push 0 log e ∙ ap (λ (n : ℕ). notes_from 0 log ++ record { number = n; event = e } ∷ []) number)

-- it weighs in the history what it weighs among the pass's events
weighs_on : (weight : Note → ℕ) (log : List Event) (made : Option Event) (notes : List Note)
    → total weight (notes_from 0 (with_made log made)) + total weight notes ≡ total weight (notes_from 0 log) + total weight (noted notes (length log) made)
weighs_on weight log None notes = refl
weighs_on weight log (Some e) notes =
    let number : 0 + length log ≡ length log = omega arith in
    let n : Note = record { number = length log; event = e } in
    omega (
      arith,
      ap (total weight) (notes_from-push 0 log e ∙ ap (λ (k : ℕ). notes_from 0 log ++ record { number = k; event = e } ∷ []) number),
      total_append weight (notes_from 0 log) (n ∷ []),
      total_append weight notes (n ∷ []),
    )

-- a pass that has not the turn
pass_on : (z : Sizes) (log : List Event) (made : Option Event) (u : TurnView) → IsPass z log u → (z.passes ≡ 1 → 0 < u.shares → ⊥)
    → IsPass z (with_made log made) u
pass_on z log made u p other = record {
  front = starts_on log u.front made p.front;
  told = starts_on log u.told made p.told;
  own = events_on log made u.own p.own;
  ordered = p.ordered;
  own_few = p.own_few;
  gathered = events_on log made u.gathered p.gathered;
  gathered_few = p.gathered_few;
  below = p.below;
  sized = p.sized;
  alone = λ one some_shares. absurd (other one some_shares);
  spent = p.spent;
}

-- the pass whose turn has ended
pass_ended : (z : Sizes) (e : Ending) (v : TurnView) → IsPass z v.front v → 0 < v.shares
    → length (noted v.own (length v.front) e.made) ≤ 2 ^ 30 → IsPass z (with_made v.front e.made) (ended e v)
pass_ended z e v p some_shares own_few = record {
  front = ([], sym (append-nil (with_made v.front e.made)));
  told = starts_on v.front v.told e.made p.told;
  own = own_on v.front e.made v.own p.own;
  ordered = ordered_on v.front e.made v.own p.own p.ordered;
  own_few = own_few;
  gathered = events_on v.front e.made v.gathered p.gathered;
  gathered_few = p.gathered_few;
  below = p.below;
  sized = p.sized;
  alone = λ one some. alone_on v.front e.made v.own (p.alone one some);
  spent = λ none_left. absurd (omega (arith, none_left, some_shares));
}

-- where the pass with the turn knows the book
module _ (z : Sizes) (e : Ending) (v : TurnView) (b b' : Book) (s : State (Option Book) TurnView) (id : ℕ) (at : get_elem? s.views id ≡ some v)
    (can : CanEnd e v b') (known : v.book ≡ Some b) (kept : IsKept z v.front b s) where
  passes_ended : ArePasses z (with_made v.front e.made) (set s.views id (ended e v))
  passes_ended = record {
    each = each_other (IsPass z (with_made v.front e.made)) s.views id (ended e v)
        (λ j u other at'. pass_on z v.front e.made u (kept.passes.each j u at')
        (λ one some_shares. omega (arith, some_shares, only_pass z v.front s.views kept.passes one id j v u at can.some at' other)))
        (pass_ended z e v (kept.passes.each id v at) can.some can.own_few);
    apart = λ n. omega (arith, kept.passes.apart n, total_same (has_share n) s.views id v (ended e v) at refl);
    all = total_same shares_of s.views id v (ended e v) at refl ∙ kept.passes.all;
    made = λ weight. omega (
      arith,
      kept.passes.made weight,
      weighs_on weight v.front e.made v.own,
      total_set (made_weight weight) s.views id v (ended e v) at,
    );
  }

  -- the places of the book are those of the passes then
  pub places_ended : AreOfPasses b' (set s.views id (ended e v))
  places_ended = record {
    held = λ weight. omega (
      arith,
      kept.places.held weight,
      can.held weight,
      ap (λ o. total weight (holds_in o)) known,
      total_set (λ u. total weight u.held) s.views id v (ended e v) at,
    );
    owed = λ weight. omega (
      arith,
      kept.places.owed weight,
      can.owed weight,
      ap (λ o. total weight (owed_in o)) known,
      total_set (λ u. total weight u.owed) s.views id v (ended e v) at,
    );
    few = each_put (λ u. length u.held + length u.owed ≤ 4) s.views id (ended e v) kept.places.few can.few;
  }

  turn_ended : (word : ℕ) → word ≡ packed 0 b' → length s.homes ≡ 1
      → IsKept z (with_made v.front e.made) b' (stepped s 0 word id ((0, Some b') ∷ []) (ended e v) gives)
  turn_ended word is slots =
      let before : total turn_of s.views ≡ 1 = omega (arith, kept.single, total_term turn_of s.views id v at, can.turn) in
      let turns : total turn_of (set s.views id (ended e v)) ≡ 0 = omega (arith, before, can.turn, total_set turn_of s.views id v (ended e v) at) in
      record {
        book = can.book;
        sizes = can.sizes ∙ (kept.passes.each id v at).sized can.some;
        words = subst (λ (ws : List ℕ). slice_set ws 0 word ≡ packed (total turn_of (set s.views id (ended e v))) b' ∷ []) (sym kept.words)
            (ap (λ (n : ℕ). n ∷ []) (is ∙ ap (λ (t : ℕ). packed t b') (sym turns)));
        single = omega (arith, turns);
        home = λ none_has. set_here s.homes 0 (some (Some b')) (omega (arith, slots));
        away = each_other (λ u. u.turn ≡ 1 → (u.book ≡ Some b') × (u.front ≡ with_made v.front e.made)) s.views id (ended e v)
            (λ j u other at' has. absurd (omega (arith, has, before, can.turn, total_two turn_of s.views id j v u at at' other)))
            (λ has. absurd (omega (arith, has)));
        passes = passes_ended;
        places = places_ended;
      }

pub ends : (z : Sizes) (slots id word : ℕ) (e : Ending) (v : TurnView) (b : Book) → slots ≡ 1 → CanEnd e v b → word ≡ packed 0 b
    → Allows (Holds z) slots id (v, (0, Some b) ∷ []) 0 (λ _. word) (λ _. Ends e (step slots 0 word 0 none) (v, (0, Some b) ∷ []) word)
ends z slots id word e v b' one can is s (log, b, kept) sized at range =
    let whole = kept.away id v at can.turn in
    let here : IsKept z v.front b s = subst (λ (l : List Event). IsKept z l b s) (sym whole.1) kept in (
      ended e v,
      gives,
      tt,
      (with_made v.front e.made, b', turn_ended z e v b b' s id at can whole.0 here word is (sized ∙ one)),
      (refl, refl),
    )
