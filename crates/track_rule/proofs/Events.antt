-- The history goes on with an event, which one pass made.
use Rattle.std.proofs.Common.{◌≡◌, ℕ, ◌+◌, ◌^◌, ◌<◌, zero, suc, List, [], ◌∷◌, ◌++◌, length, refl, sym, ap, subst, ◌∙◌, arith, set, Some, append_assoc, append-nil}
use Rattle.std.specs.List.{All, AllPairs, slice_get}
use Rattle.std.specs.Prelude.{nat_le, nat_lt, ◌&&◌}
use Rattle.std.proofs.lemmas.List.Elements.{All-append, All-from_recursion}
use Rattle.std.proofs.lemmas.List.Kept.{AllPairs-cons}
use mathlib.Core.Option.{some}
use lib.ListN.{get_elem?}
use Rattle.history_book.specs.declared.event.Event.{Event}
use Rattle.history_book.specs.declared.event.Event.TheVariants.{Confirm}
use Rattle.history_book.specs.declared.event.Note.{Note}
use Rattle.history_book.specs.declared.sizes.Sizes.{Sizes}
use Rattle.history_book.specs.Point.{StartsWith}
use Rattle.history_book.specs.Sight.{AreEventsOf, notes_from}
use Rattle.track_rule.specs.declared.view.Keep.{Keep}
use Rattle.track_rule.specs.declared.view.Purpose.{Purpose}
use Rattle.track_rule.specs.declared.view.Purpose.TheVariants.{Taken, Testing, Shown, For}
use Rattle.track_rule.specs.declared.view.View.{View}
use Rattle.track_rule.specs.Passes.{AreFronts, ArePasses, IsPass, has_share, made_weight, shares_of}
use Rattle.track_rule.specs.References.{AreKept, IsKeptFor, WasConfirmed}
use Rattle.track_rule.specs.Sums.{bit, total}
use Rattle.track_rule.proofs.Sums.{each_other, total_append, total_same, total_set, total_two}

pub get_append : {X : Type 0} (xs ys : List X) (i : ℕ) (x : X) → slice_get xs i ≡ Some x → slice_get (xs ++ ys) i ≡ Some x
get_append [] ys i x h = cc
get_append (y ∷ xs) ys zero x h = h
get_append (y ∷ xs) ys (suc i) x h = get_append xs ys i x h

-- the last item stands at the old length
pub get_last : {X : Type 0} (xs : List X) (x : X) → slice_get (xs ++ x ∷ []) (length xs) ≡ Some x
get_last [] x = refl
get_last (y ∷ ys) x = get_last ys x

notes_from-push : (k : ℕ) (es : List Event) (e : Event) → notes_from k (es ++ e ∷ []) ≡ notes_from k es ++ record { number = k + length es; event = e } ∷ []
notes_from-push k [] e = ap (λ (n : ℕ). record { number = n; event = e } ∷ []) (omega arith)
notes_from-push k (x ∷ xs) e =
    ap (λ ns. record { number = k; event = x } ∷ ns) (notes_from-push (k + 1) xs e
    ∙ ap (λ (n : ℕ). notes_from (k + 1) xs ++ record { number = n; event = e } ∷ []) (omega arith))

-- one list of events has these notes
pub notes_same : (k : ℕ) (xs ys : List Event) → notes_from k xs ≡ notes_from k ys → xs ≡ ys
notes_same k [] [] e = refl
notes_same k [] (y ∷ ys) e = cc
notes_same k (x ∷ xs) [] e = cc
notes_same k (x ∷ xs) (y ∷ ys) e = λ i. first_event x (e i) ∷ notes_same (k + 1) xs ys (ap later e) i
  where
    first_event : Event → List Note → Event
    first_event other [] = other
    first_event other (n ∷ ns) = n.event

    later : List Note → List Note
    later [] = []
    later (n ∷ ns) = ns

each_map : {X : Type 0} (F G : X → Type 0) → ((x : X) → F x → G x) → (xs : List X) → All F xs → All G xs
each_map F G f xs h = λ i d short. f _ (h i d short)

starts_on : (log front : List Event) (e : Event) → StartsWith log front → StartsWith (log ++ e ∷ []) front
starts_on log front e (rest, same) = (rest ++ e ∷ [], ap (λ l. l ++ e ∷ []) same ∙ append_assoc front rest (e ∷ []))

fronts_on : (log : List Event) (fronts : List (List Event)) (e : Event) → AreFronts log fronts → AreFronts (log ++ e ∷ []) fronts
fronts_on log [] e h = tt
fronts_on log (f ∷ fs) e h = (starts_on log f e h.0, fronts_on log fs e h.1)

events_on : (log : List Event) (e : Event) (notes : List Note) → AreEventsOf log notes → AreEventsOf (log ++ e ∷ []) notes
events_on log e notes h =
    each_map (λ (n : Note). slice_get log n.number ≡ Some n.event) (λ (n : Note). slice_get (log ++ e ∷ []) n.number ≡ Some n.event)
    (λ n at. get_append log (e ∷ []) n.number n.event at) notes h

-- the event as its maker notes it
abbrev pub note_of : List Event → Event → Note
note_of log e = record { number = length log; event = e }

own_on : (log : List Event) (e : Event) (notes : List Note) → AreEventsOf log notes → AreEventsOf (log ++ e ∷ []) (notes ++ note_of log e ∷ [])
own_on log e notes h =
    All-append (λ (n : Note). slice_get (log ++ e ∷ []) n.number ≡ Some n.event) notes (note_of log e ∷ []) (events_on log e notes h)
    (All-from_recursion (λ (n : Note). slice_get (log ++ e ∷ []) n.number ≡ Some n.event) (note_of log e ∷ []) (get_last log e, tt))

-- one more that all others are before
AllPairs-snoc : {X : Type 0} (R : X → X → Type 0) (xs : List X) (x : X) → AllPairs R xs → All (λ y. R y x) xs → AllPairs R (xs ++ x ∷ [])
AllPairs-snoc R [] x pairs all = λ i j d lt short. absurd (omega (arith, lt, short))
AllPairs-snoc R (y ∷ ys) x pairs all =
    AllPairs-cons R y (ys ++ x ∷ [])
    (All-append (R y) ys (x ∷ []) (λ i d short. pairs 0 (suc i) d (omega arith) (omega (arith, short)))
    (All-from_recursion (R y) (x ∷ []) (all 0 y (omega arith), tt)))
    (AllPairs-snoc R ys x (λ i j d lt short. pairs (suc i) (suc j) d (omega (arith, lt)) (omega (arith, short))) (λ i d short. all (suc i) d (omega (arith, short))))

-- numbers of events of a history are below its length
at_below : (log : List Event) (k : ℕ) (e : Event) → slice_get log k ≡ Some e → k < length log
at_below [] k e at = cc
at_below (x ∷ xs) zero e at = omega arith
at_below (x ∷ xs) (suc k) e at = omega (arith, at_below xs k e at)

ordered_on : (log : List Event) (e : Event) (notes : List Note) → AreEventsOf log notes → AllPairs (λ (m n : Note). m.number < n.number) notes
    → AllPairs (λ (m n : Note). m.number < n.number) (notes ++ note_of log e ∷ [])
ordered_on log e notes h ordered =
    AllPairs-snoc (λ (m n : Note). m.number < n.number) notes (note_of log e) ordered
    (each_map (λ (n : Note). slice_get log n.number ≡ Some n.event) (λ (m : Note). m.number < length log) (λ n at. at_below log n.number n.event at) notes h)

alone_on : (log : List Event) (e : Event) (notes : List Note) → notes ≡ notes_from 0 log → notes ++ note_of log e ∷ [] ≡ notes_from 0 (log ++ e ∷ [])
alone_on log e notes h =
    let number : 0 + length log ≡ length log = omega arith in
    ap (λ ns. ns ++ note_of log e ∷ []) h
    ∙ sym (notes_from-push 0 log e ∙ ap (λ (n : ℕ). notes_from 0 log ++ record { number = n; event = e } ∷ []) number)

-- the event weighs in the history what it weighs among the pass's events
weighs_on : (weight : Note → ℕ) (log : List Event) (e : Event) (notes : List Note)
    → total weight (notes_from 0 (log ++ e ∷ [])) + total weight notes ≡ total weight (notes_from 0 log) + total weight (notes ++ note_of log e ∷ [])
weighs_on weight log e notes =
    let number : 0 + length log ≡ length log = omega arith in
    omega (
      arith,
      ap (total weight) (notes_from-push 0 log e ∙ ap (λ (k : ℕ). notes_from 0 log ++ record { number = k; event = e } ∷ []) number),
      total_append weight (notes_from 0 log) (note_of log e ∷ []),
      total_append weight notes (note_of log e ∷ []),
    )

-- a pass that made none
pass_on : (z : Sizes) (log : List Event) (e : Event) (u : View) → IsPass z log u → (z.passes ≡ 1 → 0 < u.passes.shares → ⊥) → IsPass z (log ++ e ∷ []) u
pass_on z log e u p other = record {
  front = starts_on log u.seen.front e p.front;
  told = fronts_on log u.seen.told e p.told;
  own = events_on log e u.seen.own p.own;
  ordered = p.ordered;
  own_few = p.own_few;
  gathered = events_on log e u.seen.gathered p.gathered;
  gathered_few = p.gathered_few;
  below = p.below;
  alone = λ one some_shares. absurd (other one some_shares);
  spent = p.spent;
}

-- the pass that made it
pass_made : (z : Sizes) (log : List Event) (e : Event) (v w : View) → IsPass z log v → 0 < v.passes.shares → length v.seen.own < 2 ^ 30 → w.passes ≡ v.passes
    → w.seen ≡ record v.seen { front = log ++ e ∷ []; own = v.seen.own ++ note_of log e ∷ [] } → IsPass z (log ++ e ∷ []) w
pass_made z log e v w p has_some few passes seen =
    subst (IsPass z (log ++ e ∷ [])) (sym (λ i. record w { passes = passes i; seen = seen i })) (record {
      front = ([], sym (append-nil (log ++ e ∷ [])));
      told = fronts_on log v.seen.told e p.told;
      own = own_on log e v.seen.own p.own;
      ordered = ordered_on log e v.seen.own p.own p.ordered;
      own_few = omega (arith, few, length-one v.seen.own (note_of log e));
      gathered = events_on log e v.seen.gathered p.gathered;
      gathered_few = p.gathered_few;
      below = p.below;
      alone = λ one some_shares. alone_on log e v.seen.own (p.alone one some_shares);
      spent = λ none_left. absurd (omega (arith, none_left, has_some));
    })
  where
    length-one : (ns : List Note) (n : Note) → length (ns ++ n ∷ []) ≡ length ns + 1
    length-one [] n = refl
    length-one (m ∷ ns) n = omega (arith, length-one ns n)

pub passes_made : (z : Sizes) (log : List Event) (e : Event) (vs : List View) (id : ℕ) (v w : View) → get_elem? vs id ≡ some v → 0 < v.passes.shares
    → length v.seen.own < 2 ^ 30 → w.passes ≡ v.passes → w.seen ≡ record v.seen { front = log ++ e ∷ []; own = v.seen.own ++ note_of log e ∷ [] }
    → ArePasses z log vs → ArePasses z (log ++ e ∷ []) (set vs id w)
passes_made z log e vs id v w at has_some few passes seen h = record {
  each = each_other (IsPass z (log ++ e ∷ [])) vs id w
      (λ j u other at'. pass_on z log e u (h.each j u at')
      (λ one some_shares. omega (arith, one, h.all, has_some, some_shares, total_two shares_of vs id j v u at at' other)))
      (pass_made z log e v w (h.each id v at) has_some few passes seen);
  apart = λ n. omega (arith, h.apart n, total_same (has_share n) vs id v w at (ap (λ x. bit (nat_le x.first n && nat_lt n (x.first + x.shares))) passes));
  all = total_same shares_of vs id v w at (ap (λ x. x.shares + x.returned) passes) ∙ h.all;
  made = λ weight. omega (
    arith,
    h.made weight,
    weighs_on weight log e v.seen.own,
    total_set (made_weight weight) vs id v w at,
    ap (λ x. total weight x.own + total weight x.gathered) seen,
  );
}

-- what places are held for stays so
pub kept_on : (log : List Event) (e : Event) (held : List Keep) → AreKept log held → AreKept (log ++ e ∷ []) held
kept_on log e [] h = tt
kept_on log e (k ∷ ks) h = (for_on k.place k.purpose h.0, kept_on log e ks h.1)
  where
    was : (id place : ℕ) → WasConfirmed log id place → WasConfirmed (log ++ e ∷ []) id place
    was id place w = record { subject = w.subject; event = get_append log (e ∷ []) id (Confirm w.subject) w.event; its_place = w.its_place }

    for_on : (place : ℕ) (why : Purpose) → IsKeptFor log place why → IsKeptFor (log ++ e ∷ []) place why
    for_on place Taken w = tt
    for_on place Testing w = tt
    for_on place (Shown id) w = was id place w
    for_on place (For id) w = was id place w
