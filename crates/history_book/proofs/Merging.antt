-- Events laid into a history by their numbers: where no two have one number, each stands at its own in the end.
use Rattle.std.proofs.Common.{◌≡◌, ℕ, true, false, ⊎_elim, ◌<◌, ◌≤◌, ◌+◌, ◌-◌, zero, suc, List, [], ◌∷◌, ◌++◌, length, take, drop, refl, sym, ap, subst, ◌∙◌, Some, arith, length-drop, append_assoc}
use Rattle.std.specs.List.{All, AllByRecursion, AllPairs, IsDistinct, list_any, slice_get}
use Rattle.std.specs.Prelude.{◌≢◌, eqb, map, slice_index_or, slice_set}
use Rattle.std.proofs.lemmas.List.{append-nil, drop-drop, drop_all, drop_more, get_or-append-add, get_or_append_left, length-append, length-map, length-set, take-append-drop}
use Rattle.std.proofs.lemmas.Bool.{eqb-true, ne_eqb, or_cases, true_from_ne_false}
use Rattle.std.proofs.lemmas.Map.Keys.{IsDistinct-cons}
use Rattle.std.proofs.lemmas.Map.Steps.{length-le_from_distinct_below}
use Rattle.std.proofs.lemmas.Option.{get_or_from_slice_get, same_Some, slice_get_within}
use Rattle.history_book.proofs.Entries.{each_fails}
use Rattle.std.proofs.lemmas.List.Elements.{recursion_from_All}
use Rattle.history_book.specs.declared.answer.Answer.{Answer}
use Rattle.history_book.specs.declared.event.Note.{Note}
use Rattle.history_book.specs.declared.event.Numbered.{Numbered}
use Rattle.history_book.specs.declared.verdict.Verdict.{Verdict}
use Rattle.history_book.specs.Internal.Merging.{AllHavePlaces, all_named, laid, made_in, named, named_in, threads_named}
use Rattle.history_book.specs.Merge.{AreNumbers, CoverEach, CoverFrom, IsMerged, EventSpan, all_notes, spans_of, spans_of_answers, spans_of_verdicts}
use Rattle.history_book.specs.Numbered.{IsNumberedFrom, notes_of}
use Rattle.history_book.specs.Internal.Order.{no_notes, notes_in}
use Rattle.room_list.specs.Roomed.{Roomed}

pub laid-append : (ns ms history : List Numbered) → laid (ns ++ ms) history ≡ laid ms (laid ns history)
laid-append [] ms history = refl
laid-append (n ∷ ns) ms history = laid-append ns ms (slice_set history n.number n)

pub length-laid : (ns history : List Numbered) → length (laid ns history) ≡ length history
length-laid [] history = refl
length-laid (n ∷ ns) history = length-laid ns (slice_set history n.number n) ∙ length-set history n.number n

get-set_same : {X : Type 0} (xs : List X) (i : ℕ) (x : X) → i < length xs → slice_get (slice_set xs i x) i ≡ Some x
get-set_same [] i x within = absurd (omega arith)
get-set_same (y ∷ xs) zero x within = refl
get-set_same (y ∷ xs) (suc i) x within = get-set_same xs i x (omega arith)

get-set_other : {X : Type 0} (xs : List X) (i j : ℕ) (x : X) → i ≢ j → slice_get (slice_set xs i x) j ≡ slice_get xs j
get-set_other [] i j x other = refl
get-set_other (y ∷ xs) zero zero x other = absurd (other refl)
get-set_other (y ∷ xs) zero (suc j) x other = refl
get-set_other (y ∷ xs) (suc i) zero x other = refl
get-set_other (y ∷ xs) (suc i) (suc j) x other = get-set_other xs i j x (λ e. other (ap suc e))

get-drop : {X : Type 0} (m k l : ℕ) (xs : List X) → l ≡ m + k → slice_get (drop m xs) k ≡ slice_get xs l
get-drop zero k l xs e = ap (slice_get xs) (omega arith)
get-drop (suc m) k l [] e = refl
get-drop (suc m) k zero (x ∷ xs) e = absurd (omega arith)
get-drop (suc m) k (suc l) (x ∷ xs) e = get-drop m k l xs (omega arith)

-- the number of none is that of a later one
abbrev AreDistinct : List Numbered → Type 0
AreDistinct [] = Unit {0}
AreDistinct (n ∷ ns) = AllByRecursion (λ m. n.number ≢ m.number) ns × AreDistinct ns

each_of_notes : (P : Note → Type 0) (ns : List Numbered) → AllByRecursion P (notes_of ns)
    → AllByRecursion (λ (n : Numbered). P (record { number = n.number; event = n.event })) ns
each_of_notes P [] h = tt
each_of_notes P (n ∷ ns) (h, hs) = (h, each_of_notes P ns hs)

distinct_from_pairs : (ns : List Numbered) → AllPairs (λ m n. m.number ≢ n.number) (notes_of ns) → AreDistinct ns
distinct_from_pairs [] h = tt
distinct_from_pairs (n ∷ ns) h = (
  each_of_notes (λ m. n.number ≢ m.number) ns
      (recursion_from_All (λ m. n.number ≢ m.number) (notes_of ns)
      (λ k d within. h zero (suc k) d (omega arith) (omega arith))),
  distinct_from_pairs ns (λ i j d below within. h (suc i) (suc j) d (omega arith) (omega arith)),
)

untouched : (k : ℕ) (ns history : List Numbered) → AllByRecursion (λ m. k ≢ m.number) ns
    → slice_get (laid ns history) k ≡ slice_get history k
untouched k [] history h = refl
untouched k (n ∷ ns) history (h, hs) =
    untouched k ns (slice_set history n.number n) hs ∙ get-set_other history n.number k n (λ e. h (sym e))

each_stands : (ns history : List Numbered) → AreDistinct ns → AllByRecursion (λ n. n.number < length history) ns
    → AllByRecursion (λ n. slice_get (laid ns history) n.number ≡ Some n) ns
each_stands [] history distinct within = tt
each_stands (n ∷ ns) history (new, distinct) (here, within) = (
  untouched n.number ns (slice_set history n.number n) new ∙ get-set_same history n.number n here,
  each_stands ns (slice_set history n.number n) distinct
      (subst (λ (k : ℕ). AllByRecursion (λ m. m.number < k) ns) (sym (length-set history n.number n)) within),
)

first_of_both : {X : Type 0} (P : X → Type 0) (xs ys : List X) → AllByRecursion P (xs ++ ys) → AllByRecursion P xs
first_of_both P [] ys h = tt
first_of_both P (x ∷ xs) ys (h, hs) = (h, first_of_both P xs ys hs)

second_of_both : {X : Type 0} (P : X → Type 0) (xs ys : List X) → AllByRecursion P (xs ++ ys) → AllByRecursion P ys
second_of_both P [] ys h = h
second_of_both P (x ∷ xs) ys (h, hs) = second_of_both P xs ys hs

abbrev name_of : ℕ → ℕ → Note → Numbered
name_of thread index n = record { number = n.number; thread = thread; index = index; event = n.event }

in_span : (P : Numbered → Type 0) (thread index m k : ℕ) (notes : List Note) (note : Note)
    → AllByRecursion P (named thread index (take m notes)) → k < m → slice_get notes k ≡ Some note → P
    (name_of thread index note)
in_span P thread index m k [] note h short is = cc
in_span P thread index zero k (n ∷ notes) note h short is = absurd (omega arith)
in_span P thread index (suc m) zero (n ∷ notes) note (h, hs) short is =
    let same : n ≡ note = cc in subst (λ (x : Note). P (name_of thread index x)) same h
in_span P thread index (suc m) (suc k) (n ∷ notes) note (h, hs) short is =
    in_span P thread index m k notes note hs (omega arith) is

-- spans that follow each other begin no earlier than the first
later_first : (at total : ℕ) (ss : List EventSpan) (j : ℕ) (span : EventSpan) → CoverFrom at total ss
    → slice_get ss j ≡ Some span → at ≤ span.first
later_first at total [] j span covers is = cc
later_first at total (s ∷ ss) zero span (here, covers) is =
    let same : s ≡ span = cc in
    let begins : span.first ≡ at = sym (ap (λ (x : EventSpan). x.first) same) ∙ here in omega arith
later_first at total (s ∷ ss) (suc j) span (here, covers) is =
    let below : at + s.made ≤ span.first = later_first (at + s.made) total ss j span covers is in omega arith

in_shares : (P : Numbered → Type 0) (thread from index at total : ℕ) (notes : List Note) (ss : List EventSpan) (k j : ℕ)
    (note : Note) (span : EventSpan) → index ≡ from + j → AllByRecursion P (named_in thread from notes ss)
    → CoverFrom at total ss → slice_get notes k ≡ Some note → slice_get ss j ≡ Some span
    → span.first ≤ at + k → at + k < span.first + span.made → P (name_of thread index note)
in_shares P thread from index at total notes [] k j note span e h covers is_note is_share low high = cc
in_shares P thread from index at total notes (s ∷ ss) k zero note span e h (here, covers) is_note is_share low high =
    let same : s ≡ span = cc in
    let made : s.made ≡ span.made = ap (λ (x : EventSpan). x.made) same in
    let begins : s.first ≡ span.first = ap (λ (x : EventSpan). x.first) same in
    let index_is : from ≡ index = omega arith in
    subst (λ (i : ℕ). P (name_of thread i note)) index_is
    (in_span P thread from s.made k notes note
    (first_of_both P (named thread from (take s.made notes)) (named_in thread (from + 1) (drop s.made notes) ss) h)
    (omega arith) is_note)
in_shares P thread from index at total notes (s ∷ ss) k (suc j) note span e h (here, covers)
    is_note is_share low high =
    let below : at + s.made ≤ span.first = later_first (at + s.made) total ss j span covers is_share in
    in_shares P thread (from + 1) index (at + s.made) total (drop s.made notes) ss (k - s.made) j note span
    (omega arith)
    (second_of_both P (named thread from (take s.made notes)) (named_in thread (from + 1) (drop s.made notes) ss) h)
    covers (get-drop s.made (k - s.made) k notes (omega arith) ∙ is_note) is_share (omega arith) (omega arith)

in_threads : (P : Numbered → Type 0) (from thread : ℕ) (lists : List (Roomed Note)) (spans : List (List EventSpan))
    (t at index : ℕ) (notes : Roomed Note) (note : Note) (ss : List EventSpan) (span : EventSpan) → thread ≡ from + t
    → AllByRecursion P (all_named from lists spans) → CoverEach lists spans
    → slice_get lists t ≡ Some notes → slice_get notes.items at ≡ Some note
    → slice_get spans t ≡ Some ss → slice_get ss index ≡ Some span
    → span.first ≤ at → at < span.first + span.made → P (name_of thread index note)
in_threads P from thread [] spans t at index notes note ss span e h covers
    is_list is_note is_shares is_share low high = cc
in_threads P from thread (l ∷ lists) [] t at index notes note ss span e h covers
    is_list is_note is_shares is_share low high = cc
in_threads P from thread (l ∷ lists) (s ∷ spans) zero at index notes note ss span e h (here, covers)
    is_list is_note is_shares is_share low high =
    let same : l ≡ notes = cc in
    let same_shares : s ≡ ss = cc in
    let thread_is : from ≡ thread = omega arith in
    subst (λ (i : ℕ). P (name_of i index note)) thread_is
    (in_shares P from 0 index 0 (length l.items) l.items s at index note span (omega arith)
    (first_of_both P (named_in from 0 l.items s) (all_named (from + 1) lists spans) h) here
    (ap (λ (x : Roomed Note). slice_get x.items at) same ∙ is_note) (ap (λ (x : List EventSpan). slice_get x index)
    same_shares ∙ is_share)
    (omega arith) (omega arith))
in_threads P from thread (l ∷ lists) (s ∷ spans) (suc t) at index notes note ss span e h (here, covers)
    is_list is_note is_shares is_share low high =
    in_threads P (from + 1) thread lists spans t at index notes note ss span (omega arith)
    (second_of_both P (named_in from 0 l.items s) (all_named (from + 1) lists spans) h)
    covers is_list is_note is_shares is_share low high

notes_of_named : (thread index : ℕ) (notes : List Note) → notes_of (named thread index notes) ≡ notes
notes_of_named thread index [] = refl
notes_of_named thread index (n ∷ notes) = ap (λ (ns : List Note). n ∷ ns) (notes_of_named thread index notes)

notes_of-append : (ns ms : List Numbered) → notes_of (ns ++ ms) ≡ notes_of ns ++ notes_of ms
notes_of-append [] ms = refl
notes_of-append (n ∷ ns) ms =
    ap (λ (l : List Note). record { number = n.number; event = n.event } ∷ l) (notes_of-append ns ms)

-- how many events the spans have
made_is : (at total : ℕ) (ss : List EventSpan) → CoverFrom at total ss → at + made_in ss ≡ total
made_is at total [] covers = omega arith
made_is at total (s ∷ ss) (here, covers) =
    let rest : (at + s.made) + made_in ss ≡ total = made_is (at + s.made) total ss covers in omega arith

notes_of_thread : (thread index : ℕ) (notes : List Note) (ss : List EventSpan) → made_in ss ≡ length notes
    → notes_of (named_in thread index notes ss) ≡ notes
notes_of_thread thread index [] [] e = refl
notes_of_thread thread index (n ∷ notes) [] e = absurd (omega arith)
notes_of_thread thread index notes (s ∷ ss) e =
    notes_of-append (named thread index (take s.made notes)) (named_in thread (index + 1) (drop s.made notes) ss)
    ∙ ap (λ (l : List Note). l ++ notes_of (named_in thread (index + 1) (drop s.made notes) ss))
    (notes_of_named thread index (take s.made notes))
    ∙ ap (λ (l : List Note). take s.made notes ++ l)
    (notes_of_thread thread (index + 1) (drop s.made notes) ss (omega (arith, length-drop s.made notes)))
    ∙ take-append-drop s.made notes

notes_of_all : (thread : ℕ) (lists : List (Roomed Note)) (spans : List (List EventSpan)) → CoverEach lists spans
    → notes_of (all_named thread lists spans) ≡ all_notes lists
notes_of_all thread [] spans covers = refl
notes_of_all thread (l ∷ lists) [] covers = absurd covers
notes_of_all thread (l ∷ lists) (ss ∷ spans) (here, covers) =
    notes_of-append (named_in thread 0 l.items ss) (all_named (thread + 1) lists spans)
    ∙ ap (λ (x : List Note). x ++ notes_of (all_named (thread + 1) lists spans))
    (notes_of_thread thread 0 l.items ss (omega (arith, made_is 0 (length l.items) ss here)))
    ∙ ap (λ (x : List Note). l.items ++ x) (notes_of_all (thread + 1) lists spans covers)

abbrev numbers_of : List Numbered → List ℕ
numbers_of ns = map (λ (n : Numbered). n.number) ns

each_differs : (k : ℕ) (ns : List Numbered) → AllByRecursion (λ m. k ≢ m.number) ns
    → AllByRecursion (λ m. eqb k m ≡ false) (numbers_of ns)
each_differs k [] h = tt
each_differs k (n ∷ ns) (h, hs) = (ne_eqb k n.number h, each_differs k ns hs)

distinct_numbers : (ns : List Numbered) → AreDistinct ns → IsDistinct eqb (numbers_of ns)
unfolding IsDistinct
distinct_numbers [] h = tt
distinct_numbers (n ∷ ns) (h, hs) = (each_differs n.number ns h, distinct_numbers ns hs)

-- one of these has the number
record Has (P : Numbered → Type 0) (k : ℕ) : Type 0 where
  item : Numbered
  same : k ≡ item.number
  holds : P item

has_number : (P : Numbered → Type 0) (k : ℕ) (ns : List Numbered) → AllByRecursion P ns
    → list_any (eqb k) (numbers_of ns) ≡ true → Has P k
has_number P k [] h is = cc
has_number P k (n ∷ ns) (h, hs) is =
    ⊎_elim (λ e. record { item = n; same = eqb-true k n.number e; holds = h }) (λ e. has_number P k ns hs e)
    (or_cases (eqb k n.number) (list_any (eqb k) (numbers_of ns)) is)

below_bound : (q k total : ℕ) (ns : List Numbered) → k < total → AllByRecursion (λ n. n.number < total) ns
    → list_any (eqb q) (k ∷ numbers_of ns) ≡ true → q < total
below_bound q k total ns within below is =
    ⊎_elim (λ e. let same : q ≡ k = eqb-true q k e in omega arith)
    (λ e.
    let found : Has (λ n. n.number < total) q = has_number (λ n. n.number < total) q ns below e in
    let bound : found.item.number < total = found.holds in
    let same : q ≡ found.item.number = found.same in omega arith)
    (or_cases (eqb q k) (list_any (eqb q) (numbers_of ns)) is)

-- as many numbers below a bound as there are, no two equal, are all of them
each_number : (k total : ℕ) (ns : List Numbered) → length ns ≡ total → k < total → AreDistinct ns
    → AllByRecursion (λ n. n.number < total) ns → list_any (eqb k) (numbers_of ns) ≡ true
each_number k total ns long within distinct below =
    true_from_ne_false (list_any (eqb k) (numbers_of ns))
    (λ absent.
    let few : length (k ∷ numbers_of ns) ≤ total =
    length-le_from_distinct_below (k ∷ numbers_of ns) total
    (IsDistinct-cons eqb k (numbers_of ns) (each_fails (eqb k) (numbers_of ns) absent) (distinct_numbers ns distinct))
    (λ q is. below_bound q k total ns within below is) in
    let count : length (numbers_of ns) ≡ length ns = length-map ns (λ (n : Numbered). n.number) in omega arith)

numbered_from : (from : ℕ) (history : List Numbered)
    → ((k : ℕ) (x : Numbered) → slice_get history k ≡ Some x → x.number ≡ from + k) → IsNumberedFrom from history
numbered_from from [] h = tt
numbered_from from (x ∷ history) h =
    let here : x.number ≡ from + 0 = h zero x refl in
    let rest : IsNumberedFrom (from + 1) history =
    numbered_from (from + 1) history (λ k y is. let at : y.number ≡ from + suc k = h (suc k) y is in omega arith) in
    (omega arith, rest)

-- no two of these have one number, and each has a place in a history of this length
record Fill (total : ℕ) (names : List Numbered) : Type 0 where
  distinct : AreDistinct names
  within : AllByRecursion (λ (n : Numbered). n.number < total) names

names_fill : (lists : List (Roomed Note)) (spans : List (List EventSpan)) → AreNumbers (all_notes lists)
    → CoverEach lists spans → Fill (length (all_notes lists)) (all_named 0 lists spans)
names_fill lists spans numbers covers =
    let names = all_named 0 lists spans in
    let total = length (all_notes lists) in
    let same : all_notes lists ≡ notes_of names = sym (notes_of_all 0 lists spans covers) in
    record {
      distinct = distinct_from_pairs names
          (subst (λ (l : List Note). AllPairs (λ m n. m.number ≢ n.number) l) same numbers.once);
      within = each_of_notes (λ n. n.number < total) names
          (subst (λ (l : List Note). AllByRecursion (λ n. n.number < total) l) same
          (recursion_from_All (λ n. n.number < total) (all_notes lists) numbers.below));
    }

each_laid : (lists : List (Roomed Note)) (spans : List (List EventSpan)) (blank : List Numbered)
    → length blank ≡ length (all_notes lists) → AreNumbers (all_notes lists) → CoverEach lists spans
    → AllByRecursion (λ n. slice_get (laid (all_named 0 lists spans) blank) n.number ≡ Some n) (all_named 0 lists spans)
each_laid lists spans blank long numbers covers =
    let names = all_named 0 lists spans in
    let fill = names_fill lists spans numbers covers in
    each_stands names blank fill.distinct
    (subst (λ (k : ℕ). AllByRecursion (λ n. n.number < k) names) (sym long) fill.within)

-- all events laid into a history of blanks are merged
pub merged_of_laid : (lists : List (Roomed Note)) (spans : List (List EventSpan)) (blank : List Numbered)
    → length blank ≡ length (all_notes lists) → AreNumbers (all_notes lists) → CoverEach lists spans
    → IsMerged lists spans (laid (all_named 0 lists spans) blank)
merged_of_laid lists spans blank long numbers covers =
    let names = all_named 0 lists spans in
    record {
      whole = length-laid names blank ∙ long;
      each = λ thread at index notes note ss span is_list is_note is_shares is_share low high. record {
        stands = in_threads (λ n. slice_get (laid names blank) n.number ≡ Some n)
            0 thread lists spans thread at index notes note ss span
            (omega arith) (each_laid lists spans blank long numbers covers)
            covers is_list is_note is_shares is_share low high;
      };
    }

-- and in order of their numbers
pub numbered_of_laid : (lists : List (Roomed Note)) (spans : List (List EventSpan)) (blank : List Numbered)
    → length blank ≡ length (all_notes lists) → AreNumbers (all_notes lists) → CoverEach lists spans
    → IsNumberedFrom 0 (laid (all_named 0 lists spans) blank)
numbered_of_laid lists spans blank long numbers covers =
    let names = all_named 0 lists spans in
    let history = laid names blank in
    let total = length (all_notes lists) in
    let fill = names_fill lists spans numbers covers in
    let stands = each_laid lists spans blank long numbers covers in
    let count : length names ≡ total =
    sym (length-map names (λ (n : Numbered). record { number = n.number; event = n.event }))
    ∙ ap length (notes_of_all 0 lists spans covers) in
    numbered_from 0 history
    (λ k x is.
    let within : k < length history = slice_get_within history k x is in
    let long : length history ≡ total = length-laid names blank ∙ long in
    let found : Has (λ n. slice_get history n.number ≡ Some n) k =
    has_number (λ n. slice_get history n.number ≡ Some n) k names stands
    (each_number k total names count (omega arith) fill.distinct fill.within) in
    let there : Some x ≡ Some found.item = sym is ∙ ap (slice_get history) found.same ∙ found.holds in
    let same : x ≡ found.item = same_Some x found.item there in
    let number : x.number ≡ found.item.number = ap (λ (n : Numbered). n.number) same in
    let here : k ≡ found.item.number = found.same in omega arith)

-- the names of all events are those of the threads' and then the script's
pub script_last : (from number : ℕ) (lists : List (Roomed Note)) (threads : List (Roomed Verdict))
    (answers : List Answer) (d : Roomed Note) → number ≡ from + length threads → length lists ≡ length threads + 1
    → all_named from lists (spans_of threads answers)
    ≡ threads_named from lists threads
    ++ named_in number 0 (slice_index_or lists (length threads) d).items (spans_of_answers answers)
script_last from number [] threads answers d e long = absurd (omega arith)
script_last from number (l ∷ []) [] answers d e long =
    let here : from ≡ number = omega arith in
    append-nil (named_in from 0 l.items (spans_of_answers answers))
    ∙ ap (λ (i : ℕ). named_in i 0 l.items (spans_of_answers answers)) here
script_last from number (l ∷ k ∷ lists) [] answers d e long = absurd (omega arith)
script_last from number (l ∷ lists) (t ∷ threads) answers d e long =
    ap (λ (x : List Numbered). named_in from 0 l.items (spans_of_verdicts t.items) ++ x)
    (script_last (from + 1) number lists threads answers d (omega arith) (omega arith))
    ∙ sym (append_assoc (named_in from 0 l.items (spans_of_verdicts t.items)) (threads_named (from + 1) lists threads)
    (named_in number 0 (slice_index_or lists (length threads) d).items (spans_of_answers answers)))

pub covered_thread : (lists : List (Roomed Note)) (threads : List (Roomed Verdict)) (answers : List Answer)
    (k : ℕ) (d : Roomed Note) (e : Roomed Verdict) → CoverEach lists (spans_of threads answers) → k < length threads
    → made_in (spans_of_verdicts (slice_index_or threads k e).items) ≡ length (slice_index_or lists k d).items
covered_thread lists [] answers k d e covers within = absurd (omega arith)
covered_thread [] (t ∷ threads) answers k d e covers within = absurd covers
covered_thread (l ∷ lists) (t ∷ threads) answers zero d e (here, covers) within =
    omega (arith, made_is 0 (length l.items) (spans_of_verdicts t.items) here)
covered_thread (l ∷ lists) (t ∷ threads) answers (suc k) d e (here, covers) within =
    covered_thread lists threads answers k d e covers (omega arith)

pub covered_script : (lists : List (Roomed Note)) (threads : List (Roomed Verdict)) (answers : List Answer)
    (d : Roomed Note) → CoverEach lists (spans_of threads answers)
    → made_in (spans_of_answers answers) ≡ length (slice_index_or lists (length threads) d).items
covered_script [] [] answers d covers = absurd covers
covered_script (l ∷ lists) [] answers d (here, covers) =
    omega (arith, made_is 0 (length l.items) (spans_of_answers answers) here)
covered_script [] (t ∷ threads) answers d covers = absurd covers
covered_script (l ∷ lists) (t ∷ threads) answers d (here, covers) = covered_script lists threads answers d covers

-- what holds of all events holds of those of each list
pub in_each_list : (P : Note → Type 0) (lists : List (Roomed Note)) → All P (all_notes lists)
    → All (λ (l : Roomed Note). All P l.items) lists
in_each_list P [] h k d within = absurd (omega arith)
in_each_list P (l ∷ lists) h zero d within = λ i e short.
    let long = length-append l.items (all_notes lists) in
    subst P (get_or_append_left l.items (all_notes lists) e i short) (h i e (omega arith))
in_each_list P (l ∷ lists) h (suc k) d within =
    in_each_list P lists
    (λ i e short. subst P (get_or-append-add l.items (all_notes lists) i e)
    (h (length l.items + i) e (omega (arith, length-append l.items (all_notes lists)))))
    k d (omega arith)

pub all_placed : (total : ℕ) (lists : List (Roomed Note)) → total ≡ length (all_notes lists)
    → AreNumbers (all_notes lists) → AllHavePlaces total lists
all_placed total lists e numbers =
    in_each_list (λ n. n.number < total) lists
    (subst (λ (k : ℕ). All (λ n. n.number < k) (all_notes lists)) (sym e) numbers.below)

-- a packet's or command's events are laid, and then those of the others
pub share_laid : (thread index made first : ℕ) (notes : List Note) (history new : List Numbered) (s : EventSpan)
    (ss all : List EventSpan) → new ≡ laid (named thread index (take made (drop first notes))) history → made ≡ s.made
    → all ≡ s ∷ ss
    → laid (named_in thread (index + 1) (drop (first + made) notes) ss) new
    ≡ laid (named_in thread index (drop first notes) all) history
share_laid thread index made first notes history new s ss all put e is =
    let rest = drop first notes in
    let later : drop (first + made) notes ≡ drop s.made rest =
    ap (λ (m : ℕ). drop (first + m) notes) e ∙ sym (drop-drop s.made first notes) in
    ap (λ (l : List Note). laid (named_in thread (index + 1) l ss) new) later
    ∙ ap (λ (h : List Numbered). laid (named_in thread (index + 1) (drop s.made rest) ss) h)
    (put ∙ ap (λ (m : ℕ). laid (named thread index (take m rest)) history) e)
    ∙ sym (laid-append (named thread index (take s.made rest)) (named_in thread (index + 1) (drop s.made rest) ss)
    history)
    ∙ ap (λ (x : List EventSpan). laid (named_in thread index rest x) history) (sym is)

pub share_covered : (made first total : ℕ) (s : EventSpan) (ss all : List EventSpan) → made ≡ s.made → all ≡ s ∷ ss
    → first + made_in all ≡ total → first + made + made_in ss ≡ total
share_covered made first total s ss all e is covered =
    let sum : made_in all ≡ s.made + made_in ss = ap made_in is in omega (arith, e, sum, covered)

pub next_verdict : (verdicts : List Verdict) (index : ℕ) (v : Verdict) → slice_get verdicts index ≡ Some v
    → spans_of_verdicts (drop index verdicts)
    ≡ record { first = v.first; made = v.made } ∷ spans_of_verdicts (drop (index + 1) verdicts)
next_verdict verdicts index v is =
    ap (λ (vs : List Verdict). spans_of_verdicts vs)
    (drop_more verdicts index v (slice_get_within verdicts index v is)
    ∙ ap (λ (x : Verdict). x ∷ drop (index + 1) verdicts) (get_or_from_slice_get verdicts index v v is))

pub next_answer : (answers : List Answer) (index : ℕ) (d : Answer) → index < length answers
    → spans_of_answers (drop index answers)
    ≡ record { first = (slice_index_or answers index d).first; made = (slice_index_or answers index d).made }
    ∷ spans_of_answers (drop (index + 1) answers)
next_answer answers index d within =
    ap (λ (vs : List Answer). spans_of_answers vs) (drop_more answers index d within)

-- one more thread's events are laid
pub thread_laid : (thread : ℕ) (lists : List (Roomed Note)) (threads : List (Roomed Verdict)) (t : Roomed Verdict)
    (history new : List Numbered) → thread < length threads → length threads ≤ length lists
    → t ≡ slice_index_or threads thread t
    → new ≡ laid (named_in thread 0 (notes_in lists thread) (spans_of_verdicts t.items)) history
    → laid (threads_named (thread + 1) (drop (thread + 1) lists) (drop (thread + 1) threads)) new
    ≡ laid (threads_named thread (drop thread lists) (drop thread threads)) history
thread_laid thread lists threads t history new within short is_thread is_laid =
    let l : Roomed Note = slice_index_or lists thread no_notes in
    let lists_left = drop (thread + 1) lists in
    let threads_left = drop (thread + 1) threads in
    let later = threads_named (thread + 1) lists_left threads_left in
    let next_list : drop thread lists ≡ l ∷ lists_left = drop_more lists thread _ (omega arith) in
    let next_thread : drop thread threads ≡ t ∷ threads_left =
    drop_more threads thread t within ∙ ap (λ (x : Roomed Verdict). x ∷ threads_left) (sym is_thread) in
    ap (laid later) is_laid
    ∙ sym (laid-append (named_in thread 0 l.items (spans_of_verdicts t.items)) later history)
    ∙ ap (λ (x : List (Roomed Note)). laid (threads_named thread x (t ∷ threads_left)) history) (sym next_list)
    ∙ ap (λ (x : List (Roomed Verdict)). laid (threads_named thread (drop thread lists) x) history) (sym next_thread)

none_named : (thread : ℕ) (lists : List (Roomed Note)) → threads_named thread lists [] ≡ []
none_named thread [] = refl
none_named thread (l ∷ lists) = refl

pub threads_done : (thread : ℕ) (lists : List (Roomed Note)) (threads : List (Roomed Verdict)) (history : List Numbered)
    → length threads ≤ thread → laid (threads_named thread lists (drop thread threads)) history ≡ history
threads_done thread lists threads history past =
    ap (λ (x : List (Roomed Verdict)). laid (threads_named thread lists x) history) (drop_all thread threads past)
    ∙ ap (λ (x : List Numbered). laid x history) (none_named thread lists)

-- the threads' events and then the script's are all events
pub laid_in_turn : (lists : List (Roomed Note)) (threads : List (Roomed Verdict)) (answers : List Answer)
    (blank mid final : List Numbered) → length lists ≡ length threads + 1 → mid ≡ laid (threads_named 0 lists threads) blank
    → final ≡ laid (named_in (length threads) 0 (notes_in lists (length threads)) (spans_of_answers answers)) mid
    → final ≡ laid (all_named 0 lists (spans_of threads answers)) blank
laid_in_turn lists threads answers blank mid final long mid_is final_is =
    let last = named_in (length threads) 0 (notes_in lists (length threads)) (spans_of_answers answers) in
    final_is
    ∙ ap (laid last) mid_is
    ∙ sym (laid-append (threads_named 0 lists threads) last blank)
    ∙ ap (λ (x : List Numbered). laid x blank)
    (sym (script_last 0 (length threads) lists threads answers no_notes (omega arith) long))
