-- What the tests' desk knows is as a desk knows it.
use Rattle.std.proofs.Common.{◌≡◌, ℕ, ◌+◌, ◌<◌, ◌≤◌, ◌^◌, List, [], ◌∷◌, ◌++◌, length, sym, refl, subst, append_assoc, arith, length-append}
use Rattle.std.specs.Prelude.{All, AllPairs, Some, slice_get}
use Rattle.std.proofs.lemmas.List.{length-map}
use Rattle.std.proofs.lemmas.List.Elements.{All-cons, All-nil}
use Rattle.std.proofs.lemmas.List.Kept.{AllPairs-cons}
use Rattle.std.proofs.lemmas.Option.{slice_get_read}
use Rattle.std.proofs.Math.Seq.{get_or-append_seam}
use Rattle.history_book.specs.declared.event.Event.{Event}
use Rattle.history_book.specs.declared.event.Note.{Note}
use Rattle.history_book.specs.declared.event.Numbered.{Numbered}
use Rattle.history_book.specs.Checked.{IsLegalHistory, sizes_with}
use Rattle.history_book.specs.Numbered.{IsNumberedFrom, events_of, notes_of}
use Rattle.history_book.specs.Sight.{IsKnown, notes_from}
use Rattle.shared_tests.specs.Told.{note_of, told_sight}

-- the notes of numbered events
notes_are : (n : ℕ) (history : List Numbered) → IsNumberedFrom n history → notes_of history ≡ notes_from n (events_of history)
notes_are n [] h = refl
notes_are n (e ∷ es) h = λ i. record { number = h.0 i; event = e.event } ∷ notes_are (n + 1) es h.1 i

-- each note is the event at its number
noted_at : (n : ℕ) (before es : List Event) → length before ≡ n → All (λ (note : Note). slice_get (before ++ es) note.number ≡ Some note.event) (notes_from n es)
noted_at n before [] h = All-nil _
noted_at n before (e ∷ es) h =
    let Stands : List Event → Note → Type 0 = λ log note. slice_get log note.number ≡ Some note.event in
    let more : (before ++ e ∷ []) ++ es ≡ before ++ e ∷ es = append_assoc before (e ∷ []) es in
    let rest : All (Stands ((before ++ e ∷ []) ++ es)) (notes_from (n + 1) es) = noted_at (n + 1) (before ++ e ∷ []) es (omega (arith, h, length-append before (e ∷ []))) in
    let here : slice_get (before ++ e ∷ es) n ≡ Some e =
    subst (λ (k : ℕ). slice_get (before ++ e ∷ es) k ≡ Some e) h
    (slice_get_read (before ++ e ∷ es) (length (before ++ e ∷ es)) (length before) e refl (omega (arith, length-append before (e ∷ es))) (sym (get_or-append_seam before e es e))) in
    All-cons (Stands (before ++ e ∷ es)) (record { number = n; event = e }) (notes_from (n + 1) es) here
    (subst (λ (l : List Event). All (Stands l) (notes_from (n + 1) es)) more rest)

-- notes from a number on have no lower one
from_on : (k n : ℕ) (es : List Event) → k < n → All (λ (note : Note). k < note.number) (notes_from n es)
from_on k n [] h = All-nil _
from_on k n (e ∷ es) h = All-cons (λ (note : Note). k < note.number) (record { number = n; event = e }) (notes_from (n + 1) es) h (from_on k (n + 1) es (omega (arith, h)))

-- numbers of notes rise
rising : (n : ℕ) (es : List Event) → AllPairs (λ (l m : Note). l.number < m.number) (notes_from n es)
rising n [] = λ i j d below short. absurd (omega (arith, short))
rising n (e ∷ es) =
    AllPairs-cons (λ (l m : Note). l.number < m.number) (record { number = n; event = e }) (notes_from (n + 1) es) (from_on n (n + 1) es (omega arith)) (rising (n + 1) es)

-- as many notes as events
pub length-own : (history : List Numbered) → length (told_sight history).own ≡ length history
length-own history = length-map {B = Note} history note_of

pub told_knows : (history : List Numbered) → IsLegalHistory (sizes_with 1 0) history → length history ≤ 2 ^ 30 → IsKnown (told_sight history)
told_knows history h few =
    let log : List Event = events_of history in
    let own : notes_of history ≡ notes_from 0 log = notes_are 0 history h.numbers in
    record {
      legal = h.events;
      few = omega (arith, few, length-map {B = Event} history (λ (n : Numbered). n.event));
      own = subst (All (λ (n : Note). slice_get log n.number ≡ Some n.event)) (sym own) (noted_at 0 [] log refl);
      ordered = subst (AllPairs (λ (m n : Note). m.number < n.number)) (sym own) (rising 0 log);
      held = All-nil _;
      agreed = λ i j d below short. absurd (omega (arith, short));
      owed = All-nil _;
      unowed = All-nil _;
      once = λ i j d below short. absurd (omega (arith, short));
      places = omega arith;
      spared = omega (arith, few, length-own history);
      shared = omega arith;
      passes = omega arith;
      gathered = All-nil _;
      gathered_few = omega arith;
      alone = λ one. own;
    }
