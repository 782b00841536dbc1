-- What the fields of the desk of one thread tell its callers.
use Rattle.std.proofs.Common.{◌≡◌, ℕ, Bool, cond, ◌+◌, ◌^◌, ◌<◌, ◌≤◌, List, [], ◌∷◌, ◌++◌, length, refl, sym, ap, subst, ◌∙◌, arith, Option, Some, None, append_assoc, append-nil, length-append, false, ⊎_elim}
use Rattle.std.specs.List.{AllByRecursion, AllPairs, count_by, slice_get}
use Rattle.std.specs.Prelude.{◌≢◌, ◌==◌}
use Rattle.std.proofs.lemmas.List.{length-map, map-append}
use Rattle.room_list.specs.Roomed.{Roomed}
use Rattle.std.proofs.lemmas.Bool.{cases_eq, cases_lt, eq-eqb, ne_eqb}
use Rattle.std.proofs.lemmas.List.Elements.{All-from_recursion}
use Rattle.std.proofs.lemmas.List.Kept.{AllPairs-cons}
use Rattle.std.proofs.lemmas.List.Sums.{sum_by-cons}
use Rattle.std.proofs.Math.Arith.{lt_of_le-ne}
use Rattle.history_book.specs.declared.desk.Hold.{Hold}
use Rattle.history_book.specs.declared.event.Event.{Event}
use Rattle.history_book.specs.declared.event.Note.{Note}
use Rattle.history_book.specs.declared.report.Closed.{Closed}
use Rattle.history_book.specs.Close.{Closes}
use Rattle.history_book.specs.Held.{is_owed}
use Rattle.history_book.specs.Sight.{AreEventsOf, IsForEntryOf, IsHoldOf, IsKnown, Sight, notes_from}
use Rattle.history_book.specs.declared.sizes.Sizes.{Sizes}
use Rattle.history_book.specs.State.{State}
use Rattle.book_desk.specs.declared.book.Book.{Book}
use Rattle.book_desk.specs.Fields.{IsBook}
use Rattle.book_desk.specs.Made.{with_made, noted}
use Rattle.book_desk.specs.Internal.Book.{StaysBook, Tells, sight_in, spare_before}
use Rattle.book_desk.specs.Internal.Plain.{IsPlain, events_of, plain_sight}
use Rattle.book_desk.proofs.Counting.{all_below, apart_once, each_counted}
use Rattle.book_desk.proofs.Histories.{get_last, get_append, notes_from-push}
use Rattle.book_desk.proofs.Lists.{each_map, each_two, none_of}
use Rattle.book_desk.proofs.Pool.{place_below}
use Rattle.book_desk.proofs.References.{pairs_agree}

-- each note is the event at its number
noted_at : (k : ℕ) (before es : List Event) → length before ≡ k
    → AllByRecursion (λ (n : Note). slice_get (before ++ es) n.number ≡ Some n.event) (notes_from k es)
noted_at k before [] h = tt
noted_at k before (e ∷ es) h =
    let more : (before ++ e ∷ []) ++ es ≡ before ++ e ∷ es = append_assoc before (e ∷ []) es in
    let rest : AllByRecursion (λ (n : Note). slice_get ((before ++ e ∷ []) ++ es) n.number ≡ Some n.event) (notes_from (k + 1) es) =
    noted_at (k + 1) (before ++ e ∷ []) es (omega (arith, h, length-append before (e ∷ []))) in (
      ap (slice_get (before ++ e ∷ es)) (sym h) ∙ ap (λ l. slice_get l (length before)) (sym more)
          ∙ get_append (before ++ e ∷ []) es (length before) e (get_last before e),
      subst (λ l. AllByRecursion (λ (n : Note). slice_get l n.number ≡ Some n.event) (notes_from (k + 1) es)) more rest,
    )

-- notes from a number on have no lower one
from_on : (k j : ℕ) (es : List Event) → k ≤ j → AllByRecursion (λ (n : Note). k ≤ n.number) (notes_from j es)
from_on k j [] h = tt
from_on k j (e ∷ es) h = (h, from_on k (j + 1) es (omega (arith, h)))

-- numbers of notes rise
rising : (k : ℕ) (es : List Event) → AllPairs (λ (m n : Note). m.number < n.number) (notes_from k es)
rising k [] = λ i j d below short. absurd (omega (arith, short))
rising k (e ∷ es) =
    AllPairs-cons (λ (m n : Note). m.number < n.number) (record { number = k; event = e }) (notes_from (k + 1) es)
    (All-from_recursion (λ (n : Note). k < n.number) (notes_from (k + 1) es)
    (each_map (λ (n : Note). k + 1 ≤ n.number) (λ (n : Note). k < n.number) (notes_from (k + 1) es) (λ n e. omega (arith, e))
    (from_on (k + 1) (k + 1) es (omega arith))))
    (rising (k + 1) es)

-- as many events as notes
pub length-events : (notes : List Note) → length (events_of notes) ≡ length notes
length-events notes = length-map notes (λ (n : Note). n.event)

-- a right desk knows what a desk knows
pub known : (b : Book) (notes : Roomed Note) (spare taken : ℕ) → IsPlain b notes spare → IsKnown (plain_sight b notes.items spare taken)
known b notes spare taken plain =
    let h : IsBook (events_of notes.items) b = plain.book in
    let log : List Event = events_of notes.items in
    let below : AllByRecursion (λ (k : Hold). k.place < b.sizes.entries) b.holds.items =
    all_below (λ (k : Hold). k.place) b.sizes.entries b.holds.items (λ p above. omega (arith, h.places.beyond p above)) in
    let owing : AllByRecursion (λ p. p < b.sizes.entries) b.owed.items =
    all_below (λ p. p) b.sizes.entries b.owed.items (λ p above. omega (arith, h.places.beyond p above)) in
    record {
      legal = h.history.legal;
      few = omega (arith, length-events notes.items, plain.spared);
      own = All-from_recursion (λ (n : Note). slice_get log n.number ≡ Some n.event) notes.items
          (subst (AllByRecursion (λ (n : Note). slice_get log n.number ≡ Some n.event)) (sym plain.numbered) (noted_at 0 [] log refl));
      ordered = subst (AllPairs (λ (m n : Note). m.number < n.number)) (sym plain.numbered) (rising 0 log);
      held = All-from_recursion (IsHoldOf (plain_sight b notes.items spare taken)) b.holds.items
          (each_two (λ (k : Hold). k.place < b.sizes.entries) (λ (k : Hold). IsForEntryOf log k.place k.id) (IsHoldOf (plain_sight b notes.items spare taken)) b.holds.items
          (λ k low entry. (low, entry)) below h.references.confirmed);
      agreed = pairs_agree b.holds.items h.references.agreed;
      owed = All-from_recursion (λ p. p < b.sizes.entries) b.owed.items owing;
      unowed = All-from_recursion (λ (k : Hold). is_owed k.place b.owed.items ≡ false) b.holds.items
          (each_counted (λ (k : Hold). k.place) (λ p. is_owed p b.owed.items ≡ false) b.holds.items (λ p some.
          none_of (λ q. q == p) b.owed.items (omega (
            arith,
            some,
            h.places.once p
                (place_below b.sizes.entries b.records.items b.holds.items b.free.items b.owed.items p h.places (omega (arith, some))),
          ))));
      once = apart_once b.owed.items (λ p.
          ⊎_elim (λ (e : p < b.sizes.entries). omega (arith, h.places.once p e))
          (λ (e : b.sizes.entries ≤ p). omega (arith, h.places.beyond p e)) (cases_lt p b.sizes.entries));
      places = omega (arith, h.few, plain.one);
      spared = plain.spared;
      shared = omega arith;
      passes = omega (arith, plain.one);
      gathered = λ i d short. absurd (omega (arith, short));
      gathered_few = omega arith;
      alone = λ one. plain.numbered;
    }

-- an event stands once among the notes of its history
abbrev pub numbered : ℕ → Note → Bool
numbered n note = note.number == n

one_by_one : (n k : ℕ) (e : Event) (es : List Event)
    → count_by (numbered n) (notes_from k (e ∷ es)) ≡ cond (k == n) 1 0 + count_by (numbered n) (notes_from (k + 1) es)
one_by_one n k e es = sum_by-cons (λ (note : Note). cond (numbered n note) 1 0) (record { number = k; event = e }) (notes_from (k + 1) es)

-- before its number it is not there
none_from : (n k : ℕ) (es : List Event) → n < k → count_by (numbered n) (notes_from k es) ≡ 0
none_from n k [] low = refl
none_from n k (e ∷ es) low =
    omega (
      arith,
      one_by_one n k e es,
      none_from n (k + 1) es (omega (arith, low)),
      ap {B = ℕ} (λ b. cond b 1 0) (ne_eqb k n (λ (same : k ≡ n). absurd (omega (arith, low, same)))),
    )

pub once_from : (n k : ℕ) (es : List Event) → k ≤ n → n < k + length es → count_by (numbered n) (notes_from k es) ≡ 1
once_from n k [] low high = absurd (omega (arith, low, high))
once_from n k (e ∷ es) low high =
    ⊎_elim (λ (same : k ≡ n).
    omega (arith, one_by_one n k e es, ap {B = ℕ} (λ b. cond b 1 0) (eq-eqb k n same), none_from n (k + 1) es (omega (arith, same))))
    (λ (other : k ≢ n).
    omega (arith, one_by_one n k e es, ap {B = ℕ} (λ b. cond b 1 0) (ne_eqb k n other), once_from n (k + 1) es (omega (arith, lt_of_le-ne low other)) (omega (arith, high))))
    (cases_eq k n)

-- a right desk with another room for its notes
pub roomier : (b : Book) (notes new : Roomed Note) (spare more : ℕ) → IsPlain b notes spare → new.items ≡ notes.items
    → length notes.items + more ≤ new.room → length notes.items + more ≤ 2 ^ 30 → IsPlain b new more
roomier b notes new spare more plain same room spared = record {
  book = subst (λ ns. IsBook (events_of ns) b) (sym same) plain.book;
  numbered = subst (λ ns. ns ≡ notes_from 0 (events_of ns)) (sym same) plain.numbered;
  one = plain.one;
  room = omega (arith, room, ap length same);
  spared = omega (arith, spared, ap length same);
}

-- what a right desk leaves at its end
pub closes : (b : Book) (notes : Roomed Note) (spare taken : ℕ) (closed : Closed) → IsPlain b notes spare → closed.events ≡ b.events
    → closed.live ≡ length b.records.items → closed.notes.items ≡ notes.items → Closes (plain_sight b notes.items spare taken) closed
closes b notes spare taken closed plain events live given =
    let log : List Event = events_of notes.items in
    let all : notes.items ++ [] ≡ notes_from 0 log = append-nil notes.items ∙ plain.numbered in
    record {
      log = log;
      front = ([], sym (append-nil log));
      legal = plain.book.history.legal;
      events = events ∙ plain.book.events;
      live = live ∙ ap (λ (s : State). length s.records) plain.book.history.state;
      notes = given;
      all = record {
        events = subst (AreEventsOf log) (sym (append-nil notes.items)) (known b notes spare taken plain).own;
        once = λ n low. ap (count_by (λ (note : Note). note.number == n)) all ∙ once_from n 0 log (omega arith) (omega (arith, low));
      };
      alone = λ one. refl;
    }

-- what the desk knows is what one pass knows that kept everything
plain_is : (b : Book) (notes : Roomed Note) (spare taken : ℕ) → IsPlain b notes spare
    → plain_sight b notes.items spare taken ≡ sight_in (events_of notes.items) spare taken b
plain_is b notes spare taken plain =
    let sizes : b.sizes ≡ record b.sizes { passes = 1 } = ap (λ (k : ℕ). record b.sizes { passes = k }) plain.one in
    λ i. record {
      front = events_of notes.items;
      own = plain.numbered i;
      held = b.holds.items;
      owed = b.owed.items;
      spare = spare;
      tracker = [];
      sizes = sizes i;
      shares = 1;
      returned = 0;
      gathered = [];
      taken = taken;
    }

-- the events of the notes after a call
events-noted : (notes : List Note) (number : ℕ) (made : Option Event) → events_of (noted notes number made) ≡ with_made (events_of notes) made
events-noted notes number None = refl
events-noted notes number (Some e) = map-append (λ (m : Note). m.event) notes (record { number = number; event = e } ∷ [])

-- they have their numbers
numbered-noted : (notes : List Note) (made : Option Event) → notes ≡ notes_from 0 (events_of notes)
    → noted notes (length notes) made ≡ notes_from 0 (with_made (events_of notes) made)
numbered-noted notes None numbered = numbered
numbered-noted notes (Some e) numbered =
    let number : 0 + length (events_of notes) ≡ length notes = omega (arith, length-events notes) in
    ap (λ ns. ns ++ record { number = length notes; event = e } ∷ []) numbered
    ∙ sym (notes_from-push 0 (events_of notes) e ∙ ap (λ (n : ℕ). notes_from 0 (events_of notes) ++ record { number = n; event = e } ∷ []) number)

pub longer : (notes : List Note) (number : ℕ) (made : Option Event) (spare more : ℕ) → spare ≡ spare_before more made
    → length (noted notes number made) + more ≡ length notes + spare
longer notes number None spare more less = omega (arith, less)
longer notes number (Some e) spare more less = omega (arith, less, length-append notes (record { number = number; event = e } ∷ []))

-- a right desk after a call that made this event, or none
pub record IsNoted (b : Book) (notes new : Roomed Note) (spare more : ℕ) (made : Option Event) : Type 0 where
  pub items : new.items ≡ noted notes.items b.events made
  pub room : new.room ≡ notes.room
  pub less : spare ≡ spare_before more made

pub still_plain : (old new : Book) (notes after : Roomed Note) (spare more : ℕ) (made : Option Event) → IsPlain old notes spare
    → StaysBook old new made → new.sizes ≡ old.sizes → IsNoted old notes after spare more made → IsPlain new after more
still_plain old new notes after spare more made plain stays sizes is =
    let number : old.events ≡ length notes.items = plain.book.events ∙ length-events notes.items in
    let items : after.items ≡ noted notes.items (length notes.items) made = is.items ∙ ap (λ (n : ℕ). noted notes.items n made) number in
    let events : events_of after.items ≡ with_made (events_of notes.items) made =
    ap events_of is.items ∙ events-noted notes.items old.events made in
    let same : length after.items + more ≡ length notes.items + spare =
    ap (λ l. length l + more) is.items ∙ longer notes.items old.events made spare more is.less in
    record {
      book = subst (λ l. IsBook l new) (sym events) (stays (events_of notes.items) plain.book);
      numbered = items ∙ numbered-noted notes.items made plain.numbered ∙ ap (notes_from 0) (sym events);
      one = ap (λ (z : Sizes). z.passes) sizes ∙ plain.one;
      room = omega (arith, plain.room, same, is.room);
      spared = omega (arith, plain.spared, same);
    }

-- what the call says of one pass that kept everything it says of the desk
pub plain_says : (Says : Sight → Sight → Type 0) (old new : Book) (notes after : Roomed Note) (spare more taken : ℕ) (made : Option Event)
    → IsPlain old notes spare → IsPlain new after more → IsNoted old notes after spare more made → Tells old new made Says
    → Says (plain_sight old notes.items spare taken) (plain_sight new after.items more taken)
plain_says Says old new notes after spare more taken made plain plain' is tells =
    let events : events_of after.items ≡ with_made (events_of notes.items) made =
    ap events_of is.items ∙ events-noted notes.items old.events made in
    let told : Says (sight_in (events_of notes.items) (spare_before more made) taken old) (sight_in (with_made (events_of notes.items) made) more taken new) =
    tells (events_of notes.items) more taken plain.book in
    let before : sight_in (events_of notes.items) (spare_before more made) taken old ≡ plain_sight old notes.items spare taken =
    ap (λ (k : ℕ). sight_in (events_of notes.items) k taken old) (sym is.less) ∙ sym (plain_is old notes spare taken plain) in
    let behind : sight_in (with_made (events_of notes.items) made) more taken new ≡ plain_sight new after.items more taken =
    ap (λ l. sight_in l more taken new) (sym events) ∙ sym (plain_is new after more taken plain') in
    subst (Says (plain_sight old notes.items spare taken)) behind
    (subst (λ (s : Sight). Says s (sight_in (with_made (events_of notes.items) made) more taken new)) before told)
