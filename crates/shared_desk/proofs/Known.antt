-- What a desk knows, after one of its calls, holds as before.
use Rattle.std.specs.List.{All, AllByRecursion, AllPairs, slice_get}
use Rattle.std.specs.Prelude.{◌==◌, ◌^◌}
use Rattle.std.proofs.Common.{◌≡◌, ◌≢◌, ℕ, ◌+◌, ◌<◌, ◌≤◌, true, false, Option, Some, None, List, [], ◌∷◌, ◌++◌, length, refl, sym, ap, subst, ◌∙◌, arith, length-append}
use Rattle.std.proofs.lemmas.Bool.{eq-eqb, false≢true, ne_eqb, or_from}
use Rattle.std.proofs.lemmas.List.Elements.{All-append, All-cons, All-from_recursion, All-nil, recursion_from_All}
use Rattle.std.proofs.lemmas.List.Kept.{AllPairs-cons}
use Rattle.history_book.specs.declared.desk.Hold.{Hold}
use Rattle.history_book.specs.declared.event.Event.{Event}
use Rattle.history_book.specs.declared.event.Note.{Note}
use Rattle.history_book.specs.Held.{is_at, is_held, is_owed, paid, without}
use Rattle.history_book.specs.History.{is_legal}
use Rattle.history_book.specs.Point.{StartsWith}
use Rattle.history_book.specs.Sight.{AreEventsOf, IsForEntryOf, IsForOne, IsHoldOf, IsKnown, Sight, WasConfirmedIn, notes_from}
use Rattle.shared_desk.proofs.Lists.{all_less, each_map, get_append, length_less, none_each, none_less, pairs_less}

-- an event of a history is one of each that begins with it
event_later : (log front : List Event) (n : ℕ) (e : Event) → StartsWith log front → slice_get front n ≡ Some e → slice_get log n ≡ Some e
event_later log front n e (more, same) at = subst (λ es. slice_get es n ≡ Some e) (sym same) (get_append front more n e at)

pub events_later : (log front : List Event) (notes : List Note) → StartsWith log front → AreEventsOf front notes → AreEventsOf log notes
events_later log front notes starts h = λ i d short. event_later log front _ _ starts (h i d short)

pub entry_later : (log front : List Event) (place : ℕ) (id : Option ℕ) → StartsWith log front → IsForEntryOf front place id → IsForEntryOf log place id
entry_later log front place None starts h = tt
entry_later log front place (Some id) starts h = record { subject = h.subject; event = event_later log front id _ starts h.event; placed = h.placed }

-- it took another number of places
pub counted : (s : Sight) (n : ℕ) → IsKnown s → IsKnown (record s { taken = n })
counted s n k = record {
  legal = k.legal;
  few = k.few;
  own = k.own;
  ordered = k.ordered;
  held = k.held;
  agreed = k.agreed;
  owed = k.owed;
  unowed = k.unowed;
  once = k.once;
  places = k.places;
  spared = k.spared;
  shared = k.shared;
  passes = k.passes;
  gathered = k.gathered;
  gathered_few = k.gathered_few;
  alone = k.alone;
}

-- it has seen more
pub known_later : (s : Sight) (log : List Event) → IsKnown s → StartsWith log s.front → is_legal s.sizes log ≡ true → length log < 2 ^ 40
    → (s.sizes.passes ≡ 1 → s.own ≡ notes_from 0 log) → IsKnown (record s { front = log })
known_later s log k starts legal few alone = record {
  legal = legal;
  few = few;
  own = events_later log s.front s.own starts k.own;
  ordered = k.ordered;
  held = λ i d short. let h = k.held i d short in (h.0, entry_later log s.front _ _ starts h.1);
  agreed = k.agreed;
  owed = k.owed;
  unowed = k.unowed;
  once = k.once;
  places = k.places;
  spared = k.spared;
  shared = k.shared;
  passes = k.passes;
  gathered = events_later log s.front s.gathered starts k.gathered;
  gathered_few = k.gathered_few;
  alone = alone;
}

-- it holds and owes other places
known_places : (s : Sight) (held : List Hold) (owed : List ℕ) → IsKnown s → All (IsHoldOf s) held → AllPairs IsForOne held
    → All (λ p. p < s.sizes.entries) owed → All (λ (h : Hold). is_owed h.place owed ≡ false) held → AllPairs (λ p q. p ≢ q) owed
    → length held + length owed ≤ 4 → IsKnown (record s { held = held; owed = owed })
known_places s held owed k holds agreed owes unowed once few = record {
  legal = k.legal;
  few = k.few;
  own = k.own;
  ordered = k.ordered;
  held = holds;
  agreed = agreed;
  owed = owes;
  unowed = unowed;
  once = once;
  places = few;
  spared = k.spared;
  shared = k.shared;
  passes = k.passes;
  gathered = k.gathered;
  gathered_few = k.gathered_few;
  alone = k.alone;
}

-- a place more, which it neither held nor owed
pub known_taken : (s : Sight) (place : ℕ) → IsKnown s → place < s.sizes.entries → is_held place s.held ≡ false → is_owed place s.owed ≡ false
    → length s.held + length s.owed ≤ 3 → IsKnown (record s { held = record { place = place; id = None } ∷ s.held })
known_taken s place k below unheld unowed few =
    let new : Hold = record { place = place; id = None } in
    known_places s (new ∷ s.held) s.owed k (All-cons (IsHoldOf s) new s.held (below, tt) k.held)
    (AllPairs-cons IsForOne new s.held
    (All-from_recursion (IsForOne new) s.held
    (each_map (λ h. is_at place h ≡ false) (IsForOne new)
    (λ h e. record {
      same = λ i. absurd (false≢true (sym e ∙ eq-eqb h.place place (sym i)));
      entry = λ i. absurd (false≢true (sym e ∙ eq-eqb h.place place (sym i)));
    }) s.held (none_each (is_at place) s.held unheld))) k.agreed)
    k.owed (All-cons (λ (h : Hold). is_owed h.place s.owed ≡ false) new s.held unowed k.unowed) k.once (omega (arith, few))

-- a place once more, for an entry that was confirmed in it; what is held of it already is for that
pub known_held : (s : Sight) (place id : ℕ) → IsKnown s → place < s.sizes.entries → WasConfirmedIn s.front place id
    → AllByRecursion (λ (h : Hold). h.place ≡ place → h.id ≡ Some id) s.held → is_owed place s.owed ≡ false → length s.held + length s.owed ≤ 3
    → IsKnown (record s { held = record { place = place; id = Some id } ∷ s.held })
known_held s place id k below was agreed unowed few =
    let new : Hold = record { place = place; id = Some id } in
    known_places s (new ∷ s.held) s.owed k (All-cons (IsHoldOf s) new s.held (below, was) k.held)
    (AllPairs-cons IsForOne new s.held
    (All-from_recursion (IsForOne new) s.held
    (each_map (λ (h : Hold). h.place ≡ place → h.id ≡ Some id) (IsForOne new)
    (λ h its. record { same = λ i. sym (its (sym i)); entry = λ i. refl }) s.held agreed)) k.agreed)
    k.owed (All-cons (λ (h : Hold). is_owed h.place s.owed ≡ false) new s.held unowed k.unowed) k.once (omega (arith, few))

-- one reference less
pub known_kept : (s : Sight) (place : ℕ) → IsKnown s → is_held place s.held ≡ true → IsKnown (record s { held = without place s.held })
known_kept s place k there =
    known_places s (without place s.held) s.owed k
    (all_less (is_at place) (without place) refl (λ h hs. refl) (IsHoldOf s) s.held k.held)
    (pairs_less (is_at place) (without place) refl (λ h hs. refl) IsForOne s.held k.agreed) k.owed
    (all_less (is_at place) (without place) refl (λ h hs. refl) (λ (h : Hold). is_owed h.place s.owed ≡ false) s.held k.unowed) k.once
    (omega (arith, k.places, length_less (is_at place) (without place) refl (λ h hs. refl) s.held there))

-- a place that is not held is owed
owed_apart : (place : ℕ) (owed : List ℕ) (hs : List Hold) → AllByRecursion (λ h. is_at place h ≡ false) hs → AllByRecursion (λ (h : Hold). is_owed h.place owed ≡ false) hs
    → AllByRecursion (λ (h : Hold). is_owed h.place (place ∷ owed) ≡ false) hs
owed_apart place owed [] a b = tt
owed_apart place owed (h ∷ hs) a b = (
  or_from (place == h.place) (is_owed h.place owed)
      (ne_eqb place h.place (λ i. false≢true (sym a.0 ∙ eq-eqb h.place place (sym i)))) b.0,
  owed_apart place owed hs a.1 b.1,
)

pub known_owing : (s : Sight) (place : ℕ) → IsKnown s → place < s.sizes.entries → is_held place s.held ≡ false → is_owed place s.owed ≡ false
    → length s.held + length s.owed ≤ 3 → IsKnown (record s { owed = place ∷ s.owed })
known_owing s place k below unheld unowed few =
    known_places s s.held (place ∷ s.owed) k k.held k.agreed (All-cons (λ p. p < s.sizes.entries) place s.owed below k.owed)
    (All-from_recursion (λ (h : Hold). is_owed h.place (place ∷ s.owed) ≡ false) s.held
    (owed_apart place s.owed s.held (none_each (is_at place) s.held unheld) (recursion_from_All (λ (h : Hold). is_owed h.place s.owed ≡ false) s.held k.unowed)))
    (AllPairs-cons (λ p q. p ≢ q) place s.owed
    (All-from_recursion (λ q. place ≢ q) s.owed
    (each_map (λ q. (q == place) ≡ false) (λ q. place ≢ q) (λ q e i. false≢true (sym e ∙ eq-eqb q place (sym i))) s.owed
    (none_each (λ q. q == place) s.owed unowed))) k.once)
    (omega (arith, few))

-- and that was the last one, so the place is owed
pub known_owes : (s : Sight) (place : ℕ) → IsKnown s → is_held place s.held ≡ true → is_held place (without place s.held) ≡ false
    → place < s.sizes.entries → is_owed place s.owed ≡ false → IsKnown (record s { held = without place s.held; owed = place ∷ s.owed })
known_owes s place k there gone below unowed =
    let less : IsKnown (record s { held = without place s.held }) = known_kept s place k there in
    known_places s (without place s.held) (place ∷ s.owed) k less.held less.agreed (All-cons (λ p. p < s.sizes.entries) place s.owed below k.owed)
    (All-from_recursion (λ (h : Hold). is_owed h.place (place ∷ s.owed) ≡ false) (without place s.held)
    (owed_apart place s.owed (without place s.held) (none_each (is_at place) (without place s.held) gone)
    (recursion_from_All (λ (h : Hold). is_owed h.place s.owed ≡ false) (without place s.held) less.unowed)))
    (AllPairs-cons (λ p q. p ≢ q) place s.owed
    (All-from_recursion (λ q. place ≢ q) s.owed
    (each_map (λ q. (q == place) ≡ false) (λ q. place ≢ q) (λ q e i. false≢true (sym e ∙ eq-eqb q place (sym i))) s.owed
    (none_each (λ q. q == place) s.owed unowed))) k.once)
    (omega (arith, k.places, length_less (is_at place) (without place) refl (λ h hs. refl) s.held there))

-- a place is owed no longer
pub known_paid : (s : Sight) (place : ℕ) → IsKnown s → is_owed place s.owed ≡ true → IsKnown (record s { owed = paid place s.owed })
known_paid s place k there =
    known_places s s.held (paid place s.owed) k k.held k.agreed
    (all_less (λ p. p == place) (paid place) refl (λ p ps. refl) (λ p. p < s.sizes.entries) s.owed k.owed)
    (λ i d short. none_less (λ p. p == place) (paid place) refl (λ p ps. refl) _ s.owed (k.unowed i d short))
    (pairs_less (λ p. p == place) (paid place) refl (λ p ps. refl) (λ p q. p ≢ q) s.owed k.once)
    (omega (arith, k.places, length_less (λ p. p == place) (paid place) refl (λ p ps. refl) s.owed there))

-- a desk that keeps no place, and made and gathered nothing
pub known_fresh : (s : Sight) → is_legal s.sizes s.front ≡ true → length s.front < 2 ^ 40 → s.own ≡ [] → s.held ≡ [] → s.owed ≡ [] → s.spare ≡ 0
    → s.gathered ≡ [] → 1 ≤ s.shares → s.shares + s.returned ≤ s.sizes.passes → (s.sizes.passes ≡ 1 → s.own ≡ notes_from 0 s.front) → IsKnown s
known_fresh s legal few own held owed spare gathered has_some passes alone = record {
  legal = legal;
  few = few;
  own = subst (AreEventsOf s.front) (sym own) (All-nil (λ (n : Note). slice_get s.front n.number ≡ Some n.event));
  ordered = subst (AllPairs (λ (m n : Note). m.number < n.number)) (sym own) (λ i j d before short. absurd (omega (arith, before, short)));
  held = subst (All (IsHoldOf s)) (sym held) (All-nil (IsHoldOf s));
  agreed = subst (AllPairs IsForOne) (sym held) (λ i j d before short. absurd (omega (arith, before, short)));
  owed = subst (All (λ p. p < s.sizes.entries)) (sym owed) (All-nil (λ p. p < s.sizes.entries));
  unowed = subst (All (λ (h : Hold). is_owed h.place s.owed ≡ false)) (sym held) (All-nil (λ (h : Hold). is_owed h.place s.owed ≡ false));
  once = subst (AllPairs (λ p q. p ≢ q)) (sym owed) (λ i j d before short. absurd (omega (arith, before, short)));
  places = omega (arith, ap length held, ap length owed);
  spared = omega (arith, ap length own, spare);
  shared = has_some;
  passes = passes;
  gathered = subst (AreEventsOf s.front) (sym gathered) (All-nil (λ (n : Note). slice_get s.front n.number ≡ Some n.event));
  gathered_few = omega (arith, ap length gathered);
  alone = alone;
}

-- a desk took in another one, and then saw all that either had seen
pub known_joined : (s other : Sight) (log : List Event) → IsKnown s → IsKnown other → StartsWith log s.front → StartsWith log other.front
    → is_legal s.sizes log ≡ true → length log < 2 ^ 40 → s.shares + (s.returned + (other.shares + other.returned)) ≤ s.sizes.passes
    → (s.sizes.passes ≡ 1 → s.own ≡ notes_from 0 log)
    → IsKnown (record s { front = log; returned = s.returned + (other.shares + other.returned); gathered = s.gathered ++ other.own ++ other.gathered })
known_joined s other log k l starts begins legal few passes alone =
    let later : IsKnown (record s { front = log }) = known_later s log k starts legal few alone in
    record {
      legal = legal;
      few = few;
      own = later.own;
      ordered = k.ordered;
      held = later.held;
      agreed = k.agreed;
      owed = k.owed;
      unowed = k.unowed;
      once = k.once;
      places = k.places;
      spared = k.spared;
      shared = k.shared;
      passes = passes;
      gathered = All-append (λ (n : Note). slice_get log n.number ≡ Some n.event) (s.gathered ++ other.own) other.gathered
          (All-append (λ (n : Note). slice_get log n.number ≡ Some n.event) s.gathered other.own later.gathered
          (events_later log other.front other.own begins l.own)) (events_later log other.front other.gathered begins l.gathered);
      gathered_few = omega (
        arith,
        length-append (s.gathered ++ other.own) other.gathered,
        length-append s.gathered other.own,
        k.gathered_few,
        l.gathered_few,
        l.spared,
        l.shared,
      );
      alone = alone;
    }
