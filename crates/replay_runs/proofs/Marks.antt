-- Marks, and the numbers of a desk's own events, stay within its front.
use Rattle.std.proofs.Common.{◌≡◌, ℕ, ◌+◌, ◌<◌, ◌≤◌, List, [], ◌∷◌, ◌++◌, length, max, Some, slice_get, subst, ap, ◌∙◌, arith, append_assoc}
use Rattle.std.specs.List.{AllByRecursion}
use Rattle.std.proofs.lemmas.List.Elements.{recursion_from_All}
use Rattle.std.proofs.lemmas.Option.{slice_get_within}
use Rattle.history_book.specs.declared.event.Event.{Event}
use Rattle.history_book.specs.declared.event.Note.{Note}
use Rattle.history_book.specs.Mark.{mark_at, mark_past}
use Rattle.history_book.specs.Point.{StartsWith}
use Rattle.history_book.specs.Sight.{IsKnown, Sight}
use Rattle.replay_runs.proofs.Each.{each_end}

-- the numbers of these events are below n
abbrev pub NumbersBelow : ℕ → List Note → Type 0
NumbersBelow n own = AllByRecursion (λ (x : Note). x.number < n) own

-- a mark stays within a history that has the events
pub mark_past-le : (n mark : ℕ) (own : List Note) → mark ≤ n → NumbersBelow n own → mark_past mark own ≤ n
mark_past-le n mark [] le h = le
mark_past-le n mark (x ∷ xs) le (h, hs) = mark_past-le n (max mark (x.number + 1)) xs (omega arith) hs

-- and the points
pub mark_at-le : (n mark : ℕ) (points : List ℕ) → mark ≤ n → AllByRecursion (λ p. p ≤ n) points → mark_at mark points ≤ n
mark_at-le n mark [] le h = le
mark_at-le n mark (p ∷ ps) le (h, hs) = mark_at-le n (max mark p) ps (omega arith) hs

-- events of a history have numbers below its length
numbers_within : (front : List Event) (own : List Note) → AllByRecursion (λ (n : Note). slice_get front n.number ≡ Some n.event) own
    → NumbersBelow (length front) own
numbers_within front [] h = tt
numbers_within front (n ∷ ns) (h, hs) = (slice_get_within front n.number n.event h, numbers_within front ns hs)

-- a desk's own events have numbers below the length of its front
pub own_within : (s : Sight) → IsKnown s → NumbersBelow (length s.front) s.own
own_within s known =
    numbers_within s.front s.own (recursion_from_All (λ (n : Note). slice_get s.front n.number ≡ Some n.event) s.own known.own)

-- and so have the later ones of them
pub own_below : (s : Sight) (before own : List Note) → IsKnown s → s.own ≡ before ++ own → NumbersBelow (length s.front) own
own_below s before own known added =
    each_end (λ (x : Note). x.number < length s.front) before own
    (subst (NumbersBelow (length s.front)) added (own_within s known))

-- a history that goes on from one that went on
pub starts_on : (longest longer log : List Event) → StartsWith longest longer → StartsWith longer log → StartsWith longest log
starts_on longest longer log (more, later) (rest, first) =
    (rest ++ more, later ∙ ap (λ l. l ++ more) first ∙ append_assoc log rest more)
