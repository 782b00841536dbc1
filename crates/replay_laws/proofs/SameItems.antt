-- The items of a history of one thread: their numbers, threads and indexes are determined by how many there are and by
-- the spans of the verdicts.
use Rattle.std.proofs.Common.{◌≡◌, ℕ, ◌+◌, ◌-◌, min, ◌++◌, List, [], ◌∷◌, map, length, take, drop, refl, sym, ap, ap₂, ◌∙◌, arith, length-take, length-drop}
use Rattle.std.specs.List.{AllByRecursion}
use Rattle.std.proofs.lemmas.List.{map-append, take-append-drop}
use Rattle.history_book.specs.declared.event.Numbered.{Numbered}
use Rattle.history_book.specs.Merge.{EventSpan}
use Rattle.history_book.specs.Numbered.{IsNumberedFrom, events_of}
use Rattle.replay_runs.specs.Report.{AreNamedFrom}
use Rattle.replay_laws.specs.OneAnswer.{unplaced, unplaced_item}

-- each is the first thread's
abbrev pub AreFirst : List Numbered → Type 0
AreFirst history = AllByRecursion (λ (n : Numbered). n.thread ≡ 0) history

-- ---- the indexes

abbrev pub indexes : List Numbered → List ℕ
indexes history = map (λ (n : Numbered). n.index) history

part_indexes : (index : ℕ) (ns ms : List Numbered) → length ns ≡ length ms
    → AllByRecursion (λ (n : Numbered). n.index ≡ index) ns → AllByRecursion (λ (n : Numbered). n.index ≡ index) ms
    → indexes ns ≡ indexes ms
part_indexes index [] [] e a b = refl
part_indexes index [] (m ∷ ms) e a b = absurd (omega arith)
part_indexes index (n ∷ ns) [] e a b = absurd (omega arith)
part_indexes index (n ∷ ns) (m ∷ ms) e (a, rest) (b, more) =
    ap₂ (λ (x : ℕ) (xs : List ℕ). x ∷ xs) (a ∙ sym b) (part_indexes index ns ms (omega arith) rest more)

pub same_indexes : (spans : List EventSpan) (index : ℕ) (ns ms : List Numbered) → length ns ≡ length ms
    → AreNamedFrom index ns spans → AreNamedFrom index ms spans → indexes ns ≡ indexes ms
same_indexes [] index ns ms e a b = ap indexes (a ∙ sym b)
same_indexes (s ∷ ss) index ns ms e (a, rest) (b, more) =
    let here = part_indexes index (take s.made ns) (take s.made ms)
    (length-take s.made ns ∙ ap (min s.made) e ∙ sym (length-take s.made ms)) a b in
    let behind = same_indexes ss (index + 1) (drop s.made ns) (drop s.made ms)
    (length-drop s.made ns ∙ ap (λ (k : ℕ). k - s.made) e ∙ sym (length-drop s.made ms)) rest more in
    ap indexes (sym (take-append-drop s.made ns)) ∙ map-append (λ (n : Numbered). n.index) (take s.made ns) (drop s.made ns)
    ∙ ap₂ (λ (x y : List ℕ). x ++ y) here behind
    ∙ sym (map-append (λ (n : Numbered). n.index) (take s.made ms) (drop s.made ms)) ∙ ap indexes (take-append-drop s.made ms)

-- ---- the items

same_item : (n m : Numbered) → n.number ≡ m.number → n.thread ≡ m.thread → n.index ≡ m.index → unplaced n.event ≡ unplaced m.event
    → unplaced_item n ≡ unplaced_item m
same_item n m e f g h = λ i. record { number = e i; thread = f i; index = g i; event = h i }

pub same_items : (number : ℕ) (ns ms : List Numbered) → IsNumberedFrom number ns → IsNumberedFrom number ms
    → AreFirst ns → AreFirst ms → indexes ns ≡ indexes ms → map unplaced (events_of ns) ≡ map unplaced (events_of ms)
    → map unplaced_item ns ≡ map unplaced_item ms
same_items number [] [] a b f g e h = refl
same_items number [] (m ∷ ms) a b f g e h = cc
same_items number (n ∷ ns) [] a b f g e h = cc
same_items number (n ∷ ns) (m ∷ ms) (a, rest) (b, more) (f, fs) (g, gs) e h =
    let index : n.index ≡ m.index = cc in
    let indexed : indexes ns ≡ indexes ms = cc in
    let event : unplaced n.event ≡ unplaced m.event = cc in
    let events : map unplaced (events_of ns) ≡ map unplaced (events_of ms) = cc in
    ap₂ (λ (x : Numbered) (xs : List Numbered). x ∷ xs) (same_item n m (a ∙ sym b) (f ∙ sym g) index event)
    (same_items (number + 1) ns ms rest more fs gs indexed events)
