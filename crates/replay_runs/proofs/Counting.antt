-- Events of which each number of a history is that of one are as many as it has, and no two have one number.
use Rattle.std.proofs.Common.{◌≡◌, ℕ, zero, suc, ◌+◌, ◌<◌, ◌≤◌, Bool, true, false, cond, ◌==◌, List, [], ◌∷◌, ◌++◌, length, refl, sym, ap, ◌∙◌, arith}
use Rattle.std.specs.Prelude.{◌≢◌, AllPairs, Some, slice_get}
use Rattle.std.specs.List.{AllByRecursion, count_by}
use Rattle.std.proofs.lemmas.Bool.{eq-eqb, eqb-true, ne_eqb}
use Rattle.std.proofs.lemmas.List.Elements.{All-from_recursion, recursion_from_All}
use Rattle.std.proofs.lemmas.List.Kept.{AllPairs-cons}
use Rattle.std.proofs.lemmas.List.Sums.{sum_by-append, sum_by-cons}
use Rattle.std.proofs.lemmas.Option.{slice_get_within}
use Rattle.history_book.specs.declared.event.Event.{Event}
use Rattle.history_book.specs.declared.event.Note.{Note}
use Rattle.history_book.specs.Close.{AreAllEventsOf}
use Rattle.history_book.specs.Merge.{AreNumbers}
use Rattle.replay_runs.proofs.Marks.{NumbersBelow}

-- how many of the events have this number
abbrev pub times : ℕ → List Note → ℕ
times q notes = count_by (λ (note : Note). note.number == q) notes

pub times_cons : (q : ℕ) (x : Note) (xs : List Note) → times q (x ∷ xs) ≡ cond (x.number == q) 1 0 + times q xs
times_cons q x xs = sum_by-cons (λ (note : Note). cond (note.number == q) 1 0) x xs

pub times_append : (q : ℕ) (xs ys : List Note) → times q (xs ++ ys) ≡ times q xs + times q ys
times_append q xs ys = sum_by-append (λ (note : Note). cond (note.number == q) 1 0) xs ys

-- either a test passes or not
pub either : {A : Type 0} (b : Bool) → (b ≡ true → A) → (b ≡ false → A) → A
either true f g = f refl
either false f g = g refl

times_one : (q : ℕ) (x : Note) (xs : List Note) → x.number ≡ q → times q (x ∷ xs) ≡ 1 + times q xs
times_one q x xs is = times_cons q x xs ∙ ap (λ b. cond b 1 0 + times q xs) (eq-eqb x.number q is)

times_none : (q : ℕ) (x : Note) (xs : List Note) → x.number ≢ q → times q (x ∷ xs) ≡ times q xs
times_none q x xs other = omega (arith, times_cons q x xs, ap {B = ℕ} (λ b. cond b 1 0) (ne_eqb x.number q other))

-- how many have a number below n
abbrev tally : ℕ → List Note → ℕ
tally zero xs = 0
tally (suc n) xs = tally n xs + times n xs

tally_nil : (n : ℕ) → tally n [] ≡ 0
tally_nil zero = refl
tally_nil (suc n) = omega (arith, tally_nil n)

tally_high : (n : ℕ) (x : Note) (xs : List Note) → n ≤ x.number → tally n (x ∷ xs) ≡ tally n xs
tally_high zero x xs high = refl
tally_high (suc n) x xs high = omega (arith, tally_high n x xs (omega (arith, high)), times_none n x xs (λ e. omega (arith, high, e)))

tally_low : (n : ℕ) (x : Note) (xs : List Note) → x.number < n → tally n (x ∷ xs) ≡ 1 + tally n xs
tally_low zero x xs low = absurd (omega (arith, low))
tally_low (suc n) x xs low =
    either (x.number == n)
    (λ e. let is : x.number ≡ n = eqb-true x.number n e in
    omega (arith, tally_high n x xs (omega (arith, is)), times_one n x xs is))
    (λ e. let other : x.number ≢ n = (λ is. absurd (false_true (sym e ∙ eq-eqb x.number n is))) in
    omega (arith, tally_low n x xs (omega (arith, low, other)), times_none n x xs other))
  where
    false_true : false ≡ true → ⊥
    false_true e = absurd (cc e)

tally_all : (n : ℕ) (xs : List Note) → NumbersBelow n xs → tally n xs ≡ length xs
tally_all n [] below = tally_nil n
tally_all n (x ∷ xs) (low, below) = omega (arith, tally_low n x xs low, tally_all n xs below)

tally_ones : (n m : ℕ) (xs : List Note) → n ≤ m → ((q : ℕ) → q < m → times q xs ≡ 1) → tally n xs ≡ n
tally_ones zero m xs le once = refl
tally_ones (suc n) m xs le once = omega (arith, tally_ones n m xs (omega (arith, le)) once, once n (omega (arith, le)))

-- no two have one number
apart : (n : ℕ) (xs : List Note) → NumbersBelow n xs → ((q : ℕ) → q < n → times q xs ≤ 1) → AllPairs (λ (a b : Note). a.number ≢ b.number) xs
apart n [] below once = λ i j d before within. absurd (omega (arith, within))
apart n (x ∷ xs) (low, below) once =
    AllPairs-cons (λ (a b : Note). a.number ≢ b.number) x xs
    (All-from_recursion (λ (b : Note). x.number ≢ b.number) xs
    (others xs (omega (arith, once x.number low, times_one x.number x xs refl))))
    (apart n xs below (λ q within. omega (arith, once q within, times_cons q x xs)))
  where
    others : (ys : List Note) → times x.number ys ≤ 0 → AllByRecursion (λ (b : Note). x.number ≢ b.number) ys
    others [] none = tt
    others (y ∷ ys) none = (
      (λ e. absurd (omega (arith, none, times_one x.number y ys (sym e)))),
      others ys (omega (arith, none, times_cons x.number y ys)),
    )

module _ (log : List Event) (notes : List Note) (all : AreAllEventsOf log notes) where
  pub all_below : NumbersBelow (length log) notes
  all_below = below notes (recursion_from_All (λ (n : Note). slice_get log n.number ≡ Some n.event) notes all.events)
    where
      below : (ns : List Note) → AllByRecursion (λ (n : Note). slice_get log n.number ≡ Some n.event) ns → NumbersBelow (length log) ns
      below [] h = tt
      below (n ∷ ns) (h, hs) = (slice_get_within log n.number n.event h, below ns hs)

  -- all events of a history are as many as it has
  pub all_count : length notes ≡ length log
  all_count =
      sym (tally_all (length log) notes all_below) ∙ tally_ones (length log) (length log) notes (omega arith) all.once

  -- and their numbers are its numbers
  pub all_numbers : AreNumbers notes
  all_numbers = record {
    below = All-from_recursion (λ (n : Note). n.number < length notes) notes (rw all_count all_below);
    once = apart (length log) notes all_below (λ q within. omega (arith, all.once q within));
  }

-- a number that some event has is the number of one of these
pub found : (P : Note → Type 0) (q : ℕ) (xs : List Note) → AllByRecursion P xs → 1 ≤ times q xs → (x : Note) × (x.number ≡ q) × P x
found P q [] h some = absurd (omega (arith, some))
found P q (x ∷ xs) (h, hs) some =
    either (x.number == q) (λ e. (x, eqb-true x.number q e, h))
    (λ e. found P q xs hs (omega (arith, some, times_cons q x xs, ap {B = ℕ} (λ b. cond b 1 0) e)))
