-- Facts at points and events at numbers stay as a history goes on.
use Rattle.std.proofs.Common.{◌≡◌, ℕ, ◌≤◌, zero, suc, List, [], ◌∷◌, ◌++◌, length, take, Some, sym, ap, ◌∙◌, append_assoc, append-nil, length-append, arith}
use Rattle.std.proofs.lemmas.List.{take-append-le}
use Rattle.std.specs.List.{slice_get}
use Rattle.history_book.specs.declared.event.Event.{Event}
use Rattle.history_book.specs.History.{after, run}
use Rattle.history_book.specs.Point.{StartsWith}
use Rattle.history_book.specs.State.{empty_state}

pub starts_refl : (log : List Event) → StartsWith log log
starts_refl log = ([], sym (append-nil log))

pub starts_trans : (a b c : List Event) → StartsWith a b → StartsWith b c → StartsWith a c
starts_trans a b c (r, e) (s, f) = (s ++ r, e ∙ ap (λ x. x ++ r) f ∙ append_assoc c s r)

pub starts_push : (log front : List Event) (e : Event) → StartsWith log front → StartsWith (log ++ e ∷ []) front
starts_push log front e (r, h) = (r ++ e ∷ [], ap (λ x. x ++ e ∷ []) h ∙ append_assoc front r (e ∷ []))

pub length_grows : (longer log : List Event) → StartsWith longer log → length log ≤ length longer
length_grows longer log (r, e) = omega (arith, ap length e, length-append log r)

-- what stands at a place of a list stands there when the list goes on
pub get_append : {X : Type 0} (xs ys : List X) (i : ℕ) (x : X) → slice_get xs i ≡ Some x → slice_get (xs ++ ys) i ≡ Some x
get_append [] ys i x h = cc
get_append (y ∷ xs) ys zero x h = h
get_append (y ∷ xs) ys (suc i) x h = get_append xs ys i x h

pub get_grows : (longer log : List Event) (i : ℕ) (e : Event) → StartsWith longer log
    → slice_get log i ≡ Some e → slice_get longer i ≡ Some e
get_grows longer log i e (r, h) at = rw h (get_append log r i e at)

pub after-grows : (longer log : List Event) (p : ℕ) → StartsWith longer log → p ≤ length log
    → after longer p ≡ after log p
unfolding after
after-grows longer log p (r, h) within = ap (run empty_state) (ap (take p) h ∙ take-append-le p log r within)
