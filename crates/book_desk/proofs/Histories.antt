-- What an event more leaves of the history, and what is told of it.
use Rattle.std.proofs.Common.{◌≡◌, ℕ, ◌+◌, zero, suc, true, List, [], ◌∷◌, ◌++◌, length, refl, sym, ap, subst, ◌∙◌, arith, Some, length-append, append-nil}
use Rattle.std.specs.List.{slice_get}
use Rattle.history_book.specs.declared.event.Event.{Event}
use Rattle.history_book.specs.declared.sizes.Sizes.{Sizes}
use Rattle.history_book.specs.History.{after}
use Rattle.history_book.specs.Laws.{LegalHistoriesGoOn, StatesFollow, StatesStay}
use Rattle.history_book.specs.Legality.{may_happen}
use Rattle.history_book.specs.Point.{At}
use Rattle.history_book.specs.Sight.{notes_from}
use Rattle.history_book.specs.State.{State, next}
use Rattle.history_book.specs.WentOn.{IsSamePass, Looked, MadeEvent, Saw}
use Rattle.book_desk.specs.declared.book.Book.{Book}
use Rattle.book_desk.specs.Fields.{IsBook, IsHistory, state_in}
use Rattle.book_desk.specs.Internal.Book.{sight_in}

-- one note more, with the next number
pub notes_from-push : (k : ℕ) (es : List Event) (e : Event)
    → notes_from k (es ++ e ∷ []) ≡ notes_from k es ++ record { number = k + length es; event = e } ∷ []
notes_from-push k [] e = ap (λ (n : ℕ). record { number = n; event = e } ∷ []) (omega arith)
notes_from-push k (x ∷ xs) e =
    ap (λ ns. record { number = k; event = x } ∷ ns) (notes_from-push (k + 1) xs e
    ∙ ap (λ (n : ℕ). notes_from (k + 1) xs ++ record { number = n; event = e } ∷ []) (omega arith))

-- the history goes on with an event that may happen
pub history_next : StatesFollow → LegalHistoriesGoOn → (sizes : Sizes) (log : List Event) (s s' : State) (e : Event)
    → IsHistory sizes log s → may_happen sizes s (length log) e ≡ true → s' ≡ next s e → IsHistory sizes (log ++ e ∷ []) s'
history_next follow goes_on sizes log s s' e h may state =
    let one : length (log ++ e ∷ []) ≡ length log + 1 = length-append log (e ∷ []) in
    record {
      legal = goes_on sizes log e h.legal (subst (λ (t : State). may_happen sizes t (length log) e ≡ true) h.state may);
      state = state ∙ ap (λ (t : State). next t e) h.state ∙ sym (follow log e) ∙ ap (after (log ++ e ∷ [])) (sym one);
    }

-- what stands at an index stands there when the list goes on
pub get_append : {X : Type 0} (xs ys : List X) (i : ℕ) (x : X) → slice_get xs i ≡ Some x → slice_get (xs ++ ys) i ≡ Some x
get_append [] ys i x h = cc
get_append (y ∷ xs) ys zero x h = h
get_append (y ∷ xs) ys (suc i) x h = get_append xs ys i x h

-- the last item stands at the old length
pub get_last : {X : Type 0} (xs : List X) (x : X) → slice_get (xs ++ x ∷ []) (length xs) ≡ Some x
get_last [] x = refl
get_last (y ∷ ys) x = get_last ys x

-- the pass is the same
same_pass : (log later : List Event) (spare less taken : ℕ) (old new : Book) → new.sizes ≡ old.sizes
    → IsSamePass (sight_in log spare taken old) (sight_in later less taken new)
same_pass log later spare less taken old new sizes = record {
  tracker = refl;
  sizes = ap (λ (z : Sizes). record z { passes = 1 }) sizes;
  shares = refl;
  returned = refl;
  gathered = refl;
}

-- what is told where there was no event
pub saw : (log : List Event) (spare taken : ℕ) (old new : Book) → new.sizes ≡ old.sizes → Saw (sight_in log spare taken old) (sight_in log spare taken new)
saw log spare taken old new sizes = record {
  went = record {
    front = ([], sym (append-nil log));
    own = sym (append-nil (notes_from 0 log));
    spare = omega arith;
    pass = same_pass log log spare spare taken old new sizes;
  };
  spare = refl;
  taken = refl;
}

-- what is told of a point
pub looked : (log : List Event) (spare taken : ℕ) (old new : Book) (at : ℕ) (F : State → Type 0) → IsBook log old → at ≡ old.events
    → new.sizes ≡ old.sizes → F (state_in old) → Looked (sight_in log spare taken old) (sight_in log spare taken new) at F
looked log spare taken old new at F book here sizes fact =
    let point : length log ≡ at = sym book.events ∙ sym here in
    record {
      saw = saw log spare taken old new sizes;
      low = omega (arith, point);
      fact = record { within = omega (arith, point); fact = subst F (book.history.state ∙ ap (after log) point) fact };
    }

-- what is told of an event
pub made : (log : List Event) (spare taken : ℕ) (old new : Book) (at : ℕ) (e : Event) → IsBook log old → at ≡ old.events
    → new.sizes ≡ old.sizes → MadeEvent (sight_in log (spare + 1) taken old) (sight_in (log ++ e ∷ []) spare taken new) at e
made log spare taken old new at e book here sizes =
    let point : length log ≡ at = sym book.events ∙ sym here in
    let number : 0 + length log ≡ at = omega (arith, point) in
    record {
      went = record {
        front = (e ∷ [], refl);
        own = notes_from-push 0 log e ∙ ap (λ (n : ℕ). notes_from 0 log ++ record { number = n; event = e } ∷ []) number;
        spare = omega arith;
        pass = same_pass log (log ++ e ∷ []) (spare + 1) spare taken old new sizes;
      };
      spare = refl;
      taken = refl;
      low = omega (arith, point);
      high = omega (arith, point, length-append log (e ∷ []));
      happened = ap (slice_get (log ++ e ∷ [])) (sym point) ∙ get_last log e;
    }

-- what was so before an event is so at the point before it
pub at_before : StatesStay → (log : List Event) (old : Book) (at : ℕ) (e : Event) (F : State → Type 0) → IsBook log old → at ≡ old.events
    → F (state_in old) → At (log ++ e ∷ []) at F
at_before stay log old at e F book here fact =
    let point : length log ≡ at = sym book.events ∙ sym here in
    let later = stay (log ++ e ∷ []) log at (e ∷ [], refl) (omega (arith, point)) in
    record { within = later.0; fact = subst F (book.history.state ∙ ap (after log) point ∙ sym later.1) fact }
