-- Histories, whatever the kinds of their events.
use Rattle.std.proofs.Common.{◌≡◌, ℕ, ◌+◌, zero, suc, true, List, [], ◌∷◌, ◌++◌, length, take, refl, sym, ap, subst, ◌∙◌, arith, length-append, Some}
use Rattle.std.specs.List.{slice_get}
use Rattle.std.proofs.lemmas.Bool.{and_from, and_parts}
use Rattle.history_book.specs.declared.event.Event.{Event}
use Rattle.history_book.specs.declared.sizes.Sizes.{Sizes}
use Rattle.history_book.specs.Legality.{may_happen}
use Rattle.history_book.specs.History.{after, is_legal, is_legal_from, run}
use Rattle.history_book.specs.Point.{StartsWith}
use Rattle.history_book.specs.State.{State, empty_state, next}

pub run-append : (s : State) (log more : List Event) → run s (log ++ more) ≡ run (run s log) more
run-append s [] more = refl
run-append s (e ∷ es) more = run-append (next s e) es more

take_whole : (log : List Event) → take (length log) log ≡ log
take_whole [] = refl
take_whole (e ∷ es) = ap (λ xs. e ∷ xs) (take_whole es)

pub after-whole : (log : List Event) → after log (length log) ≡ run empty_state log
unfolding after
after-whole log = ap (run empty_state) (take_whole log)

pub after-push : (log : List Event) (e : Event) → after (log ++ e ∷ []) (length log + 1) ≡ next (after log (length log)) e
after-push log e =
    let whole : length log + 1 ≡ length (log ++ e ∷ []) = sym (simp length-append) in
    ap (after (log ++ e ∷ [])) whole ∙ after-whole (log ++ e ∷ []) ∙ run-append empty_state log (e ∷ [])
    ∙ ap (λ s. next s e) (sym (after-whole log))

legal_from_push : (sizes : Sizes) (n : ℕ) (s : State) (log : List Event) (e : Event) → is_legal_from sizes s n log ≡ true
    → may_happen sizes (run s log) (n + length log) e ≡ true → is_legal_from sizes s n (log ++ e ∷ []) ≡ true
legal_from_push sizes n s [] e legal may =
    let here : n + 0 ≡ n = omega arith in
    and_from _ true (subst (λ k. may_happen sizes s k e ≡ true) here may) refl
legal_from_push sizes n s (x ∷ xs) e legal may =
    let parts = and_parts (may_happen sizes s n x) (is_legal_from sizes (next s x) (n + 1) xs) legal in
    let here : n + suc (length xs) ≡ n + 1 + length xs = omega arith in
    and_from _ _ parts.0
    (legal_from_push sizes (n + 1) (next s x) xs e parts.1 (subst (λ k. may_happen sizes (run (next s x) xs) k e ≡ true) here may))

pub legal_push : (sizes : Sizes) (log : List Event) (e : Event) → is_legal sizes log ≡ true
    → may_happen sizes (after log (length log)) (length log) e ≡ true → is_legal sizes (log ++ e ∷ []) ≡ true
unfolding is_legal
legal_push sizes log e legal may =
    let here : 0 + length log ≡ length log = omega arith in
    let from : may_happen sizes (run empty_state log) (0 + length log) e ≡ true =
    rw here (subst (λ (s : State). may_happen sizes s (length log) e ≡ true) (after-whole log) may) in
    legal_from_push sizes 0 empty_state log e legal from

legal_from_front : (sizes : Sizes) (n : ℕ) (s : State) (log more : List Event) → is_legal_from sizes s n (log ++ more) ≡ true
    → is_legal_from sizes s n log ≡ true
legal_from_front sizes n s [] more legal = refl
legal_from_front sizes n s (x ∷ xs) more legal =
    let parts = and_parts (may_happen sizes s n x) (is_legal_from sizes (next s x) (n + 1) (xs ++ more)) legal in
    and_from _ _ parts.0 (legal_from_front sizes (n + 1) (next s x) xs more parts.1)

pub legal_front : (sizes : Sizes) (log front : List Event) → StartsWith log front → is_legal sizes log ≡ true
    → is_legal sizes front ≡ true
unfolding is_legal
legal_front sizes log front (rest, e) legal =
    legal_from_front sizes 0 empty_state front rest (subst (λ (l : List Event). is_legal_from sizes empty_state 0 l ≡ true) e legal)

may_from : (sizes : Sizes) (n k : ℕ) (s : State) (log : List Event) (e : Event) → is_legal_from sizes s n log ≡ true
    → slice_get log k ≡ Some e → may_happen sizes (run s (take k log)) (n + k) e ≡ true
may_from sizes n k s [] e legal at = cc
may_from sizes n zero s (x ∷ xs) e legal at =
    let parts = and_parts (may_happen sizes s n x) (is_legal_from sizes (next s x) (n + 1) xs) legal in
    let same : x ≡ e = cc in
    let here : n ≡ n + 0 = omega arith in
    subst (λ k. may_happen sizes s k e ≡ true) here (subst (λ (y : Event). may_happen sizes s n y ≡ true) same parts.0)
may_from sizes n (suc k) s (x ∷ xs) e legal at =
    let parts = and_parts (may_happen sizes s n x) (is_legal_from sizes (next s x) (n + 1) xs) legal in
    let here : n + 1 + k ≡ n + suc k = omega arith in
    subst (λ m. may_happen sizes (run (next s x) (take k xs)) m e ≡ true) here (may_from sizes (n + 1) k (next s x) xs e parts.1 at)

pub may_at : (sizes : Sizes) (log : List Event) (n : ℕ) (e : Event) → is_legal sizes log ≡ true → slice_get log n ≡ Some e
    → may_happen sizes (after log n) n e ≡ true
unfolding is_legal after
may_at sizes log n e legal at =
    let here : 0 + n ≡ n = omega arith in
    subst (λ m. may_happen sizes (run empty_state (take n log)) m e ≡ true) here (may_from sizes 0 n empty_state log e legal at)
