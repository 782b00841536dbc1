-- A history of several threads' events, and what each of them made of it.
use Rattle.std.proofs.Common.{◌≡◌, ℕ, zero, suc, ◌+◌, ◌-◌, ◌<◌, ◌≤◌, Bool, true, false, cond, ◌==◌, List, [], ◌∷◌, length, Some, slice_get, inl, inr, refl, sym, ap, subst, ◌∙◌, arith}
use Rattle.std.specs.Prelude.{◌⊎◌, ◌≢◌, AllPairs}
use Rattle.std.specs.List.{AllByRecursion}
use Rattle.std.proofs.lemmas.Bool.{eq-eqb, eqb-true}
use Rattle.std.proofs.lemmas.List.Elements.{recursion_from_All}
use Rattle.std.proofs.lemmas.Option.{get_or_from_slice_get, slice_get_within}
use Rattle.history_book.specs.declared.event.Event.{Event}
use Rattle.history_book.specs.declared.event.Note.{Note}
use Rattle.history_book.specs.declared.event.Numbered.{Numbered}
use Rattle.history_book.specs.Numbered.{events_of, IsNumberedFrom, notes_of}
use Rattle.replay_runs.specs.Report.{made_by}
use Rattle.replay_runs.proofs.Counting.{either, times, times_cons}
use Rattle.replay_runs.proofs.Each.{each_both, each_passed, each_weaker}

-- the numbers of these events rise, from n on
abbrev pub RisesFrom : ℕ → List Note → Type 0
RisesFrom n [] = Unit {0}
RisesFrom n (x ∷ xs) = (n ≤ x.number) × RisesFrom (x.number + 1) xs

-- events in the order of their numbers
pub rising : (n : ℕ) (xs : List Note) → AllByRecursion (λ (x : Note). n ≤ x.number) xs → AllPairs (λ (a b : Note). a.number < b.number) xs
    → RisesFrom n xs
rising n [] high ordered = tt
rising n (x ∷ xs) (here, high) ordered = (
  here,
  rising (x.number + 1) xs
      (recursion_from_All (λ (y : Note). x.number + 1 ≤ y.number) xs
      (λ k d within. omega (arith, ordered zero (suc k) d (omega arith) (omega (arith, within)))))
      (λ i j d before within. ordered (suc i) (suc j) d (omega (arith, before)) (omega (arith, within))),
)

-- an event of this number is among these
abbrev Has : ℕ → List Numbered → Type 0
Has q [] = ⊥
Has q (x ∷ xs) = (x.number ≡ q) ⊎ Has q xs

-- the first of these, where the numbers rise
has_high : (m q : ℕ) (xs : List Numbered) → RisesFrom m (notes_of xs) → Has q xs → m ≤ q
has_high m q [] rises has = absurd has
has_high m q (x ∷ xs) (here, rises) (inl is) = omega (arith, here, is)
has_high m q (x ∷ xs) (here, rises) (inr has) = omega (arith, here, has_high (x.number + 1) q xs rises has)

rises_lower : (m n : ℕ) (xs : List Numbered) → m ≤ n → RisesFrom n (notes_of xs) → RisesFrom m (notes_of xs)
rises_lower m n [] le rises = tt
rises_lower m n (x ∷ xs) le (here, rises) = (omega (arith, le, here), rises)

-- stands in a history whose numbers begin at n
abbrev StandsFrom : ℕ → List Numbered → Numbered → Type 0
StandsFrom n history x = (k : ℕ) → x.number ≡ n + k → slice_get history k ≡ Some x

stands_later : (n : ℕ) (y : Numbered) (history xs : List Numbered) → AllByRecursion (StandsFrom n (y ∷ history)) xs
    → AllByRecursion (StandsFrom (n + 1) history) xs
stands_later n y history xs h =
    each_weaker (StandsFrom n (y ∷ history)) (StandsFrom (n + 1) history) (λ x stands k e. stands (suc k) (omega (arith, e))) xs h

-- a later event of a history is not the first of these
not_first : (t n m : ℕ) (x : Numbered) (rest history : List Numbered) → x.number ≡ n → n < m → IsNumberedFrom m history
    → AllByRecursion (λ (z : Numbered). z.thread ≡ t → Has z.number (x ∷ rest)) history
    → AllByRecursion (λ (z : Numbered). z.thread ≡ t → Has z.number rest) history
not_first t n m x rest [] at later numbers has = tt
not_first t n m x rest (z ∷ history) at later (here, numbers) (h, has) = (
  (λ of. second z here (h of)),
  not_first t n (m + 1) x rest history at (omega (arith, later)) numbers has,
)
  where
    second : (z : Numbered) → z.number ≡ m → (x.number ≡ z.number) ⊎ Has z.number rest → Has z.number rest
    second z here (inl same) = absurd (omega (arith, at, later, here, same))
    second z here (inr has) = has

-- what a thread made of a history is these events, where they are its own, rise, stand in the history, and are all that it has
-- of the thread
pub made_all_of : (t n : ℕ) (history xs : List Numbered) → IsNumberedFrom n history → RisesFrom n (notes_of xs)
    → AllByRecursion (λ (x : Numbered). x.thread ≡ t) xs → AllByRecursion (StandsFrom n history) xs
    → AllByRecursion (λ (z : Numbered). z.thread ≡ t → Has z.number xs) history → made_by t history ≡ xs
made_all_of t n [] [] numbers rises own stands has = refl
made_all_of t n [] (x ∷ xs) numbers (here, rises) own (stands, more) has =
    absurd (outside x (stands (x.number - n) (omega (arith, here))))
  where
    outside : (x : Numbered) → slice_get [] (x.number - n) ≡ Some x → ⊥
    outside x e = absurd (omega (arith, slice_get_within [] (x.number - n) x e))
made_all_of t n (y ∷ history) xs (at, numbers) rises own stands (here, has) =
    either (y.thread == t)
    (λ is. taken xs (here (eqb-true y.thread t is)) rises own stands is has (made_all_of t (n + 1) history))
    (λ is_not. ap (λ b. cond b (y ∷ made_by t history) (made_by t history)) is_not
    ∙ made_all_of t (n + 1) history xs numbers (later xs rises own stands is_not) own (stands_later n y history xs stands) has)
  where
    first_is : (x : Numbered) → x.number ≡ n → StandsFrom n (y ∷ history) x → y ≡ x
    first_is x number stands = let e : slice_get (y ∷ history) 0 ≡ Some x = stands 0 (omega (arith, number)) in cc e

    taken : (xs : List Numbered) → Has y.number xs → RisesFrom n (notes_of xs) → AllByRecursion (λ (x : Numbered). x.thread ≡ t) xs
        → AllByRecursion (StandsFrom n (y ∷ history)) xs → (y.thread == t) ≡ true
        → AllByRecursion (λ (z : Numbered). z.thread ≡ t → Has z.number xs) history
        → ((rest : List Numbered) → IsNumberedFrom (n + 1) history → RisesFrom (n + 1) (notes_of rest)
        → AllByRecursion (λ (x : Numbered). x.thread ≡ t) rest → AllByRecursion (StandsFrom (n + 1) history) rest
        → AllByRecursion (λ (z : Numbered). z.thread ≡ t → Has z.number rest) history → made_by t history ≡ rest)
        → made_by t (y ∷ history) ≡ xs
    taken [] among rises own stands is has more = absurd among
    taken (x ∷ rest) (inr among) (low, rises) own stands is has more =
        absurd (omega (arith, at, low, has_high (x.number + 1) y.number rest rises among))
    taken (x ∷ rest) (inl same) (low, rises) (of, own) (stand, stands) is has more =
        let number : x.number ≡ n = same ∙ at in
        ap (λ b. cond b (y ∷ made_by t history) (made_by t history)) is
        ∙ ap (λ z. z ∷ made_by t history) (first_is x number stand)
        ∙ ap (λ zs. x ∷ zs) (more rest numbers (rises_lower (n + 1) (x.number + 1) rest (omega (arith, number)) rises) own
        (stands_later n y history rest stands) (not_first t n (n + 1) x rest history number (omega arith) numbers has))

    later : (xs : List Numbered) → RisesFrom n (notes_of xs) → AllByRecursion (λ (x : Numbered). x.thread ≡ t) xs
        → AllByRecursion (StandsFrom n (y ∷ history)) xs → (y.thread == t) ≡ false → RisesFrom (n + 1) (notes_of xs)
    later [] rises own stands is_not = tt
    later (x ∷ rest) (low, rises) (of, own) (stand, stands) is_not = (
      (let other : x.number ≢ n = (λ number.
          let same : y ≡ x = first_is x number stand in
          let of_it : y.thread ≡ t = ap (λ (z : Numbered). z.thread) same ∙ of in
          let both : false ≡ true = sym is_not ∙ eq-eqb y.thread t of_it in
          absurd (cc both)) in
          omega (arith, low, other)),
      rises,
    )

-- each event stands in the history at its number
abbrev pub StandsIn : List Numbered → Numbered → Type 0
StandsIn history x = slice_get history x.number ≡ Some x

-- a number that some event has is the number of one of these
found_name : (P : Numbered → Type 0) (q : ℕ) (xs : List Numbered) → AllByRecursion P xs → 1 ≤ times q (notes_of xs)
    → (x : Numbered) × (x.number ≡ q) × P x
found_name P q [] h some = absurd (omega (arith, some))
found_name P q (x ∷ xs) (h, hs) some =
    either (x.number == q) (λ e. (x, eqb-true x.number q e, h))
    (λ e. found_name P q xs hs
    (omega (arith, some, times_cons q (record { number = x.number; event = x.event }) (notes_of xs), ap {B = ℕ} (λ b. cond b 1 0) e)))

module _ (history names : List Numbered) (stands : AllByRecursion (StandsIn history) names)
    (once : (q : ℕ) → q < length history → times q (notes_of names) ≡ 1) where
  -- what stands at a number of the history is one of the names
  named_at : (P : Numbered → Type 0) → AllByRecursion P names → (q : ℕ) → q < length history
      → (x : Numbered) × (slice_get history q ≡ Some x) × P x
  named_at P h q below =
      let some : 1 ≤ times q (notes_of names) = omega (arith, once q below) in
      let x = found_name (λ x. StandsIn history x × P x) q names (each_both (StandsIn history) P names stands h) some in (
        x.0,
        subst (λ (k : ℕ). slice_get history k ≡ Some x.0) x.1 x.2.0,
        x.2.1,
      )

  -- so what holds of each name holds of each event of the history
  pub each_of_history : (P : Numbered → Type 0) → AllByRecursion P names → AllByRecursion P history
  each_of_history P h =
      recursion_from_All P history (λ k d within.
      let x = named_at P h k within in
      subst P (sym (get_or_from_slice_get history k x.0 d x.1)) x.2)

  -- an event of a thread is among those that it made
  among_made : (t : ℕ) (xs : List Numbered) → AllByRecursion (λ (z : Numbered). z.thread ≡ t → Has z.number (made_by t xs)) xs
  among_made t [] = tt
  among_made t (x ∷ xs) = (
    (λ of. subst (λ b. Has x.number (cond b (x ∷ made_by t xs) (made_by t xs))) (sym (eq-eqb x.thread t of)) (inl refl)),
    each_weaker (λ (z : Numbered). z.thread ≡ t → Has z.number (made_by t xs))
        (λ (z : Numbered). z.thread ≡ t → Has z.number (made_by t (x ∷ xs)))
        (λ z h of. more z (x.thread == t) (h of)) xs (among_made t xs),
  )
    where
      more : (z : Numbered) (b : Bool) → Has z.number (made_by t xs) → Has z.number (cond b (x ∷ made_by t xs) (made_by t xs))
      more z true has = inr has
      more z false has = has

  -- and what a thread made of the history is what it made of the names, where these are in order
  pub made_same : (t : ℕ) → IsNumberedFrom 0 history → RisesFrom 0 (notes_of (made_by t names)) → made_by t history ≡ made_by t names
  made_same t numbers rises =
      made_all_of t 0 history (made_by t names) numbers rises
      (each_passed (λ (x : Numbered). x.thread == t) (λ (x : Numbered). x.thread ≡ t) names
      (each_all (λ (x : Numbered). (x.thread == t) ≡ true → x.thread ≡ t) (λ x e. eqb-true x.thread t e) names))
      (each_passed (λ (x : Numbered). x.thread == t) (StandsFrom 0 history) names
      (each_weaker (StandsIn history) (λ (x : Numbered). (x.thread == t) ≡ true → StandsFrom 0 history x)
      (λ x stand passed k e. subst (λ (i : ℕ). slice_get history i ≡ Some x) (omega (arith, e)) stand) names stands))
      (each_of_history (λ (z : Numbered). z.thread ≡ t → Has z.number (made_by t names)) (among_made t names))
    where
      each_all : (P : Numbered → Type 0) → ((x : Numbered) → P x) → (xs : List Numbered) → AllByRecursion P xs
      each_all P f [] = tt
      each_all P f (x ∷ xs) = (f x, each_all P f xs)

  -- its events are those of a log of the same length in which the names have theirs
  pub events_same : (log : List Event) → length history ≡ length log
      → AllByRecursion (λ (x : Numbered). slice_get log x.number ≡ Some x.event) names → IsNumberedFrom 0 history → events_of history ≡ log
  events_same log long h numbers = same history log long 0 numbers (λ q. at_number q)
    where
      at_number : (q : ℕ) → q < length history → (x : Numbered) × (slice_get history q ≡ Some x) × (slice_get log q ≡ Some x.event)
      at_number q below =
          let x = found_name (λ x. StandsIn history x × (slice_get log x.number ≡ Some x.event)) q names
          (each_both (StandsIn history) (λ (x : Numbered). slice_get log x.number ≡ Some x.event) names stands h)
          (omega (arith, once q below)) in (
            x.0,
            subst (λ (k : ℕ). slice_get history k ≡ Some x.0) x.1 x.2.0,
            subst (λ (k : ℕ). slice_get log k ≡ Some x.0.event) x.1 x.2.1,
          )

      same : (hs : List Numbered) (es : List Event) → length hs ≡ length es → (n : ℕ) → IsNumberedFrom n hs
          → ((q : ℕ) → q < length hs → (x : Numbered) × (slice_get hs q ≡ Some x) × (slice_get es q ≡ Some x.event)) → events_of hs ≡ es
      same [] [] long n numbers at = refl
      same [] (e ∷ es) long n numbers at = absurd (omega (arith, long))
      same (y ∷ hs) [] long n numbers at = absurd (omega (arith, long))
      same (y ∷ hs) (e ∷ es) long n (here, numbers) at =
          let x = at 0 (omega arith) in
          let mine : slice_get (y ∷ hs) 0 ≡ Some x.0 = x.1 in
          let its : slice_get (e ∷ es) 0 ≡ Some x.0.event = x.2 in
          let first : y ≡ x.0 = cc mine in
          let event : e ≡ x.0.event = cc its in
          ap (λ z. z ∷ events_of hs) (ap (λ (z : Numbered). z.event) first ∙ sym event)
          ∙ ap (λ zs. e ∷ zs) (same hs es (omega (arith, long)) (n + 1) numbers (λ q below. at (suc q) (omega (arith, below))))
