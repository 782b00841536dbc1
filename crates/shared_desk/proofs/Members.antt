-- What is in a list of records that are apart: sums, and what is found there.
use Rattle.std.proofs.Common.{◌≡◌, ℕ, zero, suc, ◌<◌, ◌≤◌, Bool, true, false, Some, None, List, [], ◌∷◌, refl, sym, ap, subst, ◌∙◌, arith, ⊎_elim, ◌⊎◌, inl, inr}
use Rattle.std.specs.Prelude.{◌||◌, if◌then◌else◌, find}
use Rattle.std.specs.List.{AllByRecursion, AllPairs, list_any}
use Rattle.std.proofs.lemmas.Bool.{cases_Bool, false≢true}
use Rattle.std.proofs.lemmas.List.Elements.{recursion_from_All}
use Rattle.history_book.specs.Laws.{AreApart}
use Rattle.history_book.specs.declared.record.Record.{Record}
use Rattle.track_rule.specs.Sums.{total}

abbrev pub IsIn : Record → List Record → Type 0
IsIn r [] = ⊥
IsIn r (x ∷ xs) = (x ≡ r) ⊎ IsIn r xs

-- one that weighs something is there
pub some_weighs : (f : Record → ℕ) (rs : List Record) → 0 < total f rs → (r : Record) × IsIn r rs × (0 < f r)
some_weighs f [] any = absurd (omega (arith, any))
some_weighs f (x ∷ xs) any = by_first (f x) refl (λ k. some_weighs f xs k)
  where
    by_first : (n : ℕ) → f x ≡ n → (0 < total f xs → (r : Record) × IsIn r xs × (0 < f r)) → (r : Record) × IsIn r (x ∷ xs) × (0 < f r)
    by_first zero e later =
        let rest = later (omega (arith, any, e)) in
        (rest.0, inr rest.1, rest.2)
    by_first (suc n) e later = (x, inl refl, omega (arith, e))

-- all weigh at least what one does
pub weighs_in : (f : Record → ℕ) (r : Record) (rs : List Record) → IsIn r rs → f r ≤ total f rs
weighs_in f r [] i = absurd i
weighs_in f r (x ∷ xs) i =
    ⊎_elim (λ (e : x ≡ r). omega (arith, ap f e)) (λ (k : IsIn r xs). omega (arith, weighs_in f r xs k)) i

pub holds_in : (P : Record → Type 0) (r : Record) (rs : List Record) → AllByRecursion P rs → IsIn r rs → P r
holds_in P r [] h i = absurd i
holds_in P r (x ∷ xs) h i = ⊎_elim (λ (e : x ≡ r). subst P e h.0) (λ (k : IsIn r xs). holds_in P r xs h.1 k) i

-- two of them are one, or apart
abbrev pub IsSameOrApart : Record → Record → Type 0
IsSameOrApart q r = (q ≡ r) ⊎ (AreApart q r ⊎ AreApart r q)

abbrev Pairs : List Record → Type 0
Pairs [] = Unit {0}
Pairs (r ∷ rs) = AllByRecursion (AreApart r) rs × Pairs rs

pairs_of : (rs : List Record) → AllPairs AreApart rs → Pairs rs
pairs_of [] h = tt
pairs_of (r ∷ rs) h = (
  recursion_from_All (AreApart r) rs (λ k d within. h zero (suc k) d (omega arith) (omega arith)),
  pairs_of rs (λ i j d below within. h (suc i) (suc j) d (omega arith) (omega arith)),
)

two_in : (rs : List Record) → Pairs rs → (q r : Record) → IsIn q rs → IsIn r rs → IsSameOrApart q r
two_in [] h q r i j = absurd i
two_in (x ∷ xs) h q r i j =
    ⊎_elim
    (λ (e : x ≡ q).
    ⊎_elim (λ (f : x ≡ r). inl (sym e ∙ f)) (λ (k : IsIn r xs). inr (inl (subst (λ (y : Record). AreApart y r) e (holds_in (AreApart x) r xs h.0 k)))) j)
    (λ (k : IsIn q xs).
    ⊎_elim (λ (f : x ≡ r). inr (inr (subst (λ (y : Record). AreApart y q) f (holds_in (AreApart x) q xs h.0 k)))) (λ (l : IsIn r xs). two_in xs h.1 q r k l) j)
    i

pub same_or_apart : (rs : List Record) → AllPairs AreApart rs → (q r : Record) → IsIn q rs → IsIn r rs → IsSameOrApart q r
same_or_apart rs apart q r i j = two_in rs (pairs_of rs apart) q r i j

-- what is found is there
pub find_in : (p : Record → Bool) (r : Record) (rs : List Record) → find p rs ≡ Some r → IsIn r rs
find_in p r [] e = cc
find_in p r (x ∷ xs) e =
    ⊎_elim
    (λ (t : p x ≡ true). inl (one x r (sym (ap (λ (b : Bool). if b then Some x else find p xs) t) ∙ e)))
    (λ (t : p x ≡ false). inr (find_in p r xs (sym (ap (λ (b : Bool). if b then Some x else find p xs) t) ∙ e)))
    (cases_Bool (p x))
  where
    one : (a b : Record) → Some a ≡ Some b → a ≡ b
    one a b k = cc

-- and passes the test
pub find_passes : (p : Record → Bool) (r : Record) (rs : List Record) → find p rs ≡ Some r → p r ≡ true
find_passes p r [] e = cc
find_passes p r (x ∷ xs) e =
    ⊎_elim
    (λ (t : p x ≡ true). ap p (sym (one x r (sym (ap (λ (b : Bool). if b then Some x else find p xs) t) ∙ e))) ∙ t)
    (λ (t : p x ≡ false). find_passes p r xs (sym (ap (λ (b : Bool). if b then Some x else find p xs) t) ∙ e))
    (cases_Bool (p x))
  where
    one : (a b : Record) → Some a ≡ Some b → a ≡ b
    one a b k = cc

-- the only one that passes a test is found
pub found_only : (p : Record → Bool) (r : Record) (rs : List Record) → IsIn r rs → p r ≡ true → ((q : Record) → IsIn q rs → p q ≡ true → q ≡ r) → find p rs ≡ Some r
found_only p r [] i here only = absurd i
found_only p r (x ∷ xs) i here only =
    ⊎_elim
    (λ (e : p x ≡ true). ap (λ (b : Bool). if b then Some x else find p xs) e ∙ ap (λ (y : Record). Some y) (only x (inl refl) e))
    (λ (e : p x ≡ false).
    ap (λ (b : Bool). if b then Some x else find p xs) e
    ∙ found_only p r xs (later e i) here (λ q k t. only q (inr k) t))
    (cases_Bool (p x))
  where
    later : p x ≡ false → (x ≡ r) ⊎ IsIn r xs → IsIn r xs
    later e i = ⊎_elim (λ (f : x ≡ r). absurd (false≢true (sym e ∙ ap p f ∙ here))) (λ (k : IsIn r xs). k) i

-- none that passes it is
pub found_none : (p : Record → Bool) (rs : List Record) → ((q : Record) → IsIn q rs → p q ≡ true → ⊥) → find p rs ≡ None
found_none p [] none_of = refl
found_none p (x ∷ xs) none_of =
    ⊎_elim
    (λ (e : p x ≡ true). absurd (none_of x (inl refl) e))
    (λ (e : p x ≡ false). ap (λ (b : Bool). if b then Some x else find p xs) e ∙ found_none p xs (λ q k t. none_of q (inr k) t))
    (cases_Bool (p x))

pub any_none : (p : Record → Bool) (rs : List Record) → ((q : Record) → IsIn q rs → p q ≡ true → ⊥) → list_any p rs ≡ false
any_none p [] none_of = refl
any_none p (x ∷ xs) none_of =
    ⊎_elim
    (λ (e : p x ≡ true). absurd (none_of x (inl refl) e))
    (λ (e : p x ≡ false). (λ i. e i || any_none p xs (λ q k t. none_of q (inr k) t) i))
    (cases_Bool (p x))
