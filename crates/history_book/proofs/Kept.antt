-- What a filter keeps of a list, and what is found in it.
use Rattle.std.proofs.Common.{◌≡◌, ℕ, ◌≤◌, zero, suc, Bool, true, false, not, cond, List, [], ◌∷◌, ◌++◌, length, refl, sym, ap, ◌∙◌, Some, arith}
use Rattle.std.specs.List.{AllByRecursion, AllPairs, filter, find, list_any}
use Rattle.std.specs.Prelude.{map, ◌==◌, ◌≢◌, ◌||◌}
use Rattle.std.proofs.lemmas.Bool.{eq-eqb, eqb-true, false≢true, ne_eqb}
use Rattle.std.proofs.lemmas.List.Elements.{recursion_from_All}
use Rattle.history_book.proofs.Passing.{fails_by, found_holds, found_passes}

pub each_also : {X : Type 0} (P Q : X → Type 0) (xs : List X) → ((x : X) → P x → Q x) → AllByRecursion P xs → AllByRecursion Q xs
each_also P Q [] f h = tt
each_also P Q (x ∷ xs) f (h, hs) = (f x h, each_also P Q xs f hs)

pub each_one : {X : Type 0} (P : X → Type 0) (xs : List X) → ((x : X) → P x) → AllByRecursion P xs
each_one P [] f = tt
each_one P (x ∷ xs) f = (f x, each_one P xs f)

pub first_kept : {X : Type 0} (keep : X → Bool) (x : X) (xs : List X) → keep x ≡ true → filter keep (x ∷ xs) ≡ x ∷ filter keep xs
first_kept keep x xs h = ap (λ b. cond b (x ∷ filter keep xs) (filter keep xs)) h

pub first_lost : {X : Type 0} (keep : X → Bool) (x : X) (xs : List X) → keep x ≡ false → filter keep (x ∷ xs) ≡ filter keep xs
first_lost keep x xs h = ap (λ b. cond b (x ∷ filter keep xs) (filter keep xs)) h

swap_first : {X : Type 0} (p q : X → Bool) (x : X) (f g : List X) (a b : Bool) → p x ≡ a → q x ≡ b
    → filter p f ≡ filter q g → filter p (cond b (x ∷ f) f) ≡ filter q (cond a (x ∷ g) g)
swap_first p q x f g true true ha hb same = first_kept p x f ha ∙ ap (λ zs. x ∷ zs) same ∙ sym (first_kept q x g hb)
swap_first p q x f g true false ha hb same = same ∙ sym (first_lost q x g hb)
swap_first p q x f g false true ha hb same = first_lost p x f ha ∙ same
swap_first p q x f g false false ha hb same = same

-- of two filters either may be the first
pub filter_swap : {X : Type 0} (p q : X → Bool) (xs : List X) → filter p (filter q xs) ≡ filter q (filter p xs)
filter_swap p q [] = refl
filter_swap p q (x ∷ xs) =
    swap_first p q x (filter q xs) (filter p xs) (p x) (q x) refl refl (filter_swap p q xs)

pub last_kept : {X : Type 0} (keep : X → Bool) (xs : List X) (x : X) → keep x ≡ true → filter keep (xs ++ x ∷ []) ≡ filter keep xs ++ x ∷ []
last_kept keep [] x h = first_kept keep x [] h
last_kept keep (y ∷ ys) x h =
    elim (keep y) as (λ b. cond b (y ∷ filter keep (ys ++ x ∷ [])) (filter keep (ys ++ x ∷ [])) ≡ cond b (y ∷ filter keep ys) (filter keep ys) ++ x ∷ [])
    [ true ↦ ap (λ zs. y ∷ zs) (last_kept keep ys x h) | false ↦ last_kept keep ys x h ]

pub last_lost : {X : Type 0} (keep : X → Bool) (xs : List X) (x : X) → keep x ≡ false → filter keep (xs ++ x ∷ []) ≡ filter keep xs
last_lost keep [] x h = first_lost keep x [] h
last_lost keep (y ∷ ys) x h = ap (λ zs. cond (keep y) (y ∷ zs) zs) (last_lost keep ys x h)

-- what passes the second test is kept by the first
abbrev pub Keeps : {X : Type 0} → (X → Bool) → (X → Bool) → X → Type 0
Keeps keep p x = p x ≡ true → keep x ≡ true

find_first : {X : Type 0} (keep p : X → Bool) (x : X) (f xs : List X) (b : Bool) → keep x ≡ b → Keeps keep p x
    → find p f ≡ find p xs → find p (cond b (x ∷ f) f) ≡ find p (x ∷ xs)
find_first keep p x f xs true kept h same = ap (λ o. cond (p x) (Some x) o) same
find_first keep p x f xs false lost h same =
    same ∙ ap (λ c. cond c (Some x) (find p xs)) (sym (fails_by (p x) (λ k. false≢true (sym lost ∙ h k))))

-- what a test finds is the same where all that passes is kept
pub find_part : {X : Type 0} (keep p : X → Bool) (xs : List X) → AllByRecursion (Keeps keep p) xs → find p (filter keep xs) ≡ find p xs
find_part keep p [] h = refl
find_part keep p (x ∷ xs) (h, hs) = find_first keep p x (filter keep xs) xs (keep x) refl h (find_part keep p xs hs)

any_first : {X : Type 0} (keep p : X → Bool) (x : X) (f xs : List X) (b : Bool) → keep x ≡ b → Keeps keep p x
    → list_any p f ≡ list_any p xs → list_any p (cond b (x ∷ f) f) ≡ list_any p (x ∷ xs)
any_first keep p x f xs true kept h same = ap (λ c. p x || c) same
any_first keep p x f xs false lost h same =
    same ∙ ap (λ c. c || list_any p xs) (sym (fails_by (p x) (λ k. false≢true (sym lost ∙ h k))))

pub any_part : {X : Type 0} (keep p : X → Bool) (xs : List X) → AllByRecursion (Keeps keep p) xs → list_any p (filter keep xs) ≡ list_any p xs
any_part keep p [] h = refl
any_part keep p (x ∷ xs) (h, hs) = any_first keep p x (filter keep xs) xs (keep x) refl h (any_part keep p xs hs)

none_first : {X : Type 0} (keep p : X → Bool) (x : X) (f : List X) (b : Bool) → p x ≡ false → list_any p f ≡ false
    → list_any p (cond b (x ∷ f) f) ≡ false
none_first keep p x f true here rest = ap (λ c. c || list_any p f) here ∙ rest
none_first keep p x f false here rest = rest

-- where nothing passes, nothing of a part does
pub none_of_part : {X : Type 0} (keep p : X → Bool) (xs : List X) → AllByRecursion (λ x. p x ≡ false) xs → list_any p (filter keep xs) ≡ false
none_of_part keep p [] h = refl
none_of_part keep p (x ∷ xs) (h, hs) = none_first keep p x (filter keep xs) (keep x) h (none_of_part keep p xs hs)

drop_first : {X : Type 0} (keep drop : X → Bool) (x : X) (f xs : List X) (b : Bool) → drop x ≡ b → (drop x ≡ true → keep x ≡ false)
    → filter keep f ≡ filter keep xs → filter keep (cond (not b) (x ∷ f) f) ≡ filter keep (x ∷ xs)
drop_first keep drop x f xs true is h same = same ∙ sym (first_lost keep x xs (h is))
drop_first keep drop x f xs false is h same = ap (λ zs. cond (keep x) (x ∷ zs) zs) same

-- a part stays where what is taken out is not of it
pub drop_others : {X : Type 0} (keep drop : X → Bool) (xs : List X) → AllByRecursion (λ x. drop x ≡ true → keep x ≡ false) xs
    → filter keep (filter (λ x. not (drop x)) xs) ≡ filter keep xs
drop_others keep drop [] h = refl
drop_others keep drop (x ∷ xs) (h, hs) =
    drop_first keep drop x (filter (λ y. not (drop y)) xs) xs (drop x) refl h (drop_others keep drop xs hs)

map_first : {X : Type 0} (keep : X → Bool) (g : X → X) (x : X) (f xs : List X) (b : Bool) → keep x ≡ b → keep (g x) ≡ keep x
    → filter keep f ≡ map g xs → filter keep (g x ∷ f) ≡ map g (cond b (x ∷ xs) xs)
map_first keep g x f xs true is h same = first_kept keep (g x) f (h ∙ is) ∙ ap (λ zs. g x ∷ zs) same
map_first keep g x f xs false is h same = first_lost keep (g x) f (h ∙ is) ∙ same

-- a change that a test does not see
pub map_part : {X : Type 0} (keep : X → Bool) (g : X → X) (xs : List X) → ((x : X) → keep (g x) ≡ keep x)
    → filter keep (map g xs) ≡ map g (filter keep xs)
map_part keep g [] h = refl
map_part keep g (x ∷ xs) h = map_first keep g x (map g xs) (filter keep xs) (keep x) refl (h x) (map_part keep g xs h)

length_cond : (b : Bool) (m n : ℕ) → m ≤ n → cond b (suc m) m ≤ suc n
length_cond true m n h = omega (arith, h)
length_cond false m n h = omega (arith, h)

pub length_part : {X : Type 0} (keep : X → Bool) (xs : List X) → length (filter keep xs) ≤ length xs
length_part keep [] = omega arith
length_part keep (x ∷ xs) =
    elim (keep x) as (λ b. length (cond b (x ∷ filter keep xs) (filter keep xs)) ≤ suc (length xs))
    [ true ↦ omega (arith, length_part keep xs) | false ↦ omega (arith, length_part keep xs) ]

-- no two items have the same number
abbrev pub Distinct : {X : Type 0} → (X → ℕ) → List X → Type 0
Distinct number [] = Unit {0}
Distinct number (x ∷ xs) = AllByRecursion (λ y. number y ≢ number x) xs × Distinct number xs

pub distinct_of : {X : Type 0} (number : X → ℕ) (R : X → X → Type 0) (xs : List X) → ((x y : X) → R x y → number y ≢ number x)
    → AllPairs R xs → Distinct number xs
distinct_of number R [] f h = tt
distinct_of number R (x ∷ xs) f h = (
  each_also (R x) (λ y. number y ≢ number x) xs (f x)
      (recursion_from_All (R x) xs (λ k d within. h zero (suc k) d (omega arith) (omega arith))),
  distinct_of number R xs f (λ i j d below within. h (suc i) (suc j) d (omega arith) (omega arith)),
)

one_first : {X : Type 0} (number : X → ℕ) (n : ℕ) (x r : X) (xs : List X) (b : Bool) → (number x == n) ≡ b
    → AllByRecursion (λ y. number y ≢ number x) xs → cond b (Some x) (find (λ y. number y == n) xs) ≡ Some r
    → (find (λ y. number y == n) xs ≡ Some r → AllByRecursion (λ y. (number y == n) ≡ true → y ≡ r) xs)
    → ((number x == n) ≡ true → x ≡ r) × AllByRecursion (λ y. (number y == n) ≡ true → y ≡ r) xs
one_first number n x r xs true is others found rest = (
  λ h. cc,
  each_also (λ y. number y ≢ number x) (λ y. (number y == n) ≡ true → y ≡ r) xs
      (λ y other same. absurd (other (eqb-true (number y) n same ∙ sym (eqb-true (number x) n is)))) others,
)
one_first number n x r xs false is others found rest = (λ h. absurd (false≢true (sym is ∙ h)), rest found)

-- the one that is found by its number is the only one with it
pub only_one : {X : Type 0} (number : X → ℕ) (n : ℕ) (xs : List X) (r : X) → Distinct number xs
    → find (λ y. number y == n) xs ≡ Some r → AllByRecursion (λ y. (number y == n) ≡ true → y ≡ r) xs
only_one number n [] r h found = tt
only_one number n (x ∷ xs) r (h, hs) found =
    one_first number n x r xs (number x == n) refl h found (λ later. only_one number n xs r hs later)

up_found : {X : Type 0} (number : X → ℕ) (n : ℕ) (x r : X) (f xs : List X) (b : Bool) → (number x == n) ≡ b
    → cond b (Some x) (find (λ y. number y == n) f) ≡ Some r
    → (find (λ y. number y == n) f ≡ Some r → find (λ y. number y == n) xs ≡ Some r)
    → cond b (Some x) (find (λ y. number y == n) xs) ≡ Some r
up_found number n x r f xs true is found rest = found
up_found number n x r f xs false is found rest = rest found

up_first : {X : Type 0} (number : X → ℕ) (n : ℕ) (x r : X) (f xs : List X) (b : Bool)
    → AllByRecursion (λ y. number y ≢ number x) xs → find (λ y. number y == n) (cond b (x ∷ f) f) ≡ Some r
    → (find (λ y. number y == n) f ≡ Some r → find (λ y. number y == n) xs ≡ Some r)
    → find (λ y. number y == n) (x ∷ xs) ≡ Some r
up_first number n x r f xs true others found rest = up_found number n x r f xs (number x == n) refl found rest
up_first number n x r f xs false others found rest =
    let later = rest found in
    let own = eqb-true (number r) n (found_passes (λ y. number y == n) xs r later) in
    let other = found_holds (λ y. number y ≢ number x) (λ y. number y == n) xs r others later in
    ap (λ c. cond c (Some x) (find (λ y. number y == n) xs)) (ne_eqb (number x) n (λ e. other (own ∙ sym e))) ∙ later

-- what is found in a part is found in the whole
pub found_in_whole : {X : Type 0} (number : X → ℕ) (n : ℕ) (keep : X → Bool) (xs : List X) (r : X) → Distinct number xs
    → find (λ y. number y == n) (filter keep xs) ≡ Some r → find (λ y. number y == n) xs ≡ Some r
found_in_whole number n keep [] r h found = found
found_in_whole number n keep (x ∷ xs) r (h, hs) found =
    up_first number n x r (filter keep xs) xs (keep x) h found (found_in_whole number n keep xs r hs)

named_first : {X : Type 0} (number : X → ℕ) (p : X → Bool) (x r : X) (xs : List X) (b : Bool)
    → AllByRecursion (λ y. number y ≢ number x) xs → cond b (Some x) (find p xs) ≡ Some r
    → (find p xs ≡ Some r → find (λ y. number y == number r) xs ≡ Some r)
    → find (λ y. number y == number r) (x ∷ xs) ≡ Some r
named_first number p x r xs true others found rest =
    let same : x ≡ r = cc in
    ap (λ c. cond c (Some x) (find (λ y. number y == number r) xs)) (eq-eqb (number x) (number r) (ap number same)) ∙ ap Some same
named_first number p x r xs false others found rest =
    let other = found_holds (λ y. number y ≢ number x) p xs r others found in
    ap (λ c. cond c (Some x) (find (λ y. number y == number r) xs)) (ne_eqb (number x) (number r) (λ e. other (sym e))) ∙ rest found

-- what a test finds is found by its number
pub named : {X : Type 0} (number : X → ℕ) (p : X → Bool) (xs : List X) (r : X) → Distinct number xs → find p xs ≡ Some r
    → find (λ y. number y == number r) xs ≡ Some r
named number p [] r h found = cc
named number p (x ∷ xs) r (h, hs) found = named_first number p x r xs (p x) h found (named number p xs r hs)
