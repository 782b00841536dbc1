-- What holds of each item of a list, by recursion on the list.
use Rattle.std.proofs.Common.{◌≡◌, ℕ, zero, suc, Bool, true, false, cond, List, [], ◌∷◌, ◌++◌, take, drop, refl}
use Rattle.std.specs.Prelude.{filter}
use Rattle.std.specs.List.{AllByRecursion}

-- what holds of each of two lists holds of both together
pub each_append : {X : Type 0} (P : X → Type 0) (xs ys : List X) → AllByRecursion P xs → AllByRecursion P ys → AllByRecursion P (xs ++ ys)
each_append P [] ys h k = k
each_append P (x ∷ xs) ys (h, hs) k = (h, each_append P xs ys hs k)

-- what holds of each item of a list holds of its last ones
pub each_end : {X : Type 0} (P : X → Type 0) (xs ys : List X) → AllByRecursion P (xs ++ ys) → AllByRecursion P ys
each_end P [] ys h = h
each_end P (x ∷ xs) ys (h, hs) = each_end P xs ys hs

-- what holds of each item of a list holds of its first ones
pub each_taken : {X : Type 0} (P : X → Type 0) (k : ℕ) (xs : List X) → AllByRecursion P xs → AllByRecursion P (take k xs)
each_taken P zero xs h = tt
each_taken P (suc k) [] h = tt
each_taken P (suc k) (x ∷ xs) (h, hs) = (h, each_taken P k xs hs)

-- and of the others
pub each_dropped : {X : Type 0} (P : X → Type 0) (k : ℕ) (xs : List X) → AllByRecursion P xs → AllByRecursion P (drop k xs)
each_dropped P zero xs h = h
each_dropped P (suc k) [] h = tt
each_dropped P (suc k) (x ∷ xs) (h, hs) = each_dropped P k xs hs

-- so does what follows from it
pub each_weaker : {X : Type 0} (P Q : X → Type 0) → ((x : X) → P x → Q x) → (xs : List X) → AllByRecursion P xs → AllByRecursion Q xs
each_weaker P Q f [] h = tt
each_weaker P Q f (x ∷ xs) (h, hs) = (f x h, each_weaker P Q f xs hs)

-- what holds of each item in two ways
pub each_both : {X : Type 0} (P Q : X → Type 0) (xs : List X) → AllByRecursion P xs → AllByRecursion Q xs → AllByRecursion (λ x. P x × Q x) xs
each_both P Q [] h k = tt
each_both P Q (x ∷ xs) (h, hs) (k, ks) = ((h, k), each_both P Q xs hs ks)

-- what passes a test is kept
kept : {X : Type 0} (b : Bool) (Q : X → Type 0) (x : X) (xs : List X) → (b ≡ true → Q x) → AllByRecursion Q xs
    → AllByRecursion Q (cond b (x ∷ xs) xs)
kept true Q x xs h hs = (h refl, hs)
kept false Q x xs h hs = hs

pub each_passed : {X : Type 0} (p : X → Bool) (Q : X → Type 0) (xs : List X) → AllByRecursion (λ x. p x ≡ true → Q x) xs
    → AllByRecursion Q (filter p xs)
each_passed p Q [] h = tt
each_passed p Q (x ∷ xs) (h, hs) = kept (p x) Q x (filter p xs) h (each_passed p Q xs hs)
