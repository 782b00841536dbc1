-- What holds of what is read piece by piece. Each follows from a definition of `Reading` by cases, with the term that
-- shows it: a property of values of any type stands in no clause.
use mathlib.Core.Path.{◌∙◌, subst, sym}
use mathlib.Core.Logic.{inl, inr}
use Rattle.std.specs.Prelude.{◌≡◌, ◌⊎◌, ℕ, Bool, true, false, if◌then◌else◌, Option, Some, None, Result, Ok, Err, IfOk, IfErr, IfSome, refl}
use Rattle.file_text.specs.Reading.{◌>>=◌, located, once, required}

-- what was read has one property, and what is read next has another because of it
pub went_on : {A B E : Type 0} (Q : A → Type 0) (P : B → Type 0) (read : Result A E) (f : A → Result B E) → IfOk read Q
    → ((x : A) → Q x → IfOk (f x) P) → IfOk (read >>= f) P
went_on Q P (Ok x) f is next = next x is
went_on Q P (Err e) f is next = tt

-- whatever was read
pub went_on_with : {A B E : Type 0} (P : B → Type 0) (read : Result A E) (f : A → Result B E) → ((x : A) → IfOk (f x) P)
    → IfOk (read >>= f) P
went_on_with P (Ok x) f next = next x
went_on_with P (Err e) f next = tt

-- one thing was read or another, as a test says
pub where_read : {A E : Type 0} (P : A → Type 0) (test : Bool) (read other : Result A E) → (test ≡ true → IfOk read P)
    → (test ≡ false → IfOk other P) → IfOk (if test then read else other) P
where_read P true read other first second = first refl
where_read P false read other first second = second refl

pub needed : {A E : Type 0} (P : A → Type 0) (fault : E) (read : Option A) → IfSome read P → IfOk (required fault read) P
needed P fault None is = tt
needed P fault (Some x) is = is

pub was_once : {A E : Type 0} (P : A → Type 0) (fault : E) (old : Option A) (read : Result A E) → IfOk read P
    → IfOk (once fault old read) (λ value. IfSome value P)
was_once P fault (Some x) read is = tt
was_once P fault None (Ok x) is = is
was_once P fault None (Err e) is = tt

-- a read that goes on to an end
pub came_to : {A B E : Type 0} (read : Result A E) (f : A → Result B E) (y : B) → (read >>= f) ≡ Ok y
    → (x : A) × (read ≡ Ok x) × (f x ≡ Ok y)
came_to (Ok x) f y done = (x, refl, done)
came_to (Err e) f y done = absurd (subst (λ r. IfOk r (λ _. ⊥)) done tt)

-- a read that ends in a fault
pub stopped : {A B E : Type 0} (read : Result A E) (f : A → Result B E) (e : E) → (read >>= f) ≡ Err e
    → (read ≡ Err e) ⊎ ((x : A) × (read ≡ Ok x) × (f x ≡ Err e))
stopped (Ok x) f e done = inr (x, refl, done)
stopped {A} {B} {E} (Err d) f e done = inl (subst (λ (r : Result B E). IfErr r (λ x. ◌≡◌ {A = Result A E} (Err d) (Err x))) done refl)

-- what is read is one thing
pub same_read : {A E : Type 0} (read : Result A E) (x other : A) → read ≡ Ok x → read ≡ Ok other → x ≡ other
same_read read x other first second = subst (λ r. IfOk r (λ z. x ≡ z)) (sym first ∙ second) refl

-- where a line has no fault, its number says nothing
pub read_there : {A K F : Type 0} (fault : ℕ → K → F) (number : ℕ) (read : Result A K) (x : A) → located fault number read ≡ Ok x
    → read ≡ Ok x
read_there {A} {K} {F} fault number (Ok y) x done = subst (λ (r : Result A F). IfOk r (λ z. ◌≡◌ {A = Result A K} (Ok y) (Ok z))) done refl
read_there fault number (Err kind) x done = absurd (subst (λ r. IfOk r (λ _. ⊥)) done tt)

-- where it has one, that is told with the number
pub wrong_there : {A K F : Type 0} (fault : ℕ → K → F) (number : ℕ) (read : Result A K) (told : F)
    → located fault number read ≡ Err told → (kind : K) × (read ≡ Err kind) × (fault number kind ≡ told)
wrong_there fault number (Ok x) told done = absurd (subst (λ r. IfErr r (λ _. ⊥)) done tt)
wrong_there fault number (Err kind) told done = (kind, refl, subst (λ r. IfErr r (λ e. fault number kind ≡ e)) done refl)

pub was_located : {A K F : Type 0} (P : A → Type 0) (fault : ℕ → K → F) (number : ℕ) (read : Result A K) → IfOk read P
    → IfOk (located fault number read) P
was_located P fault number (Ok x) is = is
was_located P fault number (Err kind) is = tt
