-- When two parts have the same bytes, said place by place.
use Rattle.std.proofs.Common.{◌≡◌, ℕ, zero, suc, ◌+◌, ◌-◌, ◌<◌, ◌≤◌, Bool, true, false, ◌&&◌, ◌⊎◌, inl, inr, List, [], ◌∷◌, refl, sym, ◌∙◌, subst, arith}
use Rattle.std.specs.Prelude.{◌==◌, min, max, if◌then◌else◌, Option, Some}
use Rattle.std.specs.List.{list_all, range_with_len}
use Rattle.std.proofs.lemmas.Bool.Decides.{nat_tests}
use Rattle.std.proofs.lemmas.Bool.{and_parts, and_from, eqb-true, eq-eqb, false_from_ne_true}
use Rattle.ip_reassembly.specs.declared.piece.Part.{Part}
use Rattle.ip_reassembly.specs.Part.{byte_at, covers, give_one_value, same_bytes, value}

pub either : {A B C : Type 0} → A ⊎ B → (A → C) → (B → C) → C
either (inl a) f g = f a
either (inr b) f g = g b

pub up_to : (x y : ℕ) → (x ≤ y) ⊎ (y < x)
up_to x y = grind arith

pub less_or : (x y : ℕ) → (x < y) ⊎ (y ≤ x)
less_or x y = grind arith

-- two tests of which each holds where the other does are one
pub equal_tests : (a b : Bool) → (a ≡ true → b ≡ true) → (b ≡ true → a ≡ true) → a ≡ b
equal_tests true true to from = refl
equal_tests true false to from = sym (to refl)
equal_tests false true to from = from refl
equal_tests false false to from = refl

pub holds_or_not : (b : Bool) → (b ≡ true) ⊎ (b ≡ false)
holds_or_not true = inl refl
holds_or_not false = inr refl

-- the first number of a range or a later one
first_or_later : (from x : ℕ) → from ≤ x → (from ≡ x) ⊎ (from + 1 ≤ x)
first_or_later from x low = grind arith

-- a test that holds in a range
pub range_all_at : (test : ℕ → Bool) (from count x : ℕ) → list_all test (range_with_len from count) ≡ true → from ≤ x → x < from + count → test x ≡ true
range_all_at test from zero x all low high = absurd (omega (arith, low, high))
range_all_at test from (suc count) x all low high =
    let parts = and_parts (test from) (list_all test (range_with_len (from + 1) count)) all in
    either (first_or_later from x low)
    (λ here. subst (λ (n : ℕ). test n ≡ true) here parts.0)
    (λ later. range_all_at test (from + 1) count x parts.1 later (omega (arith, high)))

pub range_all : (test : ℕ → Bool) (from count : ℕ) → ((x : ℕ) → from ≤ x → x < from + count → test x ≡ true) → list_all test (range_with_len from count) ≡ true
range_all test from zero each = refl
range_all test from (suc count) each =
    and_from (test from) (list_all test (range_with_len (from + 1) count)) (each from (omega arith) (omega arith))
    (range_all test (from + 1) count (λ x low high. each x (omega (arith, low)) (omega (arith, high))))

-- a range with one number more
pub range_more : (test : ℕ → Bool) (from count : ℕ) → list_all test (range_with_len from (count + 1)) ≡ (list_all test (range_with_len from count) && test (from + count))
range_more test from count = equal_tests _ _
    (λ all. and_from (list_all test (range_with_len from count)) (test (from + count))
    (range_all test from count (λ x low high. range_all_at test from (count + 1) x all low (omega (arith, high))))
    (range_all_at test from (count + 1) (from + count) all (omega arith) (omega arith)))
    (λ both. let parts = and_parts (list_all test (range_with_len from count)) (test (from + count)) both in
    range_all test from (count + 1) (λ x low high. either (below_or_at x (from + count) (omega (arith, high)))
    (λ below. range_all_at test from count x parts.0 low below)
    (λ here. subst (λ (n : ℕ). test n ≡ true) (sym here) parts.1)))
  where
    below_or_at : (x end : ℕ) → x < end + 1 → (x < end) ⊎ (x ≡ end)
    below_or_at x end h = grind arith

-- place by place
abbrev pub HasSame : List ℕ → Part → Part → Type 0
HasSame bytes p q = (x : ℕ) → covers p x ≡ true → covers q x ≡ true → value bytes p x ≡ value bytes q x

covers_at : (p : Part) (x : ℕ) → covers p x ≡ true → (p.low ≤ x) × (x < p.high)
covers_at p x h = grind (arith, nat_tests)

pub covers_from : (p : Part) (x : ℕ) → p.low ≤ x → x < p.high → covers p x ≡ true
covers_from p x low high = grind (arith, nat_tests)

in_both : (p q : Part) (x : ℕ) → p.low ≤ x → x < p.high → q.low ≤ x → x < q.high
    → (max p.low q.low ≤ x) × (x < max p.low q.low + (min p.high q.high - max p.low q.low))
in_both p q x a b c d = (omega arith, omega arith)

from_both : (p q : Part) (x : ℕ) → max p.low q.low ≤ x → x < max p.low q.low + (min p.high q.high - max p.low q.low)
    → (p.low ≤ x) × (x < p.high) × (q.low ≤ x) × (x < q.high)
from_both p q x low high = (omega arith, omega arith, omega arith, omega arith)

pub same_is : (bytes : List ℕ) (p q : Part) → same_bytes bytes p q ≡ true → HasSame bytes p q
unfolding same_bytes
same_is bytes p q same x in_p in_q =
    let a = covers_at p x in_p in
    let b = covers_at q x in_q in
    let c = in_both p q x a.0 a.1 b.0 b.1 in
    eqb-true (value bytes p x) (value bytes q x)
    (range_all_at (λ place. value bytes p place == value bytes q place) (max p.low q.low) (min p.high q.high - max p.low q.low) x same c.0 c.1)

pub is_same : (bytes : List ℕ) (p q : Part) → HasSame bytes p q → same_bytes bytes p q ≡ true
unfolding same_bytes
is_same bytes p q same =
    range_all (λ place. value bytes p place == value bytes q place) (max p.low q.low) (min p.high q.high - max p.low q.low) (λ x low high.
    let a = from_both p q x low high in
    eq-eqb (value bytes p x) (value bytes q x) (same x (covers_from p x a.0 a.1) (covers_from q x a.2 a.3)))

-- they have the same bytes from a place up to another
abbrev pub AreSameUpTo : List ℕ → Part → Part → ℕ → ℕ → Type 0
AreSameUpTo bytes p q low place = list_all (λ x. value bytes p x == value bytes q x) (range_with_len low (place - low)) ≡ true

pub same_next : (bytes : List ℕ) (p q : Part) (low place next first other : ℕ) → AreSameUpTo bytes p q low place → low ≤ place → next ≡ place + 1
    → first ≡ value bytes p place → other ≡ value bytes q place → first ≡ other → AreSameUpTo bytes p q low next
same_next bytes p q low place next first other so within one here there same =
    range_all (λ x. value bytes p x == value bytes q x) low (next - low) (λ x after below.
    either (less_or x place)
    (λ h. range_all_at (λ x. value bytes p x == value bytes q x) low (place - low) x so after (omega (arith, h, within)))
    (λ h. let at : x ≡ place = omega (arith, h, below, one, after) in
    subst (λ (n : ℕ). (value bytes p n == value bytes q n) ≡ true) (sym at) (eq-eqb (value bytes p place) (value bytes q place) (sym here ∙ same ∙ there))))

pub differs : (bytes : List ℕ) (p q : Part) (place first other : ℕ) → max p.low q.low ≤ place → place < min p.high q.high
    → first ≡ value bytes p place → other ≡ value bytes q place → (first ≡ other → ⊥) → false ≡ same_bytes bytes p q
differs bytes p q place first other low high here there unlike = sym (false_from_ne_true (same_bytes bytes p q) (λ same.
    unlike (here ∙ same_is bytes p q same place (covers_from p place (omega (arith, low)) (omega (arith, high))) (covers_from q place (omega (arith, low)) (omega (arith, high))) ∙ sym there)))

-- two parts with no place in common
pub apart : (bytes : List ℕ) (p q : Part) → q.high ≤ p.low → same_bytes bytes p q ≡ true
apart bytes p q h = is_same bytes p q (λ x in_p in_q. none x (covers_at p x in_p) (covers_at q x in_q))
  where
    none : (x : ℕ) → (p.low ≤ x) × (x < p.high) → (q.low ≤ x) × (x < q.high) → value bytes p x ≡ value bytes q x
    none x a b = omega (arith, h, a.0, b.1)

pub apart_behind : (bytes : List ℕ) (p q : Part) → p.high ≤ q.low → same_bytes bytes p q ≡ true
apart_behind bytes p q h = is_same bytes p q (λ x in_p in_q. none x (covers_at p x in_p) (covers_at q x in_q))
  where
    none : (x : ℕ) → (p.low ≤ x) × (x < p.high) → (q.low ≤ x) × (x < q.high) → value bytes p x ≡ value bytes q x
    none x a b = omega (arith, h, a.1, b.0)

-- ---- a part beside many
abbrev pub Fits : List ℕ → Part → List Part → Type 0
Fits bytes r parts = (x : ℕ) (v : ℕ) → covers r x ≡ true → byte_at bytes parts x ≡ Some v → value bytes r x ≡ v

chosen : (test : Bool) (v w : ℕ) (rest : Option ℕ) → test ≡ true → (if test then Some w else rest) ≡ Some v → w ≡ v
chosen true v w rest holds h = cc
chosen false v w rest holds h = cc

passed : (test : Bool) (v w : ℕ) (rest : Option ℕ) → test ≡ false → (if test then Some w else rest) ≡ Some v → rest ≡ Some v
passed true v w rest holds h = cc
passed false v w rest holds h = h

taken : (test : Bool) (w : ℕ) (rest : Option ℕ) → test ≡ true → (if test then Some w else rest) ≡ Some w
taken true w rest holds = refl
taken false w rest holds = cc

left : (test : Bool) (v w : ℕ) (rest : Option ℕ) → test ≡ false → rest ≡ Some v → (if test then Some w else rest) ≡ Some v
left true v w rest holds h = cc
left false v w rest holds h = h

pub all_fit : (bytes : List ℕ) (r : Part) (parts : List Part) → list_all (same_bytes bytes r) parts ≡ true → Fits bytes r parts
all_fit bytes r [] all x v in_r at = cc
all_fit bytes r (p ∷ parts) all x v in_r at =
    let both = and_parts (same_bytes bytes r p) (list_all (same_bytes bytes r) parts) all in
    either (holds_or_not (covers p x))
    (λ in_p. same_is bytes r p both.0 x in_r in_p ∙ chosen (covers p x) v (value bytes p x) (byte_at bytes parts x) in_p at)
    (λ out. all_fit bytes r parts both.1 x v in_r (passed (covers p x) v (value bytes p x) (byte_at bytes parts x) out at))

-- the other way round, where any two of the many have the same bytes
pub fit_all : (bytes : List ℕ) (r : Part) (parts : List Part) → give_one_value bytes parts ≡ true → Fits bytes r parts → list_all (same_bytes bytes r) parts ≡ true
fit_all bytes r [] one fits = refl
fit_all bytes r (p ∷ parts) one fits =
    let both = and_parts (list_all (same_bytes bytes p) parts) (give_one_value bytes parts) one in
    and_from (same_bytes bytes r p) (list_all (same_bytes bytes r) parts)
    (is_same bytes r p (λ x in_r in_p. fits x (value bytes p x) in_r (taken (covers p x) (value bytes p x) (byte_at bytes parts x) in_p)))
    (fit_all bytes r parts both.1 (λ x v in_r at.
    either (holds_or_not (covers p x))
    (λ in_p. fits x (value bytes p x) in_r (taken (covers p x) (value bytes p x) (byte_at bytes parts x) in_p) ∙ all_fit bytes p parts both.0 x v in_p at)
    (λ out. fits x v in_r (left (covers p x) v (value bytes p x) (byte_at bytes parts x) out at))))

-- two lists of parts that have the same bytes fit the same parts
pub fit_alike : (bytes : List ℕ) (r : Part) (parts others : List Part) → give_one_value bytes parts ≡ true → give_one_value bytes others ≡ true
    → ((x : ℕ) → byte_at bytes parts x ≡ byte_at bytes others x)
    → list_all (same_bytes bytes r) parts ≡ list_all (same_bytes bytes r) others
fit_alike bytes r parts others one other alike = equal_tests _ _
    (λ all. fit_all bytes r others other (λ x v in_r at. all_fit bytes r parts all x v in_r (alike x ∙ at)))
    (λ all. fit_all bytes r parts one (λ x v in_r at. all_fit bytes r others all x v in_r (sym (alike x) ∙ at)))
