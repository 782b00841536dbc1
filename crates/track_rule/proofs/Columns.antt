-- The columns in which the free list begins.
use Rattle.std.specs.Prelude.{◌==◌, ◌&&◌, nat_lt, min, replicate}
use Rattle.std.proofs.Common.{◌≡◌, ℕ, ◌+◌, ◌*◌, ◌/◌, ◌%◌, ◌<◌, ◌≤◌, zero, suc, [], ◌∷◌, ◌++◌, refl, ap, ◌∙◌, arith, mul-le-mul_right, suc-mul}
use Rattle.std.proofs.lemmas.Bool.Decides.{nat_tests}
use Rattle.track_rule.specs.Opening.{before_column, column_length}
use Rattle.track_rule.specs.Sums.{bit}

-- there is room in a column for one place more
pub column_room : (n c place len before : ℕ) → place % 16 ≡ c → place < n → len * 16 + c ≡ before * 16 + place → len < before + column_length n c
column_room n c place len before rem low long = grind (arith, nat_tests)

-- and it is full at its end
pub column_full : (n c place len before : ℕ) → c < 16 → place % 16 ≡ c → n ≤ place → place < n + 16 → len * 16 + c ≡ before * 16 + place → len ≡ before + column_length n c
column_full n c place len before small rem high near long = grind (arith, nat_tests)

-- the places that stand there
pub column_next : (p c place : ℕ) → place % 16 ≡ c → bit (p % 16 == c && nat_lt p place) + bit (place == p) ≡ bit (p % 16 == c && nat_lt p (place + 16))
column_next p c place rem = grind (arith, nat_tests)

pub column_none : (p c : ℕ) → c < 16 → bit (p % 16 == c && nat_lt p c) ≡ 0
column_none p c small = grind (arith, nat_tests)

pub column_end : (p c place n : ℕ) → place % 16 ≡ c → n ≤ place → place < n + 16 → bit (p % 16 == c && nat_lt p place) ≡ bit (p % 16 == c && nat_lt p n)
column_end p c place n rem high near = grind (arith, nat_tests)

-- the columns before one, and those before the next one
pub before_next : (n c : ℕ) → before_column n c + column_length n c ≡ before_column n (c + 1)
before_next n c = one_more (n / 16) (n % 16) c
  where
    rest_more : (b c : ℕ) → min c b + bit (nat_lt c b) ≡ min (c + 1) b
    rest_more b c = grind (arith, nat_tests)

    one_more : (a b c : ℕ) → c * a + min c b + (a + bit (nat_lt c b)) ≡ (c + 1) * a + min (c + 1) b
    one_more a b c =
        let rows : (c + 1) * a ≡ c * a + a = ap (λ (k : ℕ). k * a) (omega arith) ∙ suc-mul c a in
        omega (arith, rows, rest_more b c)

pub before_low : (n c : ℕ) → c ≤ 16 → before_column n c ≤ n
before_low n c low =
    let rows : c * (n / 16) ≤ 16 * (n / 16) = mul-le-mul_right (n / 16) low in
    omega (arith, rows)

pub columns_next : (p c n : ℕ) → bit (nat_lt (p % 16) c && nat_lt p n) + bit (p % 16 == c && nat_lt p n) ≡ bit (nat_lt (p % 16) (c + 1) && nat_lt p n)
columns_next p c n = grind (arith, nat_tests)

pub columns_in : (p n : ℕ) → p < n → bit (nat_lt (p % 16) 16 && nat_lt p n) ≡ 1
columns_in p n low = grind (arith, nat_tests)

pub columns_out : (p n : ℕ) → n ≤ p → bit (nat_lt (p % 16) 16 && nat_lt p n) ≡ 0
columns_out p n high = grind (arith, nat_tests)

pub columns_none : (p n : ℕ) → bit (nat_lt (p % 16) 0 && nat_lt p n) ≡ 0
columns_none p n = grind (arith, nat_tests)

-- one more of the same
pub replicate_more : {X : Type 0} (n : ℕ) (x : X) → replicate n x ++ x ∷ [] ≡ replicate (n + 1) x
replicate_more n x =
    let one : suc n ≡ n + 1 = omega arith in
    snoc n ∙ ap (λ (k : ℕ). replicate k x) one
  where
    snoc : (n : ℕ) → replicate n x ++ x ∷ [] ≡ replicate (suc n) x
    snoc zero = refl
    snoc (suc n) = ap (λ xs. x ∷ xs) (snoc n)
