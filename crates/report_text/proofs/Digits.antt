-- The digits of numbers, two at a time, where they are put into a buffer.
use mir.Val.{bool_byte}
use Rattle.std.proofs.Common.{◌≡◌, ◌∙◌, ℕ, zero, suc, ◌+◌, ◌*◌, ◌/◌, ◌%◌, ◌^◌, ◌<◌, ◌≤◌, Bool, true, false, ◌&&◌, List, [], ◌∷◌, ◌++◌, length, get_or, set, take, refl, ap, subst, arith, append_assoc, length-append, codes, leb, nat_eq, sym, true≢false}
use Rattle.std.proofs.lemmas.Bool.{and_parts, leb-false, leb-true}
use Rattle.std.proofs.lemmas.Bool.Decides.{nat_tests}
use Rattle.std.proofs.lemmas.List.{take-append-le}
use Rattle.std.proofs.lemmas.Fmt.{decimal_digit, decimal_step}
use Rattle.std.specs.Fmt.{decimal}
use Rattle.std.specs.Cmp.Lexicographic.{pointwise, same_text}
use Rattle.std.specs.Prelude.{◌==◌}
use Rattle.report_text.specs.declared.number.TheConstants.{OCTETS, PAIRS}
use Rattle.report_text.specs.Internal.Digits.{eight_digits, four_digits, two_digits}

-- ---- the table of pairs, place by place

abbrev is_pair : ℕ → Bool
is_pair p = get_or PAIRS (p * 2) 0 == 48 + p / 10 && get_or PAIRS (p * 2 + 1) 0 == 48 + p % 10

abbrev are_pairs : ℕ → Bool
are_pairs zero = true
are_pairs (suc p) = is_pair p && are_pairs p

equal : (m n : ℕ) → m == n ≡ true → m ≡ n
equal m n h = grind (arith, nat_tests)

pair_below : (n p : ℕ) → are_pairs n ≡ true → p < n → is_pair p ≡ true
pair_below zero p all below = absurd (omega (arith, below))
pair_below (suc n) p all below =
    let parts = and_parts (is_pair n) (are_pairs n) all in
    by_last parts.0 (λ less. pair_below n p parts.1 less)
  where
    by_last : is_pair n ≡ true → (p < n → is_pair p ≡ true) → is_pair p ≡ true
    by_last last before = grind (arith, nat_tests)

pub PAIRS_at : (p : ℕ) → p < 100 → (get_or PAIRS (p * 2) 0 ≡ 48 + p / 10) × (get_or PAIRS (p * 2 + 1) 0 ≡ 48 + p % 10)
PAIRS_at p below =
    let both = and_parts (get_or PAIRS (p * 2) 0 == 48 + p / 10) (get_or PAIRS (p * 2 + 1) 0 == 48 + p % 10) (pair_below 100 p refl below) in
    (equal _ _ both.0, equal _ _ both.1)

-- ---- two bytes put into a buffer

pub pair_put : (buffer : List ℕ) (at a b : ℕ) → at + 2 ≤ length buffer → take (at + 2) (set (set buffer at a) (at + 1) b) ≡ take at buffer ++ a ∷ b ∷ []
pair_put [] at a b room = absurd (omega (arith, room))
pair_put (x ∷ []) zero a b room = absurd (omega (arith, room))
pair_put (x ∷ y ∷ rest) zero a b room = refl
pair_put (x ∷ rest) (suc at) a b room =
    let two : suc at + 2 ≡ suc (at + 2) = omega arith in
    let one : suc at + 1 ≡ suc (at + 1) = omega arith in
    rw (two, one) (ap (λ (xs : List ℕ). x ∷ xs) (pair_put rest at a b (omega (arith, room))))

pub one_put : (buffer : List ℕ) (at a : ℕ) → at + 1 ≤ length buffer → take (at + 1) (set buffer at a) ≡ take at buffer ++ a ∷ []
one_put [] at a room = absurd (omega (arith, room))
one_put (x ∷ rest) zero a room = refl
one_put (x ∷ rest) (suc at) a room =
    let one : suc at + 1 ≡ suc (at + 1) = omega arith in
    rw one (ap (λ (xs : List ℕ). x ∷ xs) (one_put rest at a (omega (arith, room))))

-- ---- the digits of a number

pub decimal_two : (n : ℕ) → 10 ≤ n → n < 100 → decimal n ≡ two_digits n
decimal_two n more less = rw (decimal_step n more (omega arith), decimal_digit (n / 10) (omega arith)) refl

pub decimal_pair : (n : ℕ) → 100 ≤ n → n < 2 ^ 64 → decimal n ≡ decimal (n / 100) ++ two_digits (n % 100)
decimal_pair n more less =
    let tens : n / 10 / 10 ≡ n / 100 = omega arith in
    let ten : n / 10 % 10 ≡ n % 100 / 10 = omega arith in
    let one : n % 10 ≡ n % 100 % 10 = omega arith in
    rw (decimal_step n (omega arith) less, decimal_step (n / 10) (omega arith) (omega arith), append_assoc, tens, ten, ← one)

pub decimal_four : (n : ℕ) → 10000 ≤ n → n < 2 ^ 64 → decimal n ≡ decimal (n / 10000) ++ four_digits (n % 10000)
decimal_four n more less =
    let front : n / 100 / 100 ≡ n / 10000 = omega arith in
    let upper : n / 100 % 100 ≡ n % 10000 / 100 = omega arith in
    let lower : n % 10000 % 100 ≡ n % 100 = omega arith in
    rw (decimal_pair n (omega arith) less, decimal_pair (n / 100) (omega arith) (omega arith), append_assoc, front, upper, lower)

pub decimal_eight : (n : ℕ) → 10 ^ 8 ≤ n → n < 2 ^ 64 → decimal n ≡ decimal (n / 10 ^ 8) ++ eight_digits (n % 10 ^ 8)
decimal_eight n more less =
    let front : n / 10000 / 10000 ≡ n / 10 ^ 8 = omega arith in
    let upper : n / 10000 % 10000 ≡ n % 10 ^ 8 / 10000 = omega arith in
    let lower : n % 10 ^ 8 % 10000 ≡ n % 10000 = omega arith in
    let joined = append_assoc (decimal (n / 10000 / 10000)) (four_digits (n / 10000 % 10000)) (four_digits (n % 10000)) in
    rw (decimal_four n (omega arith) less, decimal_four (n / 10000) (omega arith) (omega arith), joined, front, upper, lower)

-- ---- how many digits a number has

pub length_one : (n : ℕ) → n < 10 → length (decimal n) ≡ 1
length_one n less = ap length (decimal_digit n less)

pub length_two : (n : ℕ) → 10 ≤ n → n < 100 → length (decimal n) ≡ 2
length_two n more less = ap length (decimal_two n more less)

pub length_pair : (n : ℕ) → 100 ≤ n → n < 2 ^ 64 → length (decimal n) ≡ length (decimal (n / 100)) + 2
length_pair n more less = ap length (decimal_pair n more less) ∙ length-append _ _

pub length_four : (n : ℕ) → 10000 ≤ n → n < 2 ^ 64 → length (decimal n) ≡ length (decimal (n / 10000)) + 4
length_four n more less = ap length (decimal_four n more less) ∙ length-append _ _

pub length_eight : (n : ℕ) → 10 ^ 8 ≤ n → n < 2 ^ 64 → length (decimal n) ≡ length (decimal (n / 10 ^ 8)) + 8
length_eight n more less = ap length (decimal_eight n more less) ∙ length-append _ _

-- ---- a byte and a dot

-- the digits of a byte, where it is told whether it has more than one, and more than two
abbrev byte_digits : Bool → Bool → ℕ → List ℕ
byte_digits false long n = (48 + n) ∷ []
byte_digits true false n = two_digits n
byte_digits true true n = (48 + n / 100) ∷ two_digits (n % 100)

byte_digits_are : (more long : Bool) (n : ℕ) → more ≡ leb 10 n → long ≡ leb 100 n → n < 256 → byte_digits more long n ≡ decimal n
byte_digits_are false long n tens hundreds below = sym (decimal_digit n (leb-false 10 n (sym tens)))
byte_digits_are true false n tens hundreds below = sym (decimal_two n (leb-true 10 n (sym tens)) (leb-false 100 n (sym hundreds)))
byte_digits_are true true n tens hundreds below =
    rw (decimal_pair n (leb-true 100 n (sym hundreds)) (omega (arith, below)), decimal_digit (n / 100) (omega (arith, below)))

abbrev pub octet_end : ℕ → ℕ
octet_end n = 2 + bool_byte (leb 10 n) + bool_byte (leb 100 n)

bit_short : (b : Bool) → bool_byte b ≤ 1
bit_short true = omega arith
bit_short false = omega arith

pub octet_short : (n : ℕ) → octet_end n ≤ 4
octet_short n = omega (arith, bit_short (leb 10 n), bit_short (leb 100 n))

abbrev is_octet : ℕ → List ℕ → Bool
is_octet n four = pointwise nat_eq (take (octet_end n) four) (byte_digits (leb 10 n) (leb 100 n) n ++ codes ".")

abbrev are_octets : ℕ → List ℕ → Bool
are_octets from [] = true
are_octets from (a ∷ []) = false
are_octets from (a ∷ b ∷ []) = false
are_octets from (a ∷ b ∷ c ∷ []) = false
are_octets from (a ∷ b ∷ c ∷ d ∷ rest) = is_octet from (a ∷ b ∷ c ∷ d ∷ []) && are_octets (from + 1) rest

abbrev pub octet : List ℕ → ℕ → List ℕ
octet table n = get_or table (n * 4) 0 ∷ get_or table (n * 4 + 1) 0 ∷ get_or table (n * 4 + 2) 0 ∷ get_or table (n * 4 + 3) 0 ∷ []

octet_in : (table : List ℕ) (from n : ℕ) → are_octets from table ≡ true → n * 4 < length table → is_octet (from + n) (octet table n) ≡ true
octet_in [] from n all within = absurd (omega (arith, within))
octet_in (a ∷ []) from n all within = absurd (true≢false (sym all))
octet_in (a ∷ b ∷ []) from n all within = absurd (true≢false (sym all))
octet_in (a ∷ b ∷ c ∷ []) from n all within = absurd (true≢false (sym all))
octet_in (a ∷ b ∷ c ∷ d ∷ rest) from zero all within =
    let same : from + 0 ≡ from = omega arith in
    rw same (and_parts (is_octet from (a ∷ b ∷ c ∷ d ∷ [])) (are_octets (from + 1) rest) all).0
octet_in (a ∷ b ∷ c ∷ d ∷ rest) from (suc n) all within =
    let same : from + suc n ≡ from + 1 + n = omega arith in
    let first : suc n * 4 ≡ suc (suc (suc (suc (n * 4)))) = omega arith in
    let second : suc n * 4 + 1 ≡ suc (suc (suc (suc (n * 4 + 1)))) = omega arith in
    let third : suc n * 4 + 2 ≡ suc (suc (suc (suc (n * 4 + 2)))) = omega arith in
    let fourth : suc n * 4 + 3 ≡ suc (suc (suc (suc (n * 4 + 3)))) = omega arith in
    rw (second, third, fourth, first, same) (octet_in rest (from + 1) n (and_parts (is_octet from (a ∷ b ∷ c ∷ d ∷ [])) (are_octets (from + 1) rest) all).1 (omega (arith, within)))

pub OCTETS_at : (n : ℕ) → n < 256 → take (octet_end n) (octet OCTETS n) ≡ decimal n ++ codes "."
OCTETS_at n below =
    let first : 0 + n ≡ n = omega arith in
    let told : is_octet n (octet OCTETS n) ≡ true = subst (λ (k : ℕ). is_octet k (octet OCTETS n) ≡ true) first (octet_in OCTETS 0 n refl (omega (arith, below))) in
    same_text _ _ (sym told) ∙ ap (λ (ds : List ℕ). ds ++ codes ".") (byte_digits_are (leb 10 n) (leb 100 n) n refl refl below)

-- ---- four bytes put into a buffer, of which so many stay

pub four_put : (buffer : List ℕ) (at a b c d k : ℕ) → at + 4 ≤ length buffer → k ≤ 4 →
    take (at + k) (set (set (set (set buffer at a) (at + 1) b) (at + 2) c) (at + 3) d) ≡ take at buffer ++ take k (a ∷ b ∷ c ∷ d ∷ [])
four_put [] at a b c d k room short = absurd (omega (arith, room))
four_put (w ∷ []) zero a b c d k room short = absurd (omega (arith, room))
four_put (w ∷ x ∷ []) zero a b c d k room short = absurd (omega (arith, room))
four_put (w ∷ x ∷ y ∷ []) zero a b c d k room short = absurd (omega (arith, room))
four_put (w ∷ x ∷ y ∷ z ∷ rest) zero a b c d k room short =
    let end : 0 + k ≡ k = omega arith in
    rw end (take-append-le k (a ∷ b ∷ c ∷ d ∷ []) rest short)
four_put (x ∷ rest) (suc at) a b c d k room short =
    let end : suc at + k ≡ suc (at + k) = omega arith in
    let one : suc at + 1 ≡ suc (at + 1) = omega arith in
    let two : suc at + 2 ≡ suc (at + 2) = omega arith in
    let three : suc at + 3 ≡ suc (at + 3) = omega arith in
    rw (end, one, two, three) (ap (λ (xs : List ℕ). x ∷ xs) (four_put rest at a b c d k (omega (arith, room)) short))
