-- One more digit of a number.
use Rattle.std.proofs.Common.{◌≡◌, ◌∙◌, ℕ, ◌+◌, ◌-◌, ◌*◌, ◌^◌, ◌<◌, ◌≤◌, true, false, List, ◌∷◌, length, get_or, take, drop, arith, sym, ap, add-one, drop-cons}
use Rattle.std.proofs.Math.Nat.{lt_of_lt_of_le, pow-le-pow_right}
use Rattle.std.specs.Char.{digit_value, is_ascii_digit}
use Rattle.std.specs.Str.{all_ascii_digits}
use Rattle.std.specs.Str.Parse.{digits_value}
use Rattle.std.proofs.lemmas.Bool.Decides.{nat_tests}
use Rattle.std.proofs.lemmas.Str.{digit_value_digit}
use Rattle.std.proofs.lemmas.Int.Digits.{digits_value_more}

digit_low : (c : ℕ) → is_ascii_digit c ≡ true → 48 ≤ c
digit_low c digit = grind (arith, nat_tests)

digit_high : (c : ℕ) → is_ascii_digit c ≡ true → c ≤ 57
digit_high c digit = grind (arith, nat_tests)

digit_is : (c : ℕ) → is_ascii_digit c ≡ true → digit_value c ≡ c - 48
digit_is c digit =
    let low = digit_low c digit in let high = digit_high c digit in
    let h : digit_value c + 48 ≡ c = digit_value_digit c (low, high) in
    omega arith

-- the number so far, that what is left decides, and a bound
abbrev pub Counted : List ℕ → ℕ → ℕ → Type 0
Counted text i v = (v ≡ digits_value 10 (take i text)) × (all_ascii_digits (drop i text) ≡ all_ascii_digits text) × (v < 10 ^ i)

cons_digit : (c : ℕ) (cs : List ℕ) → is_ascii_digit c ≡ true → all_ascii_digits (c ∷ cs) ≡ all_ascii_digits cs
cons_digit c cs digit = rw digit

power : (i v d : ℕ) → v < 10 ^ i → d ≤ 9 → v * 10 + d < 10 ^ (i + 1)
power i v d small low = rw add-one (omega arith)

pub more : (text : List ℕ) (i v d : ℕ) → i < length text → is_ascii_digit (get_or text i 0) ≡ true → d ≡ get_or text i 0 - 48 → Counted text i v → Counted text (i + 1) (v * 10 + d)
more text i v d inside digit is (value, rest, small) =
    let high = digit_high (get_or text i 0) digit in
    let e : d ≡ digit_value (get_or text i 0) = is ∙ sym (digit_is (get_or text i 0) digit) in
    let f = digits_value_more 10 text i inside in
    let g : drop i text ≡ get_or text i 0 ∷ drop (i + 1) text = rw add-one (drop-cons text i 0 inside) in
    let k = cons_digit (get_or text i 0) (drop (i + 1) text) digit in
    (cc, sym k ∙ (ap all_ascii_digits (sym g) ∙ rest), power i v d small (omega arith))

pub bad : (text : List ℕ) (i : ℕ) → i < length text → is_ascii_digit (get_or text i 0) ≡ false → all_ascii_digits (drop i text) ≡ false
bad text i inside none = rw (drop-cons text i 0 inside, none)

pub bounded : (i v : ℕ) → i < 17 → v < 10 ^ i → v < 10 ^ 16
bounded i v low small =
    let below : i ≤ 16 = omega arith in
    let most : 10 ^ i ≤ 10 ^ 16 = pow-le-pow_right (omega arith) below in
    lt_of_lt_of_le small most
