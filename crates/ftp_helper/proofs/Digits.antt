-- The value of digits, one digit more at a time.
use Rattle.std.proofs.Common.{◌≡◌, ◌∙◌, ℕ, ◌+◌, ◌-◌, ◌*◌, ◌^◌, ◌<◌, ◌≤◌, true, false, List, ◌∷◌, length, get_or, take, drop, arith, refl, sym, ap, add-one, suc, zero, drop-cons}
use Rattle.std.specs.Char.{digit_value, is_ascii_digit}
use Rattle.std.specs.Str.{all_ascii_digits}
use Rattle.std.specs.Str.Parse.{digits_value}
use Rattle.std.proofs.lemmas.Bool.Decides.{nat_tests}
use Rattle.std.proofs.lemmas.Str.{digit_value_digit}
use Rattle.std.proofs.lemmas.Int.Digits.{digits_value_more}

digit_low : (b : ℕ) → is_ascii_digit b ≡ true → 48 ≤ b
digit_low b digit = grind (arith, nat_tests)

digit_high : (b : ℕ) → is_ascii_digit b ≡ true → b ≤ 57
digit_high b digit = grind (arith, nat_tests)

digit_is : (b : ℕ) → is_ascii_digit b ≡ true → digit_value b ≡ b - 48
digit_is b digit =
    let low = digit_low b digit in
    let high = digit_high b digit in
    let h : digit_value b + 48 ≡ b = digit_value_digit b (low, high) in
    omega arith

-- after i digits: their value, a bound of it, and that the rest decides whether all are digits
pub record IsRead (digits : List ℕ) (i value : ℕ) : Type 0 where
  pub same : value ≡ digits_value 10 (take i digits)
  pub rest : all_ascii_digits (drop i digits) ≡ all_ascii_digits digits
  pub small : value < 10 ^ i

cons_digit : (b : ℕ) (bs : List ℕ) → is_ascii_digit b ≡ true → all_ascii_digits (b ∷ bs) ≡ all_ascii_digits bs
cons_digit b bs digit = rw digit

power : (i value digit : ℕ) → value < 10 ^ i → digit ≤ 9 → value * 10 + digit < 10 ^ (i + 1)
power i value digit small low = rw add-one (omega arith)

pub one_more : (digits : List ℕ) (i value digit : ℕ) → i < length digits → is_ascii_digit (get_or digits i 0) ≡ true
    → digit ≡ get_or digits i 0 - 48 → IsRead digits i value → IsRead digits (i + 1) (value * 10 + digit)
one_more digits i value digit inside test is so_far =
    let high = digit_high (get_or digits i 0) test in
    let here : digit ≡ digit_value (get_or digits i 0) = is ∙ sym (digit_is (get_or digits i 0) test) in
    let more = digits_value_more 10 digits i inside in
    let same_value = so_far.same in
    let split : drop i digits ≡ get_or digits i 0 ∷ drop (i + 1) digits = rw add-one (drop-cons digits i 0 inside) in
    let front = cons_digit (get_or digits i 0) (drop (i + 1) digits) test in
    record {
      same = cc;
      rest = sym front ∙ (ap all_ascii_digits (sym split) ∙ so_far.rest);
      small = power i value digit so_far.small (omega arith);
    }

-- a byte that is no digit
pub not_all : (digits : List ℕ) (i value : ℕ) → i < length digits → is_ascii_digit (get_or digits i 0) ≡ false → IsRead digits i value → all_ascii_digits digits ≡ false
not_all digits i value inside test so_far =
    let split : drop i digits ≡ get_or digits i 0 ∷ drop (i + 1) digits = rw add-one (drop-cons digits i 0 inside) in
    let none : all_ascii_digits (drop i digits) ≡ false = rw (split, test) refl in
    sym so_far.rest ∙ none

-- a number of fewer than five digits
pub small_enough : (i value : ℕ) → i < 5 → value < 10 ^ i → value < 10000
small_enough zero value few small = omega arith
small_enough (suc zero) value few small = omega arith
small_enough (suc (suc zero)) value few small = omega arith
small_enough (suc (suc (suc zero))) value few small = omega arith
small_enough (suc (suc (suc (suc zero)))) value few small = omega arith
small_enough (suc (suc (suc (suc (suc i))))) value few small = absurd (omega arith)
