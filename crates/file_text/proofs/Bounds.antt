-- Numbers within bounds: ports and addresses too.
use Rattle.std.proofs.Common.{◌≡◌, ℕ, ◌≤◌, ◌<◌, ◌^◌, ◌==◌, ◌&&◌, Bool, true, false, nat_le, nat_lt, if◌then◌else◌, List, [], ◌∷◌, length, get_or, Option, Some, None, IfSome, arith, refl}
use Rattle.std.proofs.lemmas.Bool.Decides.{nat_tests}
use Rattle.file_text.specs.Text.{address_of, address_of_octets, address_of_parts, decimal_of, number_in, octet_of, parts_at, port_of, within}

-- a number within bounds is no greater than the upper one
pub below_high : (low high : ℕ) (read : Option ℕ) → IfSome (within low high read) (λ n. n ≤ high)
below_high low high None = tt
below_high low high (Some n) = tested (nat_le low n && nat_le n high) (λ is. grind (arith, nat_tests, is))
  where
    tested : (test : Bool) → (test ≡ true → n ≤ high) → IfSome (if test then Some n else None) (λ m. m ≤ high)
    tested true below = below refl
    tested false below = tt

below : (low high most : ℕ) (read : Option ℕ) → high < most → IfSome (within low high read) (λ n. n < most)
below low high most read less = lower (within low high read) (below_high low high read)
  where
    lower : (n : Option ℕ) → IfSome n (λ m. m ≤ high) → IfSome n (λ m. m < most)
    lower None is = tt
    lower (Some n) is = omega arith

pub small_port : (least : ℕ) (text : List ℕ) → IfSome (port_of least text) (λ n. n < 2 ^ 16)
unfolding port_of
small_port least text = below least 65535 (2 ^ 16) (decimal_of 5 text) (omega arith)

small_octet : (text : List ℕ) → IfSome (octet_of text) (λ n. n ≤ 255)
unfolding octet_of
small_octet text = tested (nat_lt 1 (length text) && get_or text 0 0 == 48)
  where
    tested : (test : Bool) → IfSome (if test then None else number_in 3 0 255 text) (λ n. n ≤ 255)
    tested true = tt
    tested false = below_high 0 255 (decimal_of 3 text)

small_octets : (a b c d : Option ℕ) → IfSome a (λ n. n ≤ 255) → IfSome b (λ n. n ≤ 255) → IfSome c (λ n. n ≤ 255) → IfSome d (λ n. n ≤ 255) → IfSome (address_of_octets a b c d) (λ n. n < 2 ^ 32)
small_octets None b c d first second third fourth = tt
small_octets (Some a) None c d first second third fourth = tt
small_octets (Some a) (Some b) None d first second third fourth = tt
small_octets (Some a) (Some b) (Some c) None first second third fourth = tt
small_octets (Some a) (Some b) (Some c) (Some d) first second third fourth = omega arith

small_parts : (parts : List (List ℕ)) → IfSome (address_of_parts parts) (λ n. n < 2 ^ 32)
small_parts [] = tt
small_parts (a ∷ []) = tt
small_parts (a ∷ b ∷ []) = tt
small_parts (a ∷ b ∷ c ∷ []) = tt
small_parts (a ∷ b ∷ c ∷ d ∷ []) = small_octets (octet_of a) (octet_of b) (octet_of c) (octet_of d) (small_octet a) (small_octet b) (small_octet c) (small_octet d)
small_parts (a ∷ b ∷ c ∷ d ∷ e ∷ parts) = tt

pub small_address : (text : List ℕ) → IfSome (address_of text) (λ n. n < 2 ^ 32)
unfolding address_of
small_address text = small_parts (parts_at 46 text)
