-- Numbers modulo 2^32 and their offsets from a base.
use Rattle.std.proofs.Common.{◌≡◌, ℕ, ◌+◌, ◌^◌, ◌%◌, ◌<◌, arith}
use Rattle.ftp_rewrite.specs.Edit.{offset_of}

-- a number is its base and its offset
pub number_of_offset : (base n : ℕ) → base < 2 ^ 32 → n < 2 ^ 32 → (base + offset_of base n) % 2 ^ 32 ≡ n
number_of_offset base n small fits = omega arith

-- an offset is that of its number
pub offset_of_number : (base x : ℕ) → base < 2 ^ 32 → x < 2 ^ 32 → offset_of base ((base + x) % 2 ^ 32) ≡ x
offset_of_number base x small fits = omega arith

-- a place far on is one of the same number
pub seq_of_place : (seq place : ℕ) → (seq + place % 2 ^ 32) % 2 ^ 32 ≡ (seq + place) % 2 ^ 32
seq_of_place seq place = omega arith
