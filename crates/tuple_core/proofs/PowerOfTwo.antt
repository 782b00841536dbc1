-- Dividing by a power of two leaves what a mask leaves.
use Rattle.std.proofs.Common.{ℕ, zero, suc, ◌≡◌, ◌≤◌, ◌-◌, ◌^◌, ◌/◌, ◌%◌, true, refl, sym, subst, arith}
use Rattle.std.proofs.Math.Nat.{pow-suc}
use Rattle.std.proofs.lemmas.Bool.{eqb-true}
use Rattle.std.proofs.lemmas.Nat.{and_mask, ones_le_self, zero_from_ones}
use Rattle.std.specs.Int.{is_power_of_two}
use Rattle.std.specs.Int.Count.{ones_step}
use Rattle.std.specs.Prelude.{bit_and, count_ones}

-- by the lowest bit: where it is set no other is
power_from_half : (n r : ℕ) → n % 2 ≡ r → count_ones n ≡ 1 → (count_ones (n / 2) ≡ 1 → (k : ℕ) × (n / 2 ≡ 2 ^ k)) → (k : ℕ) × (n ≡ 2 ^ k)
power_from_half n zero even one half =
    let rest : (k : ℕ) × (n / 2 ≡ 2 ^ k) = half (omega (arith, ones_step n)) in
    (suc rest.0, omega (arith, pow-suc 2 rest.0, rest.1))
power_from_half n (suc r) odd one half =
    let none : n / 2 ≡ 0 = zero_from_ones (n / 2) (omega (arith, ones_step n)) in
    (0, omega (arith, ones_step n))

-- a number with one bit set is a power of two
one_bit : (d n : ℕ) → n ≤ d → count_ones n ≡ 1 → (k : ℕ) × (n ≡ 2 ^ k)
one_bit zero n small one = absurd (omega (arith, ones_le_self n))
one_bit (suc d) n small one = power_from_half n (n % 2) refl one (one_bit d (n / 2) (omega arith))

pub mask_of_power : (m n : ℕ) → is_power_of_two n ≡ true → bit_and m (n - 1) ≡ m % n
mask_of_power m n one =
    let power : (k : ℕ) × (n ≡ 2 ^ k) = one_bit n n (omega arith) (eqb-true _ _ one) in
    subst (λ (x : ℕ). bit_and m (x - 1) ≡ m % x) (sym power.1) (and_mask m power.0)
