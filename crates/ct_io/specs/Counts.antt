-- Counts of failures: they never fall, and stand still at the largest number of 64 bits.
use Rattle.std.specs.Prelude.{◌≡◌, ℕ, ◌+◌, ◌-◌, ◌^◌, ◌<◌, ◌⊎◌, Bool, List, nat_lt, ◌==◌, if◌then◌else◌}
use Rattle.std.specs.List.{list_any}

-- the largest number that a count reaches
abbrev pub last_count : ℕ
last_count = 2 ^ 64 - 1

-- the count after one more
abbrev pub risen : ℕ → ℕ
risen count = (if nat_lt count last_count then count + 1 else count)

-- the count rose; one that stands at its end is taken as risen
abbrev pub Rose : ℕ → ℕ → Type 0
Rose before after = (before < after) ⊎ (after ≡ last_count)

-- whether the number is one of these
abbrev pub is_listed : List ℕ → ℕ → Bool
is_listed numbers number = list_any (λ k. k == number) numbers
