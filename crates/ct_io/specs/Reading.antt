-- What a read does to what is left of a file.
use Rattle.std.specs.Prelude.{◌≡◌, ℕ, ◌≤◌, List, [], Option, None, Some, take, drop, length}

-- The first n bytes of what is left went into the buffer, and the rest is left; none went only at
-- the end. Where nothing is told before, nothing is told after.
abbrev pub Took : Option (List ℕ) → ℕ → List ℕ → Option (List ℕ) → Type 0
Took None n buffer after = after ≡ None
Took (Some left) n buffer after =
    (after ≡ Some (drop n left)) × (take n buffer ≡ take n left)
    × (n ≤ length left) × (n ≡ 0 → left ≡ [])
