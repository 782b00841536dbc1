-- How rises of counts go together with counts that never fall.
use Rattle.std.proofs.Common.{ℕ, ◌≤◌, inl, inr, arith}
use Rattle.ct_io.specs.Counts.{Rose, risen, last_count}

-- a rise is a rise also from any earlier count
pub rose_from_earlier : (a b c : ℕ) → a ≤ b → Rose b c → Rose a c
rose_from_earlier a b c never_fell (inl higher) = inl (omega arith)
rose_from_earlier a b c never_fell (inr at_end) = inr at_end

-- a rise is still one later
pub rose_until_later : (a b c : ℕ) → a ≤ b → Rose a b → b ≤ c → Rose a c
rose_until_later a b c from_before rose never_fell = grind arith

-- one more is a rise, and no fall
pub risen_rose : (count : ℕ) → count ≤ last_count → Rose count (risen count)
risen_rose count bound = grind arith

pub risen_stays : (count : ℕ) → count ≤ risen count
risen_stays count = grind arith
