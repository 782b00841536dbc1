-- A table before its first step: the free list has every place once, nothing is expected, and no slot has a record.
use Rattle.std.specs.Prelude.{◌≡◌, ℕ, ◌+◌, ◌*◌, ◌/◌, ◌%◌, ◌<◌, ◌≤◌, nat_lt, min, List, ◌∷◌, replicate}
use Rattle.expect_table.specs.declared.expectation.Expectation.{Expectation}
use Rattle.room_list.specs.Roomed.{Roomed}
use Rattle.track_rule.specs.declared.slot.Slot.{Slot}
use Rattle.track_rule.specs.declared.slot.Slot.TheVariants.{Vacant, Free, Expects}
use Rattle.track_rule.specs.Sums.{bit, times}

-- each of so many places stands in the list once, and no other does; there is room for all
pub record IsWhole (entries : ℕ) (list : Roomed ℕ) : Type 0 where
  pub once : (p : ℕ) → p < entries → times p list.items ≡ 1
  pub beyond : (p : ℕ) → entries ≤ p → times p list.items ≡ 0
  pub room : entries ≤ list.room

-- the slots of a table of so many places
abbrev pub first_slots : ℕ → Roomed ℕ → Roomed Expectation → List Slot
first_slots entries list table = Free list ∷ Expects table ∷ replicate entries Vacant

-- The list begins by columns: in each column the places with one remainder by 16, so that places next to each other on the
-- list lie far apart. How many places a column has, and how many the columns before it have together.
abbrev pub column_length : ℕ → ℕ → ℕ
column_length entries column = entries / 16 + bit (nat_lt column (entries % 16))

abbrev pub before_column : ℕ → ℕ → ℕ
before_column entries column = column * (entries / 16) + min column (entries % 16)
