-- A sink in memory, as contracts see it.
use Rattle.std.specs.Prelude.{ℕ, ◌||◌, Bool, List, length, nat_le}
use Rattle.ct_io.specs.Counts.{is_listed}

-- The bytes written, for how many there is room in all, the numbers of the writes that are to
-- fail, how many writes there were (this count stands still at its end), and how many failed.
pub record Written : Type 0 where
  pub bytes : List ℕ
  pub room : ℕ
  pub fails : List ℕ
  pub writes : ℕ
  pub faults : ℕ

-- whether the next write fails: its number is one of those that are to fail, or the room is used up
abbrev pub is_write_failing : Written → Bool
is_write_failing s = is_listed s.fails s.writes || nat_le s.room (length s.bytes)
