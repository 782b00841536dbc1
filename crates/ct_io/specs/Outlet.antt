-- What contracts see of a writer of the system.
use Rattle.std.specs.Prelude.{ℕ}

-- the writer, and how often a call has failed
pub record Outlet (W : Type 0) : Type 0 where
  pub writer : W
  pub faults : ℕ
