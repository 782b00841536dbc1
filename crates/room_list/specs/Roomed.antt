-- A list with room, as contracts see it.
use Rattle.std.specs.Prelude.{ℕ, List}

-- the items in order, and for how many there is room
pub record Roomed (T : Type 0) : Type 0 where
  pub items : List T
  pub room : ℕ
