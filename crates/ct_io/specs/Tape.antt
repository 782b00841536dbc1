-- What contracts see of a sink: one value.
use Rattle.std.specs.Prelude.{ℕ, List, Option}

-- all bytes written so far, where they are told, and how often writing has failed
pub record Tape : Type 0 where
  pub written : Option (List ℕ)
  pub faults : ℕ
