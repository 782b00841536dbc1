-- What a packet does that comes later by some time, where the entry is not expired by then either.
use Rattle.std.specs.Prelude.{ℕ, ◌+◌}
use Rattle.proto_rules.specs.declared.Outcome.{Outcome}
use Rattle.proto_rules.specs.declared.Outcome.TheVariants.{Accept, Ignore, Invalid, Reopen, Reset, Expired}
use Rattle.proto_rules.specs.declared.Part.{Part}

-- the part, which lives on for longer by so much
abbrev pub later_part : ℕ → Part → Part
later_part by part = record part { deadline = part.deadline + by }

-- the same outcome for a packet that comes later by so much
abbrev pub later : ℕ → Outcome → Outcome
later by (Accept part) = Accept (later_part by part)
later by Ignore = Ignore
later by Invalid = Invalid
later by Reopen = Reopen
later by Reset = Reset
later by Expired = Expired
