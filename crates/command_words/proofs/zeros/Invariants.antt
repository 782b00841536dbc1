use Rattle.std.proofs.Common.{◌≡◌, ◌≤◌}
use Rattle.std.specs.Prelude.{replicate}
use Rattle.command_words.proofs.zeros.Given as goal

abbrev pub invariant-zones : goal.invariant-zones
invariant-zones l = (l.zones.items ≡ replicate l._zone 0) × (l.count ≤ l.zones.room)
