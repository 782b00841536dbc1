use Rattle.std.specs.Prelude.{◌≡◌, drop, find}
use Rattle.expect_table.specs.Match.{has_id}
use Rattle.expect_table.proofs.table.first_with.Given as goal

abbrev pub invariant-loop-e : goal.invariant-loop-e
invariant-loop-e l = find (has_id l.id) (drop l.e-index l.items) ≡ find (has_id l.id) l.items
