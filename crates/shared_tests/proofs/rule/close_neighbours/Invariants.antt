use Rattle.std.proofs.Common.{◌≤◌, ◌+◌, ◌-◌, length}
use Rattle.shared_tests.proofs.rule.close_neighbours.Given as goal

abbrev pub invariant-places : goal.invariant-places
invariant-places l = record { some : 1 ≤ l.index; few : l.close + 1 ≤ l.index }

abbrev pub decreases-places : goal.decreases-places
decreases-places l = length l.list.items - l.index
