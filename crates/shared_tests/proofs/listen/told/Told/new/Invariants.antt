use Rattle.std.proofs.Common.{◌≡◌, length}
use Rattle.shared_tests.proofs.listen.told.Told.new.Given as goal

abbrev pub invariant-events : goal.invariant-events
invariant-events g l = length l.history.items ≡ l.index
