use Rattle.std.proofs.Common.{length}
use Rattle.shared_tests.proofs.listen.+pump_at.Given as goal

abbrev pub decreases-pump_at : goal.decreases-pump_at
decreases-pump_at g l = length l.sendings.now.items
