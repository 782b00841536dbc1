use Rattle.shared_tests.proofs.Told.{told_knows}
use Rattle.shared_tests.proofs.listen.told.ToldDesk.ready.Goals as goal

pub returns-clause-knows : goal.returns-clause-knows
returns-clause-knows c = rw (← c.self.view_is) (told_knows _ c.self.invariant.0 c.self.invariant.1)
