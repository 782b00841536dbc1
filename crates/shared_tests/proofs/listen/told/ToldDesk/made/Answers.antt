use Rattle.std.proofs.Common.{ap, arith, length}
use Rattle.history_book.specs.Sight.{Sight}
use Rattle.shared_tests.proofs.Told.{length-own, told_knows}
use Rattle.shared_tests.proofs.listen.told.ToldDesk.made.Goals as goal

pub returns-clause-exact : goal.returns-clause-exact
returns-clause-exact c = omega (arith, c.len.ensures.exact, length-own c.self.inside.history.items, ap (λ (s : Sight). length s.own) c.self.view_is)

pub returns-clause-knows : goal.returns-clause-knows
returns-clause-knows c = rw (← c.self.view_is) (told_knows _ c.self.invariant.0 c.self.invariant.1)
