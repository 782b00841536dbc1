use Rattle.std.proofs.Common.{rules}
use Rattle.event_listen.proofs.Orders.{begins, forks}
use Rattle.event_listen.proofs.line.connect.Goals as goal

pub ruled-requires-clause-rule : goal.ruled-requires-clause-rule
ruled-requires-clause-rule c = begins

pub another-requires-clause-rule : goal.another-requires-clause-rule
another-requires-clause-rule c = forks _ _ (search rules) (search rules)
