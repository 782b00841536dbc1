use Rattle.std.proofs.Common.{rules}
use Rattle.ip_reassembly.proofs.Filling.{filling_last, filling_over}
use Rattle.ip_reassembly.proofs.gathering.fill.Goals as goal

pub returns-in_ok-insert-2-clause-filled : goal.returns-in_ok-insert-2-clause-filled
returns-in_ok-insert-2-clause-filled c =
    (filling_last c.args.parts.now.items c.args.part c.parts.parts.items c.insert-then-rest-2.new.parts.items c.parts.index c.parts.rest c.parts.count
    c.parts.invariant (search rules) c.if-rest-2.true c.in_ok-insert-2.ensures).1

pub returns-else-rest-2-clause-parts : goal.returns-else-rest-2-clause-parts
returns-else-rest-2-clause-parts c =
    filling_over c.args.parts.now.items c.args.part c.parts.parts.items c.parts.index c.parts.rest c.parts.count c.parts.invariant c.if-rest-2.false
