use Rattle.std.proofs.Common.{length}
use Rattle.nat_setup.proofs.RuleLines.{HasRead}
use Rattle.nat_setup.proofs.read.read_rules.Given as goal

abbrev pub invariant-lines : goal.invariant-lines
invariant-lines l = HasRead l.bytes l.rest l.rules.items l.number

abbrev pub decreases-lines : goal.decreases-lines
decreases-lines l = length l.rest
