use Rattle.std.proofs.Common.{arith, refl}
use lib.Count.{ones}
use Rattle.shared_tests.proofs.rule.sizes.Goals as goal

pub returns-clause-limits : goal.returns-clause-limits
unfolding ones
returns-clause-limits c = record {
  some_entries = omega arith;
  entries = omega arith;
  buckets = omega arith;
  power = refl;
  some_passes = omega arith;
  passes = omega arith;
  expectations = omega arith;
}
