use Rattle.std.proofs.Common.{arith, refl}
use Rattle.program_tests.proofs.in_turns.sizes_for.Goals as goal

pub returns-clause-limits : goal.returns-clause-limits
unfolding lib.Count.ones
returns-clause-limits c = record {
  some_entries = omega arith;
  entries = omega arith;
  buckets = omega arith;
  power = refl;
  some_passes = omega arith;
  passes = omega arith;
  expectations = omega arith;
}
