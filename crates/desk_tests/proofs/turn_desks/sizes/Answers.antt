use Rattle.std.proofs.Common.{arith, refl}
use Rattle.desk_tests.proofs.turn_desks.sizes.Goals as goal

pub returns-clause-within : goal.returns-clause-within
unfolding lib.Count.ones
returns-clause-within c = record {
  some_entries = omega arith;
  entries = omega arith;
  buckets = omega arith;
  power = refl;
  some_passes = omega arith;
  passes = omega arith;
  expectations = omega arith;
}
