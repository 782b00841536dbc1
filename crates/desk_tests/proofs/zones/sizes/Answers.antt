use Rattle.std.proofs.Common.{arith, refl}
use Rattle.desk_tests.proofs.zones.sizes.Goals as goal

pub returns : goal.returns
unfolding lib.Count.ones
returns c = record {
  some_entries = omega arith;
  entries = omega arith;
  buckets = omega arith;
  power = refl;
  some_passes = omega arith;
  passes = omega arith;
  expectations = omega arith;
}
