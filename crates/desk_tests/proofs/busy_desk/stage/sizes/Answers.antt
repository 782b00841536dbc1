use Rattle.std.proofs.Common.{arith, refl}
use lib.Count.{ones}
use Rattle.desk_tests.proofs.busy_desk.stage.sizes.Goals as goal

pub returns : goal.returns
unfolding ones
returns c = record {
  some_entries = omega arith;
  entries = omega arith;
  buckets = omega arith;
  power = refl;
  some_passes = omega arith;
  passes = omega arith;
  expectations = omega arith;
}
