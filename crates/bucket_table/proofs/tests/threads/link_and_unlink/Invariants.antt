use Rattle.std.proofs.Common.{false}
use Rattle.bucket_table.specs.Locks.{AreOpen}
use Rattle.bucket_table.specs.TestPlace.{HasTestPlace, only_bucket}
use Rattle.bucket_table.proofs.tests.threads.link_and_unlink.Given as goal

abbrev pub invariant-rounds : goal.invariant-rounds
invariant-rounds g l = record {
  place : HasTestPlace false l.place l.pass;
  mine : AreOpen only_bucket l.pass.view;
}
