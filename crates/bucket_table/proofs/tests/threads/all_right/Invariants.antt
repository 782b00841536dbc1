use Rattle.std.proofs.Common.{◌≡◌, []}
use Rattle.track_rule.specs.Sights.{sizes_of}
use Rattle.bucket_table.proofs.tests.threads.all_right.Given as goal

abbrev pub invariant-follows : goal.invariant-follows
invariant-follows l = record {
  all_open : l.pass.view.buckets.shut ≡ [];
  buckets : (sizes_of l.pass).buckets ≡ 1;
}
