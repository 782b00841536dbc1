use Rattle.bucket_table.specs.LockedChain.{OnlyLoads}
use Rattle.bucket_table.proofs.lock.lock.Given as goal

abbrev pub invariant-tries : goal.invariant-tries
invariant-tries g l = record {
  next : (goal.iterator-tries g).can_next l.iterator';
  finite : (goal.iterator-tries g).is_finite l.iterator';
  loads : OnlyLoads l.fn.pass l.pass;
}
