use Rattle.bucket_table.proofs.Locking.{locks_after}
use Rattle.bucket_table.proofs.lock.lock.Goals as goal

pub returns-then-try_lock-2 : goal.returns-then-try_lock-2
returns-then-try_lock-2 g c = locks_after c.args.bucket c.args.pass.now c.tries.pass c.try_lock-in-tries.new.pass c.tries.invariant.loads c.if-try_lock-2.ensures
