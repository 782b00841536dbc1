use Rattle.std.proofs.Common.{ap, arith}
use Rattle.track_rule.specs.Sights.{sizes_of}
use Rattle.bucket_table.proofs.Chaining.{lock_words, one_lock_words}
use Rattle.bucket_table.proofs.Locking.{locks_two}
use Rattle.bucket_table.proofs.lock.lock_two.Goals as goal

pub returns-clause-locks : goal.returns-clause-locks
returns-clause-locks g c =
    locks_two (record { lower = c.min-lower.result; upper = c.max-upper.result }) c.args.pass.now c.lock.new.pass c.lock-2.new.pass c.if-lower-upper.false
    c.lock.ensures c.lock-2.ensures

pub returns-then-lower-upper-clause-words : goal.returns-then-lower-upper-clause-words
returns-then-lower-upper-clause-words g c =
    one_lock_words c.min-lower.result c.max-upper.result c.args.pass.now c.lock.new.pass (omega arith) (ap sizes_of c.lock.ensures.same) c.lock.ensures.stand c.lock.ensures.own

pub returns-clause-words : goal.returns-clause-words
returns-clause-words g c =
    let locks = returns-clause-locks g c in
    lock_words (record { lower = c.min-lower.result; upper = c.max-upper.result }) c.args.pass.now c.lock-2.new.pass (omega arith) (omega arith) (ap sizes_of locks.same)
    locks.stand locks.own
