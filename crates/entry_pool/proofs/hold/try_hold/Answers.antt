use Rattle.entry_pool.proofs.Holding.{reads_two}
use Rattle.entry_pool.proofs.hold.try_hold.Goals as goal

pub returns-in-Err : goal.returns-in-Err
returns-in-Err c =
    reads_two c.args.place c.ref_load-seen.result c.in-Err.now c.args.pass.now c.ref_load-seen.new.self c.ref_up.new.self c.ref_load-seen.ensures.loads
    c.ref_load-seen.ensures.kept c.in-Err.ensures.err c.in-Err.ensures.kept c.if-seen-eq0.false
