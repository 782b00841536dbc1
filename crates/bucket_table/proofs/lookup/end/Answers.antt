use Rattle.bucket_table.proofs.Following.{stands_still}
use Rattle.bucket_table.proofs.lookup.end.Goals as goal

pub returns-then-now-goal : goal.returns-then-now-goal
returns-then-now-goal c =
    stands_still c.args.goal.now c.history_load-history.result c.gen_load-now.result c.args.pass.now c.history_load-history.new.self c.gen_load-now.new.self
    c.history_load-history.ensures.looks c.history_load-history.ensures.kept c.gen_load-now.ensures.loads c.gen_load-now.ensures.kept c.events_in.result c.events_in.ensures c.if-now-goal.true
