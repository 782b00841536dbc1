use Rattle.entry_pool.proofs.Releasing.{kept_none, kept_some}
use Rattle.entry_pool.proofs.hold.release.Goals as goal

pub returns-then-ref_down-eq1 : goal.returns-then-ref_down-eq1
returns-then-ref_down-eq1 c =
    kept_none c.args.place c.ref_down.result c.args.pass.now c.ref_down.new.self c.ref_down.ensures.lowers c.ref_down.ensures.kept c.requires.carried
    c.if-ref_down-eq1.true

pub returns-else-ref_down-eq1 : goal.returns-else-ref_down-eq1
returns-else-ref_down-eq1 c =
    kept_some c.args.place c.ref_down.result c.args.pass.now c.ref_down.new.self c.ref_down.ensures.lowers c.ref_down.ensures.kept c.requires.carried
    c.if-ref_down-eq1.false
