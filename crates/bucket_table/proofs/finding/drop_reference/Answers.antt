use Rattle.bucket_table.proofs.Meeting.{gives_last, gives_some}
use Rattle.bucket_table.proofs.finding.drop_reference.Goals as goal

pub returns-then-ref_down-eq1 : goal.returns-then-ref_down-eq1
returns-then-ref_down-eq1 c =
    gives_last c.args.place c.args.pass.now c.requires c.ref_down.result c.ref_down.new.self c.ref_down.ensures.lowers c.ref_down.ensures.kept c.if-ref_down-eq1.true

pub returns-else-ref_down-eq1 : goal.returns-else-ref_down-eq1
returns-else-ref_down-eq1 c =
    gives_some c.args.place c.args.pass.now c.requires c.ref_down.result c.ref_down.new.self c.ref_down.ensures.lowers c.ref_down.ensures.kept c.if-ref_down-eq1.false
