use Rattle.bucket_table.proofs.Meeting.{can_still, test_moved}
use Rattle.bucket_table.proofs.finding.test.Goals as goal

pub drop_reference-owed-requires : goal.drop_reference-owed-requires
drop_reference-owed-requires c =
    can_still c.args.goal.now c.args.place c.args.met c.args.pass.now c.entry_at.new.pass c.requires.can c.in-None.ensures

pub returns-in-None : goal.returns-in-None
returns-in-None c =
    test_moved c.args.goal.now c.args.place c.args.met c.args.pass.now c.entry_at.new.pass c.requires.can c.in-None.ensures c.load_again.result
    c.drop_reference-owed.result c.drop_reference-owed.new.pass c.load_again.new.pass c.drop_reference-owed.ensures c.load_again.ensures
