use Rattle.desk_tests.proofs.BusyDesk.{went_after, went_expect}
use Rattle.desk_tests.proofs.busy_desk.stage.expect_for.Goals as goal

pub returns : goal.returns
returns g c =
    went_after c.args.desk.now c.peek.new.self c.expect.new.self 1 0 c.in-Seen.ensures.says.0.saw c.in-Seen.ensures.says.1
    (went_expect c.args.place c.args.want c.args.moment c.peek.new.self c.expect.new.self c.expect.result
    c.expect.ensures.says c.expect.ensures.knows)
