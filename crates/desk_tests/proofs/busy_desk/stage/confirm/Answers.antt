use Rattle.desk_tests.proofs.BusyDesk.{holding_confirmed, went_back}
use Rattle.desk_tests.proofs.busy_desk.stage.confirm.Goals as goal

pub returns : goal.returns
returns g c =
    went_back c.in-Taken.place c.args.desk.now c.confirm.new.self c.give_back.new.desk
    (holding_confirmed c.in-Taken.place c.args.flow.now c.args.desk.now c.take.new.self c.confirm.new.self c.confirm.result
    c.in-Taken.ensures.says c.confirm.ensures.says)
    c.give_back.ensures.saw c.give_back.ensures.held c.give_back.ensures.owed c.give_back.ensures.knows
