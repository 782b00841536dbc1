use Rattle.desk_tests.proofs.BusyDesk.{holding_found, went_back}
use Rattle.desk_tests.proofs.busy_desk.stage.expect.Goals as goal

pub returns : goal.returns
returns g c =
    went_back c.in-Found.place c.args.desk.now c.expect_for.new.desk c.give_back.new.desk
    (holding_found c.args.master.now c.in-Found.place c.in-Found.id c.in-Found.direction c.in-Found.at c.args.desk.now c.find.new.self
    c.expect_for.new.desk c.in-Found.ensures.says c.expect_for.ensures)
    c.give_back.ensures.saw c.give_back.ensures.held c.give_back.ensures.owed c.give_back.ensures.knows
