use Rattle.nat_setup.proofs.Searching.{looked_free, looked_taken}
use Rattle.nat_setup.proofs.search.look.Goals as goal

pub returns-in-Absent-clause-says : goal.returns-in-Absent-clause-says
returns-in-Absent-clause-says g c =
    looked_free c.free_is_absent.ensures (g.D.Desk.sight c.args.desk.now) (g.D.Desk.sight c.find.new.self) c.args.t.now c.in-Absent.at
    c.in-Absent.ensures.says.0

pub returns-in-Found-clause-says : goal.returns-in-Found-clause-says
returns-in-Found-clause-says g c =
    looked_taken c.free_is_absent.ensures c.desks_go_on.ensures.states c.desks_go_on.ensures.twice (g.D.Desk.sight c.args.desk.now) (g.D.Desk.sight c.find.new.self)
    (g.D.Desk.sight c.give_back.new.desk) c.args.t.now c.in-Found.place c.in-Found.id c.in-Found.at c.in-Found.direction c.in-Found.ensures.says.0
    c.give_back.ensures.saw
