use Rattle.std.proofs.Common.{arith}
use Rattle.nat_setup.specs.Internal.Search.{others_of}
use Rattle.nat_setup.proofs.Searching.{both}
use Rattle.nat_setup.proofs.translate.search_choice.Goals as goal

pub returns-in-AllTaken-clause-says : goal.returns-in-AllTaken-clause-says
returns-in-AllTaken-clause-says g c =
    both c.desks_go_on.ensures.states c.desks_go_on.ensures.twice c.args.rule.now c.args.t.now (others_of c.args.choice.now c.args.tried c.args.from)
    (g.D.Desk.sight c.args.desk.now) (g.D.Desk.sight c.search_stretch.new.desk)
    (g.D.Desk.sight c.search_stretch-in-AllTaken.new.desk) c.first_tried-middle.result c.in-AllTaken.to c.search_stretch-in-AllTaken.result
    c.first_tried-middle.ensures.low (omega (arith, c.first_tried-middle.ensures.high)) c.in-AllTaken.ensures.says
    c.search_stretch-in-AllTaken.ensures.saw c.search_stretch-in-AllTaken.ensures.same
    c.search_stretch-in-AllTaken.ensures.says
