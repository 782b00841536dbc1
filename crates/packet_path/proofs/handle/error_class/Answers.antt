use Rattle.packet_path.proofs.Handling.{error_misdirected, error_related}
use Rattle.packet_path.proofs.handle.error_class.Goals as goal

pub returns-then-looked_up-outer_destination-clause-fits : goal.returns-then-looked_up-outer_destination-clause-fits
returns-then-looked_up-outer_destination-clause-fits g c = λ setup moment.
    error_related c.desks_go_on.ensures.states (g.D.Desk.sight c.args.desk.now) (g.D.Desk.sight c.find.new.self)
    (g.D.Desk.sight c.give_up.new.desk) c.args.inner.now c.invert-looked_up.result c.args.outer_destination c.in-Found.place
    c.in-Found.id c.in-Found.at moment c.in-Found.direction c.invert-looked_up.ensures.exact c.in-Found.ensures.says.0
    c.give_up.ensures.saw c.if-looked_up-outer_destination.true

pub returns-else-looked_up-outer_destination-clause-fits : goal.returns-else-looked_up-outer_destination-clause-fits
returns-else-looked_up-outer_destination-clause-fits g c = λ setup moment.
    error_misdirected c.desks_go_on.ensures.states (g.D.Desk.sight c.args.desk.now) (g.D.Desk.sight c.find.new.self)
    (g.D.Desk.sight c.give_up.new.desk) c.args.inner.now c.invert-looked_up.result c.args.outer_destination c.in-Found.place
    c.in-Found.id c.in-Found.at moment c.in-Found.direction c.invert-looked_up.ensures.exact c.in-Found.ensures.says.0
    c.give_up.ensures.saw c.if-looked_up-outer_destination.false
