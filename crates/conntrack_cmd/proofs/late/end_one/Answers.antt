use Rattle.conntrack_cmd.proofs.Lateness.{due_not_late, over_removed}
use Rattle.conntrack_cmd.proofs.late.end_one.Goals as goal

pub returns-in-Removed-clause-over : goal.returns-in-Removed-clause-over
returns-in-Removed-clause-over g c = λ late.
    over_removed c.desks_go_on.ensures.all c.desks_go_on.ensures.states c.desks_go_on.ensures.events c.states_follow.ensures (g.D.Desk.sight c.args.desk.now)
    (g.D.Desk.sight c.unexpect.new.self) c.args.moment c.in-Removed.number c.args.e.now.id c.in-Removed.ensures.says.0

pub returns-in-Not-clause-over : goal.returns-in-Not-clause-over
returns-in-Not-clause-over g c = λ late.
    absurd (due_not_late c.desks_go_on.ensures.all c.desks_go_on.ensures.states c.desks_go_on.ensures.events c.expectations_are_expected.ensures (g.D.Desk.sight c.args.desk.now)
    (g.D.Desk.sight c.unexpect.new.self) c.args.moment c.in-Not.deadline c.in-Not.at c.args.e.now c.unexpect.ensures.knows
    c.requires.expected c.in-Not.ensures.says.0 c.in-Not.ensures.says.1 late)
