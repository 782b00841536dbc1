use Rattle.shared_desk.proofs.Joining.{rest_first}
use Rattle.shared_desk.proofs.tracker.Tracker.new.Goals as goal

pub invariant_of-spot : goal.invariant_of-spot
invariant_of-spot c = rest_first c.args.sizes _ c.in_ok-board.stub c.empty.result c.requires c.in_ok-board.ensures c.empty.ensures

pub returns-clause-knows : goal.returns-clause-knows
returns-clause-knows c = (invariant_of-spot c).knows
