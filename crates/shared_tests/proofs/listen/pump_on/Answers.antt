use Rattle.shared_tests.proofs.Pushed.{pumped_begins, same_queue, stays_of}
use Rattle.shared_tests.proofs.listen.pump_on.Goals as goal

pub returns-clause-line : goal.returns-clause-line
returns-clause-line g c = stays_of c.args.line.now c.args.desk.now.own c.args.sending.now c.pump.new.self c.pump.result c.pump.ensures c.requires.line

pub returns-clause-own : goal.returns-clause-own
returns-clause-own g c = pumped_begins c.args.desk.now.own c.args.sending.now c.pump.new.self c.pump.result c.pump.ensures

pub returns-clause-queue : goal.returns-clause-queue
returns-clause-queue g c = same_queue c.args.desk.now.own c.args.sending.now c.pump.new.self c.pump.result c.pump.ensures
