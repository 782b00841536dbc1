use Rattle.event_listen.specs.Line.{AreSendingsOf}
use Rattle.shared_tests.proofs.listen.pump_each.Given as goal

abbrev pub invariant-senders : goal.invariant-senders
invariant-senders g l = AreSendingsOf l.line l.sendings.items
