use Rattle.std.proofs.Common.{◌≡◌}
use Rattle.event_listen.specs.Line.{IsSendingOf}
use Rattle.event_listen.specs.Pump.{BeginsWith}
use Rattle.shared_tests.proofs.listen.threads.send_all.Given as goal

abbrev pub invariant-pumps : goal.invariant-pumps
invariant-pumps g l = IsSendingOf l.line l.sending × (l.sending.queue ≡ l.fn.sending.queue) × BeginsWith l.desk.own l.sending.sent
