use Rattle.event_listen.proofs.Pumping.{IsPumped}
use Rattle.event_listen.proofs.sending.Sending.pump.Given as goal

abbrev pub invariant-events : goal.invariant-events
invariant-events g l = IsPumped (g.D.Desk.sight l.desk).own l.line l.fn.self l.self l.index
