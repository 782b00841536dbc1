use Rattle.event_listen.specs.Line.{IsHearingOf}
use Rattle.event_listen.proofs.hearing.Hearing.hear_each.Given as goal

abbrev pub invariant-ears : goal.invariant-ears
invariant-ears g l = IsHearingOf l.line l.self
