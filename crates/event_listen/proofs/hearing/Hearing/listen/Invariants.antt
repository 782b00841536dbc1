use Rattle.event_listen.specs.Line.{IsHearingOf}
use Rattle.event_listen.proofs.hearing.Hearing.listen.Given as goal

abbrev pub invariant-rounds : goal.invariant-rounds
invariant-rounds g l =
    (goal.iterator-rounds g).can_next l.iterator' × (goal.iterator-rounds g).is_finite l.iterator' × IsHearingOf l.line l.self
