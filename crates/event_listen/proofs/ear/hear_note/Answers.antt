use Rattle.event_listen.proofs.Orders.{hears, rests}
use Rattle.event_listen.proofs.ear.hear_note.Goals as goal

pub pop_as-requires-clause-rule : goal.pop_as-requires-clause-rule
pop_as-requires-clause-rule g c = (hears _ _ c.requires.heard.hears, rests _ _ c.requires.heard.hears)
