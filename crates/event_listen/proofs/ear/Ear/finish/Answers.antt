use Rattle.event_listen.proofs.Orders.{merges}
use Rattle.event_listen.proofs.ear.Ear.finish.Goals as goal

pub absorb-requires-clause-rule : goal.absorb-requires-clause-rule
absorb-requires-clause-rule g c = merges _ _ _ _ c.self.invariant.heard.hears c.sending.invariant.sends
