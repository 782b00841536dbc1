use Rattle.event_listen.proofs.Orders.{sends, fills}
use Rattle.event_listen.proofs.sending.Sending.send.Goals as goal

pub push_as-requires-clause-rule : goal.push_as-requires-clause-rule
push_as-requires-clause-rule g c = (sends _ _ _ _ c.self.invariant.sends, fills _ _ c.self.invariant.sends)
