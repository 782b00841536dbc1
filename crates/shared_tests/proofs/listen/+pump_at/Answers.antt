use Rattle.std.proofs.Common.{ap, arith, length, length-append, [], ◌∷◌, subst}
use Rattle.std.specs.Prelude.{All}
use Rattle.event_listen.specs.Line.{IsSendingOf}
use Rattle.shared_tests.proofs.Lists.{all_front}
use Rattle.shared_tests.proofs.Pushed.{back_again, begins_with_none, last_is, same_length, stays_of}
use Rattle.shared_tests.proofs.listen.+pump_at.Goals as goal

pub push-requires : goal.push-requires
push-requires g t c =
    omega (arith, same_length _ _ c.pump_at-pumped.ensures.queues, ap length c.in-Some.ensures.item, length-append c.pop.new.self.items (c.in-Some.sending ∷ []), c.pump_at-pumped.ensures.room)

pub returns-then-sender-count-clause-each : goal.returns-then-sender-count-clause-each
returns-then-sender-count-clause-each g t c =
    back_again c.args.line.now c.pump_at-pumped.new.sendings.items c.push.new.self.items c.in-Some.sending c.pump_at-pumped.ensures.each
    (last_is c.args.line.now c.args.sendings.now.items c.pop.new.self.items c.in-Some.sending c.requires.each c.in-Some.ensures.item) c.push.ensures.items

pub pump-pumped-requires-clause-line : goal.pump-pumped-requires-clause-line
pump-pumped-requires-clause-line g t c = last_is c.args.line.now c.args.sendings.now.items c.pop.new.self.items c.in-Some.sending c.requires.each c.in-Some.ensures.item

pub pump-pumped-requires-clause-own : goal.pump-pumped-requires-clause-own
pump-pumped-requires-clause-own g t c = begins_with_none _ c.in-Some.sending.sent (omega (arith, c.sent-sent.ensures, c.if-sent-gt0.false))

pub returns-clause-each : goal.returns-clause-each
returns-clause-each g t c =
    let line = c.args.line.now in
    let was = last_is line c.args.sendings.now.items c.pop.new.self.items c.in-Some.sending c.requires.each c.in-Some.ensures.item in
    back_again line c.pop.new.self.items c.push-2.new.self.items c.pump-pumped.new.self
    (all_front (IsSendingOf line) c.pop.new.self.items c.in-Some.sending (subst (All (IsSendingOf line)) c.in-Some.ensures.item c.requires.each))
    (stays_of line _ c.in-Some.sending c.pump-pumped.new.self c.pump-pumped.result c.pump-pumped.ensures was) c.push-2.ensures.items
