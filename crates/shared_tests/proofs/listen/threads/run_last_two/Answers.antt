use Rattle.std.proofs.Common.{ap, arith, length, length-append, subst, [], ◌∷◌}
use Rattle.std.specs.Prelude.{All}
use Rattle.event_listen.specs.Line.{HasSentNothing, IsSendingOf}
use Rattle.shared_tests.proofs.Lists.{all_front}
use Rattle.shared_tests.proofs.Pushed.{last_begins, last_is, two_again}
use Rattle.shared_tests.proofs.listen.threads.run_last_two.Goals as goal

pub run-sent-requires-clause-first : goal.run-sent-requires-clause-first
run-sent-requires-clause-first g c κs _ =
    let each = all_front (IsSendingOf c.args.line.now) c.pop.new.self.items c.in-Some.second (subst (All (IsSendingOf c.args.line.now)) c.in-Some.ensures.item c.requires.sendings.each) in
    last_is c.args.line.now c.pop.new.self.items c.pop-2.new.self.items c.in-Some-pop.first each c.in-Some-pop.ensures.item

pub run-sent-requires-clause-second : goal.run-sent-requires-clause-second
run-sent-requires-clause-second g c κs _ =
    last_is c.args.line.now c.args.sendings.now.items c.pop.new.self.items c.in-Some.second c.requires.sendings.each c.in-Some.ensures.item

pub run-sent-requires-clause-first_own : goal.run-sent-requires-clause-first_own
run-sent-requires-clause-first_own g c κs _ =
    let nothing = all_front HasSentNothing c.pop.new.self.items c.in-Some.second (subst (All HasSentNothing) c.in-Some.ensures.item c.requires.unsent) in
    last_begins c.args.desks.0.now.own c.pop.new.self.items c.pop-2.new.self.items c.in-Some-pop.first nothing c.in-Some-pop.ensures.item

pub run-sent-requires-clause-second_own : goal.run-sent-requires-clause-second_own
run-sent-requires-clause-second_own g c κs _ =
    last_begins c.args.desks.1.now.own c.args.sendings.now.items c.pop.new.self.items c.in-Some.second c.requires.unsent c.in-Some.ensures.item

pub push-requires-2 : goal.push-requires-2
push-requires-2 g c =
    omega (
      arith,
      ap length c.in-Some.ensures.item,
      length-append c.pop.new.self.items (c.in-Some.second ∷ []),
      ap length c.in-Some-pop.ensures.item,
      length-append c.pop-2.new.self.items (c.in-Some-pop.first ∷ []),
      ap length c.push.ensures.items,
      length-append c.pop-2.new.self.items (c.run-sent.result.0.0 ∷ []),
    )

pub returns-clause-sendings : goal.returns-clause-sendings
returns-clause-sendings g c =
    two_again c.args.line.now c.args.sendings.now.items c.pop.new.self.items c.pop-2.new.self.items c.push.new.self.items c.push-2.new.self.items
    c.in-Some-pop.first c.in-Some.second c.run-sent.result.0.0 c.run-sent.result.0.1
    c.requires.sendings c.in-Some.ensures.item c.in-Some-pop.ensures.item c.run-sent.ensures.first c.run-sent.ensures.second
    c.run-sent.ensures.first_queue c.run-sent.ensures.second_queue c.push.ensures.items c.push-2.ensures.items
