use Rattle.shared_tests.proofs.Pushed.{last_begins, last_is, one_again}
use Rattle.shared_tests.proofs.listen.last_sends_in_turn.Goals as goal

pub send_in_turn-sent-requires-clause-line : goal.send_in_turn-sent-requires-clause-line
send_in_turn-sent-requires-clause-line g c =
    last_is c.args.line.now c.args.sendings.now.items c.pop.new.self.items c.in-Some.sending c.requires.sendings.each c.in-Some.ensures.item

pub send_in_turn-sent-requires-clause-own : goal.send_in_turn-sent-requires-clause-own
send_in_turn-sent-requires-clause-own g c =
    last_begins c.args.desk.now.own c.args.sendings.now.items c.pop.new.self.items c.in-Some.sending c.requires.unsent c.in-Some.ensures.item

pub returns-clause-sendings : goal.returns-clause-sendings
returns-clause-sendings g c =
    one_again c.args.line.now c.args.sendings.now.items c.pop.new.self.items c.push.new.self.items c.in-Some.sending c.send_in_turn-sent.new.sending
    c.requires.sendings c.in-Some.ensures.item c.send_in_turn-sent.ensures.line c.send_in_turn-sent.ensures.queue c.push.ensures.items
