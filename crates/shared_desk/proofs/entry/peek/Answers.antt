use Rattle.track_rule.specs.ChangesOnly.{is_turn_of}
use Rattle.track_rule.specs.ChangeLaws.{joined}
use Rattle.shared_desk.proofs.Wording.{gave_words, then_none}
use Rattle.shared_desk.proofs.Looking.{has_record, peeked, record_whole, still_out}
use Rattle.shared_desk.proofs.entry.peek.Goals as goal

pub read_record-outcome-requires : goal.read_record-outcome-requires
read_record-outcome-requires g c = has_record c.args.place c.args.pass.now c.take_turn.new.pass c.requires c.take_turn.ensures.has

pub turn_give-requires-clause-whole : goal.turn_give-requires-clause-whole
turn_give-requires-clause-whole g c =
    record_whole c.args.place c.read_record-outcome.new.pass
    (still_out c.args.place c.read_record-outcome.result c.take_turn.new.pass c.read_record-outcome.new.pass (has_record c.args.place c.args.pass.now c.take_turn.new.pass c.requires c.take_turn.ensures.has) c.read_record-outcome.ensures.peeks)

pub returns-clause-peeks : goal.returns-clause-peeks
returns-clause-peeks g c =
    peeked c.args.place c.read_record-outcome.result c.args.pass.now c.take_turn.new.pass c.read_record-outcome.new.pass c.turn_give.new.self c.requires c.take_turn.ensures.has
    c.read_record-outcome.ensures.peeks c.turn_give.ensures

pub returns-clause-words : goal.returns-clause-words
returns-clause-words g c =
    joined (is_turn_of c.args.place) c.args.pass.now.view c.read_record-outcome.new.pass.view c.turn_give.new.self.view
    (then_none (is_turn_of c.args.place) c.args.pass.now.view c.take_turn.new.pass.view c.read_record-outcome.new.pass.view c.take_turn.ensures.words c.read_record-outcome.ensures.words)
    (gave_words c.args.place c.read_record-outcome.new.pass c.turn_give.new.self _ c.turn_give.ensures)
