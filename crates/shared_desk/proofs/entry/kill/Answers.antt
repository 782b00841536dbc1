use Rattle.shared_desk.specs.Changed.{killed_words}
use Rattle.shared_desk.proofs.Wording.{around, gave_words}
use Rattle.track_rule.specs.ChangesOnly.{is_turn_of}
use Rattle.shared_desk.proofs.Killed.{kill_back, can_give}
use Rattle.shared_desk.proofs.Looking.{has_record}
use Rattle.shared_desk.proofs.entry.kill.Goals as goal

pub kill_record-outcome-requires-clause-has : goal.kill_record-outcome-requires-clause-has
kill_record-outcome-requires-clause-has g c = has_record c.args.place c.args.pass.now c.take_turn.new.pass c.requires.free c.take_turn.ensures.has

pub turn_give-requires-clause-whole : goal.turn_give-requires-clause-whole
turn_give-requires-clause-whole g c =
    can_give c.args.place c.args.why c.kill_record-outcome.result.0 c.take_turn.new.pass c.kill_record-outcome.new.pass
    (has_record c.args.place c.args.pass.now c.take_turn.new.pass c.requires.free c.take_turn.ensures.has) c.kill_record-outcome.ensures.kills

pub returns-clause-kills : goal.returns-clause-kills
returns-clause-kills g c =
    kill_back c.args.place c.args.pass.now c.take_turn.new.pass c.kill_record-outcome.new.pass c.turn_give.new.self c.requires.free c.take_turn.ensures.has c.turn_give.ensures
    c.args.why c.kill_record-outcome.result.0 c.kill_record-outcome.ensures.kills

pub returns-clause-words : goal.returns-clause-words
returns-clause-words g c =
    around (is_turn_of c.args.place) (killed_words c.args.place c.kill_record-outcome.result.0) c.args.pass.now.view c.take_turn.new.pass.view c.kill_record-outcome.new.pass.view
    c.turn_give.new.self.view c.take_turn.ensures.words c.kill_record-outcome.ensures.words
    (gave_words c.args.place c.kill_record-outcome.new.pass c.turn_give.new.self _ c.turn_give.ensures)
