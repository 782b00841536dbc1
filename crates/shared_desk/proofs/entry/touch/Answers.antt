use Rattle.track_rule.specs.ChangesOnly.{is_history, where_so}
use Rattle.shared_desk.specs.Changed.{is_touched}
use Rattle.shared_desk.proofs.Wording.{around, gave_words}
use Rattle.track_rule.specs.ChangesOnly.{is_turn_of}
use Rattle.shared_desk.proofs.Looking.{has_record, record_whole}
use Rattle.shared_desk.proofs.Touched.{given_back, still_known}
use Rattle.shared_desk.proofs.entry.touch.Goals as goal

pub touch_record-outcome-requires-clause-has : goal.touch_record-outcome-requires-clause-has
touch_record-outcome-requires-clause-has g c = has_record c.args.place c.args.pass.now c.take_turn.new.pass c.requires.free c.take_turn.ensures.has

pub turn_give-requires-clause-whole : goal.turn_give-requires-clause-whole
turn_give-requires-clause-whole g c =
    record_whole c.args.place c.touch_record-outcome.new.pass
    (still_known c.args.place c.args.packet.now c.touch_record-outcome.result.0 c.take_turn.new.pass c.touch_record-outcome.new.pass
    (has_record c.args.place c.args.pass.now c.take_turn.new.pass c.requires.free c.take_turn.ensures.has) c.touch_record-outcome.ensures.touches)

pub returns-clause-touches : goal.returns-clause-touches
returns-clause-touches g c =
    given_back c.args.place c.args.pass.now c.take_turn.new.pass c.touch_record-outcome.new.pass c.turn_give.new.self c.requires.free c.take_turn.ensures.has c.turn_give.ensures
    c.args.packet.now c.touch_record-outcome.result.0 c.touch_record-outcome.ensures.touches

pub returns-clause-words : goal.returns-clause-words
returns-clause-words g c =
    around (is_turn_of c.args.place) (where_so (is_touched c.touch_record-outcome.result.0) is_history) c.args.pass.now.view c.take_turn.new.pass.view c.touch_record-outcome.new.pass.view
    c.turn_give.new.self.view c.take_turn.ensures.words c.touch_record-outcome.ensures.words
    (gave_words c.args.place c.touch_record-outcome.new.pass c.turn_give.new.self _ c.turn_give.ensures)
