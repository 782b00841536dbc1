use Rattle.track_rule.specs.ChangesOnly.{either, is_expect_turn, is_history, where_so}
use Rattle.shared_desk.specs.Changed.{is_expected}
use Rattle.shared_desk.proofs.Wording.{around, gave_words}
use Rattle.track_rule.specs.ChangesOnly.{is_turn_of}
use Rattle.shared_desk.proofs.Looking.{has_record}
use Rattle.shared_desk.proofs.expecting.expect.Goals as goal

pub expect_record-outcome-requires-clause-has : goal.expect_record-outcome-requires-clause-has
expect_record-outcome-requires-clause-has g c = has_record c.args.place c.args.pass.now c.take_turn.new.pass c.requires.free c.take_turn.ensures.has

pub returns-clause-words : goal.returns-clause-words
returns-clause-words g c =
    around (is_turn_of c.args.place) (either is_expect_turn (where_so (is_expected c.expect_record-outcome.result.0) is_history)) c.args.pass.now.view c.take_turn.new.pass.view c.expect_record-outcome.new.pass.view
    c.turn_give.new.self.view c.take_turn.ensures.words c.expect_record-outcome.ensures.words
    (gave_words c.args.place c.expect_record-outcome.new.pass c.turn_give.new.self _ c.turn_give.ensures)
