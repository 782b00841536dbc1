use Rattle.track_rule.specs.ChangesOnly.{is_expect_turn, is_history, where_so}
use Rattle.shared_desk.specs.Changed.{is_expected}
use Rattle.shared_desk.proofs.Wording.{around, gave_expects}
use Rattle.shared_desk.proofs.UnderBoth.{record_beside}
use Rattle.shared_desk.proofs.ExpectTurn.{in_hand}
use Rattle.shared_desk.proofs.UnderExpects.{expect_given}
use Rattle.shared_desk.proofs.expecting.expect_record.Goals as goal

pub expect_known-outcome-requires-clause-has : goal.expect_known-outcome-requires-clause-has
expect_known-outcome-requires-clause-has g c =
    record_beside c.args.place c.take_expects-table.result c.args.pass.now c.take_expects-table.new.pass c.requires.has c.take_expects-table.ensures.has

pub returns-clause-expects : goal.returns-clause-expects
returns-clause-expects g c =
    expect_given c.args.pass.now c.take_expects-table.new.pass c.expect_known-outcome.new.pass c.give_expects.new.pass
    (in_hand c.take_expects-table.result c.args.pass.now c.take_expects-table.new.pass c.requires.expected c.take_expects-table.ensures.has) c.give_expects.ensures
    c.args.place c.args.want c.args.moment c.expect_known-outcome.result.0 c.expect_known-outcome.ensures.expects

pub returns-clause-words : goal.returns-clause-words
returns-clause-words g c =
    around is_expect_turn (where_so (is_expected c.expect_known-outcome.result.0) is_history) c.args.pass.now.view c.take_expects-table.new.pass.view c.expect_known-outcome.new.pass.view
    c.give_expects.new.pass.view c.take_expects-table.ensures.words c.expect_known-outcome.ensures.words
    (gave_expects c.expect_known-outcome.new.pass c.give_expects.new.pass _ c.give_expects.ensures)
