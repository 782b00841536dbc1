use Rattle.track_rule.specs.ChangesOnly.{is_expect_turn, is_history, where_so}
use Rattle.shared_desk.specs.Changed.{is_removed}
use Rattle.shared_desk.proofs.Wording.{around, gave_expects}
use Rattle.shared_desk.proofs.ExpectTurn.{in_hand}
use Rattle.shared_desk.proofs.UnderExpects.{unexpect_given}
use Rattle.shared_desk.proofs.claiming.unexpect.Goals as goal

pub returns-clause-unexpects : goal.returns-clause-unexpects
returns-clause-unexpects g c =
    unexpect_given c.args.pass.now c.take_expects-table.new.pass c.unexpect_one-outcome.new.pass c.give_expects.new.pass
    (in_hand c.take_expects-table.result c.args.pass.now c.take_expects-table.new.pass c.requires.free.expected c.take_expects-table.ensures.has) c.give_expects.ensures
    c.args.id c.args.moment c.unexpect_one-outcome.result.0 c.unexpect_one-outcome.ensures.unexpects

pub returns-clause-words : goal.returns-clause-words
returns-clause-words g c =
    around is_expect_turn (where_so (is_removed c.unexpect_one-outcome.result.0) is_history) c.args.pass.now.view c.take_expects-table.new.pass.view c.unexpect_one-outcome.new.pass.view
    c.give_expects.new.pass.view c.take_expects-table.ensures.words c.unexpect_one-outcome.ensures.words
    (gave_expects c.unexpect_one-outcome.new.pass c.give_expects.new.pass _ c.give_expects.ensures)
