use Rattle.std.proofs.Common.{refl}
use Rattle.track_rule.specs.ChangeLaws.{by_none, joined}
use Rattle.track_rule.specs.ChangesOnly.{is_expect_turn}
use Rattle.shared_desk.proofs.ExpectTurn.{in_hands}
use Rattle.shared_desk.proofs.expect_turn.take_expects.Goals as goal

pub returns-clause-has : goal.returns-clause-has
returns-clause-has g c =
    in_hands c.args.pass.now c.take_turn.new.pass c.expects_swap.new.self c.in-Some.table c.take_turn.ensures.has c.in-Some.ensures.table c.in-Some.ensures.kept

pub returns-clause-words : goal.returns-clause-words
returns-clause-words g c =
    joined is_expect_turn c.args.pass.now.view c.take_turn.new.pass.view c.expects_swap.new.self.view c.take_turn.ensures.words
    (by_none is_expect_turn c.take_turn.new.pass c.expects_swap.new.self _ c.in-Some.ensures.kept refl)
