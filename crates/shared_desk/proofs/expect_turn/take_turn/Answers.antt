use Rattle.std.proofs.Common.{refl, rules}
use Rattle.track_rule.specs.ChangeLaws.{by_view, joined}
use Rattle.track_rule.specs.ChangesOnly.{is_expect_turn, no_word}
use Rattle.track_rule.specs.Readings.{found, stored}
use Rattle.shared_desk.proofs.Wording.{none_then}
use Rattle.shared_desk.proofs.ExpectTurn.{expects_taken}
use Rattle.shared_desk.proofs.expect_turn.take_turn.Goals as goal

pub returns-then-expects_take-clause-has : goal.returns-then-expects_take-clause-has
returns-then-expects_take-clause-has g c =
    expects_taken c.args.pass.now c.args.pass.now c.expects_take.new.self refl c.if-expects_take.ensures.takes c.expects_take.ensures.table

pub returns-then-expects_take-clause-words : goal.returns-then-expects_take-clause-words
returns-then-expects_take-clause-words g c =
    by_view is_expect_turn (stored 2 1) _ _ _ c.if-expects_take.ensures.takes.view refl refl refl

pub turns-init : goal.turns-init
turns-init g c = record {
  next = tt;
  finite = tt;
  same = search rules;
  words = by_view no_word (found 2 1) _ _ _ c.if-expects_take.ensures.takes.view refl refl refl;
}

pub turns-preserved : goal.turns-preserved
turns-preserved g c = record {
  next = tt;
  finite = tt;
  same = search rules;
  words = joined no_word c.args.pass.now.view c.turns.pass.view c.expects_take-in-turns.new.self.view c.turns.invariant.words
      (by_view no_word (found 2 1) _ _ _ c.if-expects_take-2.ensures.takes.view refl refl refl);
}

pub returns-then-expects_take-2-clause-has : goal.returns-then-expects_take-2-clause-has
returns-then-expects_take-2-clause-has g c =
    expects_taken c.args.pass.now c.turns.pass c.expects_take-in-turns.new.self c.turns.invariant.same c.if-expects_take-2.ensures.takes c.expects_take-in-turns.ensures.table

pub returns-then-expects_take-2-clause-words : goal.returns-then-expects_take-2-clause-words
returns-then-expects_take-2-clause-words g c =
    none_then is_expect_turn c.args.pass.now.view c.turns.pass.view c.expects_take-in-turns.new.self.view c.turns.invariant.words
    (by_view is_expect_turn (stored 2 1) _ _ _ c.if-expects_take-2.ensures.takes.view refl refl refl)
