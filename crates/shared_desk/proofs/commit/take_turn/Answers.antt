use Rattle.std.proofs.Common.{refl, rules}
use Rattle.track_rule.specs.ChangeLaws.{by_view, joined}
use Rattle.track_rule.specs.ChangesOnly.{is_turn_of, no_word}
use Rattle.track_rule.specs.Readings.{found, stored}
use Rattle.track_rule.specs.Layout.{turn_word}
use Rattle.track_rule.specs.Sights.{sizes_of}
use Rattle.shared_desk.proofs.Wording.{none_then, turn_in}
use Rattle.shared_desk.proofs.Committing.{turn_taken}
use Rattle.shared_desk.proofs.commit.take_turn.Goals as goal

pub returns-then-turn_take-clause-has : goal.returns-then-turn_take-clause-has
returns-then-turn_take-clause-has g c =
    turn_taken c.args.place c.args.pass.now c.args.pass.now c.turn_take.new.self refl c.if-turn_take.ensures.takes c.turn_take.ensures.table

pub returns-then-turn_take-clause-words : goal.returns-then-turn_take-clause-words
returns-then-turn_take-clause-words g c =
    by_view (is_turn_of c.args.place) (stored (turn_word (sizes_of c.args.pass.now) c.args.place) 1) _ _ _ c.if-turn_take.ensures.takes.view refl refl
    (turn_in (sizes_of c.args.pass.now) c.args.place 1)

pub turns-init : goal.turns-init
turns-init g c = record {
  next = tt;
  finite = tt;
  same = search rules;
  words = by_view no_word (found (turn_word (sizes_of c.args.pass.now) c.args.place) 1) _ _ _ c.if-turn_take.ensures.takes.view refl refl refl;
}

pub turns-preserved : goal.turns-preserved
turns-preserved g c = record {
  next = tt;
  finite = tt;
  same = search rules;
  words = joined no_word c.args.pass.now.view c.turns.pass.view c.turn_take-in-turns.new.self.view c.turns.invariant.words
      (by_view no_word (found (turn_word (sizes_of c.turns.pass) c.args.place) 1) _ _ _ c.if-turn_take-2.ensures.takes.view refl refl refl);
}

pub returns-then-turn_take-2-clause-has : goal.returns-then-turn_take-2-clause-has
returns-then-turn_take-2-clause-has g c =
    turn_taken c.args.place c.args.pass.now c.turns.pass c.turn_take-in-turns.new.self c.turns.invariant.same c.if-turn_take-2.ensures.takes c.turn_take-in-turns.ensures.table

pub returns-then-turn_take-2-clause-words : goal.returns-then-turn_take-2-clause-words
returns-then-turn_take-2-clause-words g c =
    none_then (is_turn_of c.args.place) c.args.pass.now.view c.turns.pass.view c.turn_take-in-turns.new.self.view c.turns.invariant.words
    (by_view (is_turn_of c.args.place) (stored (turn_word (sizes_of c.turns.pass) c.args.place) 1) _ _ _ c.if-turn_take-2.ensures.takes.view refl refl
    (turn_in (sizes_of c.turns.pass) c.args.place 1))
