use Rattle.std.proofs.Common.{◌≡◌}
use Rattle.entry_pool.specs.Turn.{Waits}
use Rattle.entry_pool.proofs.turn.take_turn.Given as goal

abbrev pub invariant-turns : goal.invariant-turns
invariant-turns g l = record {
  next : (goal.iterator-turns g).can_next l.iterator';
  finite : (goal.iterator-turns g).is_finite l.iterator';
  same : l.pass ≡ record l.fn.pass { view = record l.fn.pass.view { readings = l.pass.view.readings } };
  waits : Waits l.fn.pass.view.readings l.pass.view.readings;
}
