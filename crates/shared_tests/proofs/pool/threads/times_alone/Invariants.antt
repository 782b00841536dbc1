use Rattle.std.proofs.Common.{◌≡◌, None, [], ◌≤◌}
use Rattle.track_rule.specs.Links.{RaisesNone}
use Rattle.track_rule.specs.Passes.{no_places}
use Rattle.shared_tests.proofs.pool.threads.times_alone.Given as goal

abbrev pub invariant-rounds : goal.invariant-rounds
invariant-rounds g l = record {
  free : l.pass.view.free ≡ None;
  places : l.pass.view.places ≡ no_places;
  links : RaisesNone [] l.pass.view.buckets.hooks;
  few : l.alone ≤ l._round;
}
