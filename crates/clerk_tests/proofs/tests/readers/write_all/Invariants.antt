use Rattle.std.proofs.Common.{◌+◌, ◌*◌, ◌≤◌}
use Rattle.history_book.specs.Places.{HoldsNothing}
use Rattle.history_book.specs.WentOn.{IsSamePass}
use Rattle.shared_desk.specs.Sights.{sight_of}
use Rattle.clerk_tests.proofs.tests.readers.write_all.Given as goal

abbrev pub invariant-rounds : goal.invariant-rounds
invariant-rounds g l = record {
  nothing : HoldsNothing (sight_of l.clerk);
  same : IsSamePass (sight_of l.fn.clerk) (sight_of l.clerk);
  spare : 500000 ≤ (sight_of l.clerk).spare + 2 * l.round;
}
