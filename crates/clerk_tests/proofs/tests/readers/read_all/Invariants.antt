use Rattle.std.proofs.Common.{◌+◌, ◌≤◌, length}
use Rattle.history_book.specs.Places.{HoldsNothing}
use Rattle.history_book.specs.WentOn.{IsSamePass}
use Rattle.shared_desk.specs.Sights.{sight_of}
use Rattle.clerk_tests.proofs.tests.readers.read_all.Given as goal

abbrev pub invariant-rounds : goal.invariant-rounds
invariant-rounds g l = record {
  nothing : HoldsNothing (sight_of l.clerk);
  same : IsSamePass (sight_of l.fn.clerk) (sight_of l.clerk);
  room : length l.reports.items + 250000 ≤ l.reports.room + l.round;
}
