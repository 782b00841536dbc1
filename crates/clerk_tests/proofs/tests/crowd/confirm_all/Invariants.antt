use Rattle.std.proofs.Common.{◌+◌, ◌≤◌, length}
use Rattle.history_book.specs.Places.{HoldsNothing}
use Rattle.history_book.specs.WentOn.{IsSamePass}
use Rattle.shared_desk.specs.Sights.{sight_of}
use Rattle.clerk_tests.proofs.tests.crowd.confirm_all.Given as goal

abbrev pub invariant-flows : goal.invariant-flows
invariant-flows g l = record {
  nothing : HoldsNothing (sight_of l.clerk);
  same : IsSamePass (sight_of l.fn.clerk) (sight_of l.clerk);
  spare : 4000 ≤ (sight_of l.clerk).spare + l.index;
  room : length l.answers.items + 4000 ≤ l.answers.room + l.index;
}
