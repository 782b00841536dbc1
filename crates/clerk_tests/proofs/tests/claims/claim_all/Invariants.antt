use Rattle.std.proofs.Common.{◌+◌, ◌≤◌}
use Rattle.history_book.specs.Places.{HoldsNothing}
use Rattle.history_book.specs.WentOn.{IsSamePass}
use Rattle.shared_desk.specs.Sights.{sight_of}
use Rattle.clerk_tests.proofs.tests.claims.claim_all.Given as goal

abbrev pub invariant-rounds : goal.invariant-rounds
invariant-rounds g l = record {
  nothing : HoldsNothing (sight_of l.clerk);
  same : IsSamePass (sight_of l.fn.clerk) (sight_of l.clerk);
  spare : 100000 ≤ (sight_of l.clerk).spare + l.round;
}
