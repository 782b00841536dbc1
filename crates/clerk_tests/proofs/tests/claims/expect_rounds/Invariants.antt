use Rattle.std.proofs.Common.{◌≡◌, ◌+◌, ◌≤◌, Some, true}
use Rattle.history_book.specs.Entry.{is_helped_entry}
use Rattle.history_book.specs.Places.{HoldsOne}
use Rattle.history_book.specs.WentOn.{IsSamePass}
use Rattle.shared_desk.specs.Sights.{sight_of}
use Rattle.clerk_tests.proofs.tests.claims.expect_rounds.Given as goal

abbrev pub invariant-rounds : goal.invariant-rounds
invariant-rounds g l = record {
  one : HoldsOne (record { place = l.place; id = Some l.id }) (sight_of l.clerk);
  helper : is_helped_entry l.id (sight_of l.clerk).front ≡ true;
  same : IsSamePass (sight_of l.fn.clerk) (sight_of l.clerk);
  spare : 100000 ≤ (sight_of l.clerk).spare + l.round;
}
