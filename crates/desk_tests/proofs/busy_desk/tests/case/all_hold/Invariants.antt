use Rattle.std.proofs.Common.{◌≡◌, []}
use Rattle.desk_tests.proofs.busy_desk.tests.case.all_hold.Given as goal

abbrev pub invariant-steps : goal.invariant-steps
invariant-steps g l = record {
  held : l.desk.held ≡ [];
  owed : l.desk.owed ≡ [];
}
