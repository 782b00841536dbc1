use Rattle.std.specs.Prelude.{◌≡◌, drop, find}
use Rattle.expect_table.specs.Match.{is_rival}
use Rattle.expect_table.proofs.table.first_rival.Given as goal

abbrev pub invariant-loop-other : goal.invariant-loop-other
invariant-loop-other l = find (is_rival l.e l.moment) (drop l.other-index l.items) ≡ find (is_rival l.e l.moment) l.items
