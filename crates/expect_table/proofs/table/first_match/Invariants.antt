use Rattle.std.specs.Prelude.{◌≡◌, drop, find}
use Rattle.expect_table.specs.Match.{is_match}
use Rattle.expect_table.proofs.table.first_match.Given as goal

abbrev pub invariant-loop-e : goal.invariant-loop-e
invariant-loop-e l = find (is_match l.t l.moment) (drop l.e-index l.items) ≡ find (is_match l.t l.moment) l.items
