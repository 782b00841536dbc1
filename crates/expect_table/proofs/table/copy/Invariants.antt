use Rattle.std.proofs.Common.{◌≡◌, take}
use Rattle.expect_table.proofs.table.copy.Given as goal

abbrev pub invariant-loop-e : goal.invariant-loop-e
invariant-loop-e l = record { so_far : l.listed.items ≡ take l.e-index l.items; room : l.listed.room ≡ l.initial.listed.room }
