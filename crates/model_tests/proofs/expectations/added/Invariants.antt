use Rattle.std.specs.Prelude.{◌<◌, ℕ, slice_index_or}
use Rattle.expect_table.specs.declared.expectation.Expectation.{Expectation}
use Rattle.model_tests.proofs.expectations.added.Given as goal

abbrev pub invariant-loop-index : goal.invariant-loop-index
invariant-loop-index g l = (k : ℕ) (d : Expectation) → k < l.index → (slice_index_or l.table.items k d).id < l.e.id
