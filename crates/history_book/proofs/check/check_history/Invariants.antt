use Rattle.history_book.specs.Checked.{sizes_with}
use Rattle.history_book.specs.Internal.Checking.{state_in}
use Rattle.history_book.proofs.Checking.{IsSoundTo}
use Rattle.history_book.proofs.check.check_history.Given as goal

abbrev pub invariant-items : goal.invariant-items
invariant-items l = IsSoundTo (sizes_with l.entries l.expectations) l.history.items l.index (state_in l.table)
