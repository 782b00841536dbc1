use Rattle.history_book.proofs.FindSteps.{FoundSoFar}
use Rattle.history_book.proofs.find.find.Given as goal

abbrev pub invariant-loop-index : goal.invariant-loop-index
invariant-loop-index l = FoundSoFar l.t l.records l.index l.reply
