use Rattle.book_desk.proofs.FirstMet.{AreFirst}
use Rattle.book_desk.proofs.entries.winner.Given as goal

abbrev pub invariant-loop-index : goal.invariant-loop-index
invariant-loop-index l = AreFirst l.original l.reply l.records l.index l.candidates
