use Rattle.std.proofs.Common.{take}
use Rattle.report_text.specs.Internal.Counting.{Counted}
use Rattle.report_text.proofs.summary.count_verdicts.Given as goal

abbrev pub invariant-verdicts : goal.invariant-verdicts
invariant-verdicts l = Counted (take l.index l.verdicts.items) l.initial.counts l.counts
