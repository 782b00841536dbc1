use Rattle.std.proofs.Common.{rules}
use Rattle.report_text.proofs.Counts.{counted_more}
use Rattle.report_text.proofs.summary.count_verdicts.Goals as goal

pub verdicts-preserved : goal.verdicts-preserved
verdicts-preserved c =
    counted_more c.args.verdicts.now.items c.verdicts.index c.at-verdict.result c.args.counts.now c.verdicts.counts c.place.result
    c.at-verdict.ensures (rw c.of.ensures at c.place.ensures) (search rules) c.verdicts.invariant
