use Rattle.std.proofs.Common.{arith}
use Rattle.std.proofs.lemmas.Grind.{common_steps}
use Rattle.report_text.proofs.Counts.{all_more, count_more}
use Rattle.report_text.proofs.summary.count_threads.Goals as goal

pub threads-preserved : goal.threads-preserved
threads-preserved c = record {
  counted =
      count_more c.args.threads.now c.threads.verdicts-index c.verdicts-item.result c.threads.counts c.count_verdicts.new.counts
      c.threads-test.true c.verdicts-item.is c.threads.invariant.counted c.count_verdicts.ensures.counted;
  few =
      grind (
        arith,
        common_steps,
        all_more c.args.threads.now c.threads.verdicts-index c.verdicts-item.result c.threads-test.true c.verdicts-item.is,
        c.threads.invariant.few,
        c.count_verdicts.ensures.few,
      );
}
