use Rattle.std.proofs.Common.{◌≤◌, ◌*◌, ◌^◌, length, take}
use Rattle.report_text.specs.Internal.Counting.{IsCount}
use Rattle.report_text.specs.Summary.{all_verdicts}
use Rattle.report_text.proofs.summary.count_threads.Given as goal

abbrev pub invariant-threads : goal.invariant-threads
invariant-threads l = record {
  counted : IsCount (all_verdicts (take l.verdicts-index l.threads)) l.counts;
  few : length (all_verdicts (take l.verdicts-index l.threads)) ≤ l.verdicts-index * 2 ^ 64;
}
