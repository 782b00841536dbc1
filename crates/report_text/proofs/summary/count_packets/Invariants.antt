use Rattle.std.proofs.Common.{◌≡◌, ◌≤◌, ◌*◌, ◌^◌, length, take}
use Rattle.report_text.specs.Summary.{all_verdicts}
use Rattle.report_text.proofs.summary.count_packets.Given as goal

abbrev pub invariant-threads : goal.invariant-threads
invariant-threads l = record {
  counted : l.packets ≡ length (all_verdicts (take l.verdicts-index l.threads));
  few : l.packets ≤ l.verdicts-index * 2 ^ 64;
}
