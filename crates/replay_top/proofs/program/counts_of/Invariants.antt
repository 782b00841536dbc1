use Rattle.std.specs.Prelude.{◌≡◌, ◌≤◌, length, map, take}
use Rattle.report_text.specs.Heard.{heard_counts}
use Rattle.replay_top.proofs.program.counts_of.Given as goal

abbrev pub invariant-threads : goal.invariant-threads
invariant-threads l = record {
  counted : l.counts.items ≡ heard_counts (take l.thread l.told.made.items) (take l.thread (map length l.told.heard));
  long : length l.counts.items ≡ l.thread;
  room : l.threads ≤ l.counts.room;
}
