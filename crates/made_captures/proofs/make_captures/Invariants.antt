use Rattle.std.proofs.Common.{◌≡◌, ◌≤◌, length}
use Rattle.made_captures.specs.MadeCapture.{contents, made_captures}
use Rattle.made_captures.proofs.make_captures.Given as goal

abbrev pub invariant-threads : goal.invariant-threads
invariant-threads l = record {
  made : contents l.made.items ≡ made_captures l.seed l.packets l.thread;
  number : length l.made.items ≡ l.thread;
  room : l.threads ≤ l.made.room;
}
