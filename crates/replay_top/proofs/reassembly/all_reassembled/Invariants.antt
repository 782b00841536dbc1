use Rattle.std.proofs.Common.{◌≤◌, length}
use Rattle.replay_top.proofs.Reassembled.{AreMidway}
use Rattle.replay_top.proofs.reassembly.all_reassembled.Given as goal

abbrev pub invariant-captures : goal.invariant-captures
invariant-captures l = record {
  midway : AreMidway l.fn.captures.items l.all.items l.left.items;
  room : length l.fn.captures.items ≤ l.all.room;
}

abbrev pub decreases-captures : goal.decreases-captures
decreases-captures l = length l.left.items
