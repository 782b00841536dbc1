use Rattle.std.specs.Prelude.{◌≡◌, ◌+◌, ◌≤◌, length, map, take}
use Rattle.replay_runs.specs.Run.{items_of}
use Rattle.replay_runs.proofs.listened.counted.Given as goal

abbrev pub invariant-lists : goal.invariant-lists
invariant-lists l = record {
  counted : l.made.items ≡ map length (items_of (take l.list-index l.lists));
  room : length l.lists + 1 ≤ l.made.room;
}
