use Rattle.std.proofs.Common.{◌≡◌, ◌≤◌, length, take}
use Rattle.command_words.specs.Asked.{workload_as}
use Rattle.run_inputs.specs.Reading.{zones_in}
use Rattle.run_inputs.proofs.Making.{Reading}
use Rattle.run_inputs.proofs.made.read_workload.Given as goal

abbrev pub invariant-made : goal.invariant-made
invariant-made l = record {
  reading : Reading (workload_as l._workload) l.captures.items l.left.items;
  in_zones : zones_in l.captures.items ≡ take (length l.captures.items) l.zones;
  room : l._workload.threads ≤ l.captures.room;
}

abbrev pub decreases-made : goal.decreases-made
decreases-made l = length l.left.items
