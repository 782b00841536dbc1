use Rattle.std.proofs.Common.{◌≡◌, ◌+◌, ◌≤◌}
use Rattle.std.specs.Vec.{vec_capacity}
use Rattle.track_rule.specs.Opening.{first_slots}
use Rattle.track_rule.proofs.board.slots_with.Given as goal

abbrev pub invariant-places : goal.invariant-places
invariant-places l = record {
  items : l.slots.items ≡ first_slots l._place l.fn.free l.fn.table;
  room : 2 + l.entries ≤ vec_capacity l.slots;
}
