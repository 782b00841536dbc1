use Rattle.std.specs.Prelude.{◌≡◌, ◌≤◌, length, take}
use Rattle.model_tests.proofs.history.packed_lists.list_of.Given as goal

abbrev pub invariant-items : goal.invariant-items
invariant-items g l = record {
  items : l.list.items ≡ take l.item-index l.items;
  room : length l.items ≤ l.list.room;
}
