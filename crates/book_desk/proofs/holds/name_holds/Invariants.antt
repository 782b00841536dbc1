use Rattle.std.proofs.Common.{◌≡◌, ◌++◌, drop, length, map, take}
use Rattle.history_book.specs.Held.{for_entry}
use Rattle.book_desk.proofs.holds.name_holds.Given as goal

abbrev pub invariant-loop-index : goal.invariant-loop-index
invariant-loop-index l = record {
  so_far : l.holds.items ≡ map (for_entry l.place l.id) (take l.index l.initial.holds.items) ++ drop l.index l.initial.holds.items;
  long : length l.holds.items ≡ length l.initial.holds.items;
  room : l.holds.room ≡ l.initial.holds.room;
}
