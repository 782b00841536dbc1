use Rattle.std.proofs.Common.{◌≡◌, ◌-◌, length}
use Rattle.book_desk.specs.Internal.Book.{AreBelow}
use Rattle.book_desk.proofs.book.fill.Given as goal

abbrev pub invariant-loop-count : goal.invariant-loop-count
invariant-loop-count l = record {
  each : AreBelow l.entries (l.entries - l.count) l.free.items;
  long : length l.free.items ≡ l.count;
  room : l.free.room ≡ l.initial.free.room;
}
