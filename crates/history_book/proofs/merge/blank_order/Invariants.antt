use Rattle.std.specs.Prelude.{◌≡◌, ◌≤◌, length}
use Rattle.history_book.proofs.merge.blank_order.Given as goal

abbrev pub invariant-blanks : goal.invariant-blanks
invariant-blanks l = record {
  length : length l.order.items ≡ l._place;
  room : l.total ≤ l.order.room;
}
