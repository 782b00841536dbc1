use Rattle.std.specs.Prelude.{◌≡◌, drop, length, take, ◌+◌, ◌-◌}
use Rattle.history_book.specs.Internal.Merging.{laid, named}
use Rattle.history_book.specs.Internal.Order.{in_order, notes_in}
use Rattle.history_book.proofs.merge.lay_span.Given as goal

abbrev pub invariant-notes : goal.invariant-notes
invariant-notes l = record {
  items : laid (named l.thread l.index (take (l.first + l.made - l.at) (drop l.at (notes_in l.lists l.thread))))
      (in_order l.lists l.order.items)
      ≡ laid (named l.thread l.index (take l.made (drop l.first (notes_in l.lists l.thread))))
      (in_order l.lists l.fn.order.items);
  length : length l.order.items ≡ length l.fn.order.items;
}
