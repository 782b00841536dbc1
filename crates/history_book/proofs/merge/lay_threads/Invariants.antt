use Rattle.std.specs.Prelude.{◌≡◌, drop, length}
use Rattle.history_book.specs.Internal.Merging.{laid, threads_named}
use Rattle.history_book.specs.Internal.Order.{in_order}
use Rattle.history_book.proofs.merge.lay_threads.Given as goal

abbrev pub invariant-threads : goal.invariant-threads
invariant-threads l = record {
  items : laid (threads_named l.thread (drop l.thread l.lists) (drop l.thread l.threads)) (in_order l.lists l.order.items)
      ≡ laid (threads_named 0 l.lists l.threads) (in_order l.lists l.fn.order.items);
  length : length l.order.items ≡ length l.fn.order.items;
}
