use Rattle.std.specs.Prelude.{◌≡◌, ◌+◌, drop, length}
use Rattle.history_book.specs.Internal.Merging.{laid, made_in, named_in}
use Rattle.history_book.specs.Merge.{spans_of_answers}
use Rattle.history_book.specs.Internal.Order.{in_order, notes_in}
use Rattle.history_book.proofs.merge.lay_script.Given as goal

abbrev pub invariant-answers : goal.invariant-answers
invariant-answers l = record {
  items : laid (named_in l.thread l.index (drop l.first (notes_in l.lists l.thread))
      (spans_of_answers (drop l.index l.answers))) (in_order l.lists l.order.items)
      ≡ laid (named_in l.thread 0 (notes_in l.lists l.thread) (spans_of_answers l.answers))
      (in_order l.lists l.fn.order.items);
  covered : l.first + made_in (spans_of_answers (drop l.index l.answers)) ≡ length (notes_in l.lists l.thread);
  length : length l.order.items ≡ length l.fn.order.items;
}
