use Rattle.std.proofs.Common.{drop, sym, ◌∙◌}
use Rattle.history_book.specs.Internal.Merging.{named_in}
use Rattle.history_book.specs.Merge.{spans_of_verdicts}
use Rattle.history_book.specs.Internal.Order.{in_order, notes_in}
use Rattle.history_book.proofs.Merging.{thread_laid, threads_done}
use Rattle.history_book.proofs.Ordering.{same_length}
use Rattle.history_book.proofs.merge.lay_threads.Goals as goal

pub threads-preserved : goal.threads-preserved
threads-preserved c =
    let verdicts = c.index-threads-thread.result.items in
    record {
      items = thread_laid c.threads.thread c.args.lists.now c.args.threads.now c.index-threads-thread.result
          (in_order c.args.lists.now c.threads.order.items) (in_order c.args.lists.now c.lay_thread.new.order.items)
          c.threads-test.true c.requires.lists c.index-threads-thread.is c.lay_thread.ensures
          ∙ c.threads.invariant.items;
      length = same_length c.args.lists.now
          (named_in c.threads.thread 0 (notes_in c.args.lists.now c.threads.thread) (spans_of_verdicts verdicts)) _ _
          c.lay_thread.ensures
          ∙ c.threads.invariant.length;
    }

pub returns : goal.returns
returns c =
    sym (threads_done c.threads.thread (drop c.threads.thread c.args.lists.now) c.args.threads.now
    (in_order c.args.lists.now c.threads.order.items) c.threads-test.false)
    ∙ c.threads.invariant.items
