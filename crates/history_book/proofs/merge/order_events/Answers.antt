use Rattle.std.proofs.Common.{arith, length, ◌∙◌}
use Rattle.history_book.specs.Merge.{spans_of}
use Rattle.history_book.proofs.Merging.{all_placed}
use Rattle.history_book.proofs.Ordering.{IsLaid, merged_order, numbered_order, within_order}
use Rattle.history_book.proofs.merge.order_events.Goals.{After-lay_all}
use Rattle.history_book.proofs.merge.order_events.Goals as goal

laid_all : (c : After-lay_all)
    → IsLaid c.args.lists.now (spans_of c.args.threads.now c.args.answers.now) c.in_ok-order.order.items
    c.lay_all.new.order.items
laid_all c = record {
  long = c.in_ok-order.ensures ∙ c.count_events.ensures.all;
  few = omega (arith, c.count_events.ensures.all, c.count_events.ensures.few);
  numbers = c.requires.numbers;
  covers = c.requires.spans;
  all = c.lay_all.ensures;
}

pub lay_all-requires-clause-placed : goal.lay_all-requires-clause-placed
lay_all-requires-clause-placed c =
    all_placed (length c.in_ok-order.order.items) c.args.lists.now
    (c.in_ok-order.ensures ∙ c.count_events.ensures.all) c.requires.numbers

pub returns-clause-within : goal.returns-clause-within
returns-clause-within c = within_order (laid_all c)

pub returns-clause-merged : goal.returns-clause-merged
returns-clause-merged c = merged_order (laid_all c)

pub returns-clause-numbered : goal.returns-clause-numbered
returns-clause-numbered c = numbered_order (laid_all c)
