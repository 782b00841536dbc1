use Rattle.std.proofs.Common.{arith, length, sym, subst, ℕ}
use Rattle.history_book.specs.Internal.Merging.{HavePlaces, threads_named}
use Rattle.history_book.specs.Internal.Order.{in_order, no_notes, notes_in}
use Rattle.history_book.proofs.Merging.{covered_script, covered_thread, laid_in_turn}
use Rattle.history_book.proofs.Ordering.{same_length}
use Rattle.history_book.proofs.merge.lay_all.Goals as goal

pub lay_threads-requires-clause-layable : goal.lay_threads-requires-clause-layable
lay_threads-requires-clause-layable c = record {
  few = c.requires.verdicts;
  covered = λ k d v within.
      covered_thread c.args.lists.now c.args.threads.now c.args.answers.now k d v c.requires.spans within;
  placed = c.requires.placed;
}

pub lay_script-requires-clause-covered : goal.lay_script-requires-clause-covered
lay_script-requires-clause-covered c =
    covered_script c.args.lists.now c.args.threads.now c.args.answers.now no_notes c.requires.spans

pub lay_script-requires-clause-placed : goal.lay_script-requires-clause-placed
lay_script-requires-clause-placed c =
    subst (λ (k : ℕ). HavePlaces k (notes_in c.args.lists.now (length c.args.threads.now)))
    (sym (same_length c.args.lists.now (threads_named 0 c.args.lists.now c.args.threads.now) _ _ c.lay_threads.ensures))
    (c.requires.placed (length c.args.threads.now) no_notes (omega arith))

pub returns : goal.returns
returns c =
    laid_in_turn c.args.lists.now c.args.threads.now c.args.answers.now
    (in_order c.args.lists.now c.args.order.now.items) (in_order c.args.lists.now c.lay_threads.new.order.items)
    (in_order c.args.lists.now c.lay_script.new.order.items) c.requires.lists c.lay_threads.ensures c.lay_script.ensures
