use Rattle.std.proofs.Common.{ap, arith, drop, length, take, ◌∙◌}
use Rattle.history_book.specs.Internal.Merging.{made_in, named}
use Rattle.history_book.specs.Internal.Order.{notes_in}
use Rattle.history_book.proofs.Merging.{next_verdict, share_covered, share_laid}
use Rattle.history_book.proofs.Ordering.{notes_read, same_length}
use Rattle.history_book.proofs.merge.lay_thread.Goals as goal

pub lay_span-requires-clause-span : goal.lay_span-requires-clause-span
lay_span-requires-clause-span c =
    let next = next_verdict c.args.verdicts.now.items c.verdicts.index c.at.result c.at.ensures in
    omega (arith, c.verdicts.invariant.covered, ap made_in next, c.from-made.ensures)

pub overflow_add-first : goal.overflow_add-first
overflow_add-first c =
    let next = next_verdict c.args.verdicts.now.items c.verdicts.index c.at.result c.at.ensures in
    let read = notes_read c.args.lists.now c.args.thread c.index-lists-thread.result c.requires.thread c.index-lists-thread.is in
    omega (arith, c.verdicts.invariant.covered, ap made_in next, c.from-made.ensures, ap length read, c.len.ensures.few)

pub verdicts-preserved : goal.verdicts-preserved
verdicts-preserved c =
    let notes = notes_in c.args.lists.now c.args.thread in
    let next = next_verdict c.args.verdicts.now.items c.verdicts.index c.at.result c.at.ensures in
    record {
      items = share_laid c.args.thread c.verdicts.index c.from-made.result c.verdicts.first notes _ _ _ _ _
          c.lay_span.ensures c.from-made.ensures next
          ∙ c.verdicts.invariant.items;
      covered = share_covered c.from-made.result c.verdicts.first (length notes) _ _ _ c.from-made.ensures next
          c.verdicts.invariant.covered;
      length = same_length c.args.lists.now
          (named c.args.thread c.verdicts.index (take c.from-made.result (drop c.verdicts.first notes))) _ _
          c.lay_span.ensures
          ∙ c.verdicts.invariant.length;
    }
