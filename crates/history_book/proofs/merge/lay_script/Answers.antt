use Rattle.std.proofs.Common.{ap, arith, drop, length, take, ◌∙◌}
use Rattle.history_book.specs.declared.answer.Answer.{Answer}
use Rattle.history_book.specs.Internal.Merging.{made_in, named}
use Rattle.history_book.specs.Internal.Order.{notes_in}
use Rattle.history_book.proofs.Merging.{next_answer, share_covered, share_laid}
use Rattle.history_book.proofs.Ordering.{notes_read, same_length}
use Rattle.history_book.proofs.merge.lay_script.Goals as goal

pub lay_span-requires-clause-span : goal.lay_span-requires-clause-span
lay_span-requires-clause-span c =
    let next = next_answer c.args.answers.now c.answers.index c.index-answers-index.result c.answers-test.true in
    let made = ap (λ (a : Answer). a.made) c.index-answers-index.is in
    omega (arith, c.answers.invariant.covered, ap made_in next, made)

pub overflow_add-first : goal.overflow_add-first
overflow_add-first c =
    let next = next_answer c.args.answers.now c.answers.index c.index-answers-index.result c.answers-test.true in
    let made = ap (λ (a : Answer). a.made) c.index-answers-index.is in
    let read = notes_read c.args.lists.now c.args.thread c.index-lists-thread.result c.requires.thread c.index-lists-thread.is in
    omega (arith, c.answers.invariant.covered, ap made_in next, made, ap length read, c.len.ensures.few)

pub answers-preserved : goal.answers-preserved
answers-preserved c =
    let notes = notes_in c.args.lists.now c.args.thread in
    let next = next_answer c.args.answers.now c.answers.index c.index-answers-index.result c.answers-test.true in
    let made = ap (λ (a : Answer). a.made) c.index-answers-index.is in
    record {
      items = share_laid c.args.thread c.answers.index c.index-answers-index.result.made c.answers.first notes _ _ _ _ _
          c.lay_span.ensures made next
          ∙ c.answers.invariant.items;
      covered = share_covered c.index-answers-index.result.made c.answers.first (length notes) _ _ _ made next
          c.answers.invariant.covered;
      length = same_length c.args.lists.now
          (named c.args.thread c.answers.index (take c.index-answers-index.result.made (drop c.answers.first notes))) _ _
          c.lay_span.ensures
          ∙ c.answers.invariant.length;
    }
