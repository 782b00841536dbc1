use Rattle.std.proofs.Common.{List, ap, arith, length, ◌∙◌, ◌+◌}
use Rattle.std.proofs.lemmas.List.{length-set}
use Rattle.std.specs.Prelude.{slice_get}
use Rattle.history_book.specs.declared.event.Note.{Note}
use Rattle.history_book.proofs.Ordering.{note_placed, notes_read, one_laid}
use Rattle.history_book.proofs.merge.lay_span.Goals as goal

pub overflow_add-at-end : goal.overflow_add-at-end
overflow_add-at-end c =
    let read = notes_read c.args.lists.now c.args.thread c.index-lists-thread.result c.requires.thread c.index-lists-thread.is in
    omega (arith, c.requires.span, ap length read, c.len.ensures.few)

pub set-requires : goal.set-requires
set-requires c =
    let placed = note_placed c.args.lists.now c.args.thread c.notes.at (length c.args.order.now.items)
    c.index-lists-thread.result c.at-number.result c.requires.thread c.index-lists-thread.is c.at-number.ensures
    c.requires.placed in
    omega (arith, placed, c.notes.invariant.length)

pub notes-preserved : goal.notes-preserved
notes-preserved c =
    let read = notes_read c.args.lists.now c.args.thread c.index-lists-thread.result c.requires.thread c.index-lists-thread.is in
    record {
      items = one_laid c.args.lists.now c.args.thread c.args.index c.notes.at (c.args.first + c.args.made)
          c.notes.order.items c.set.new.self.items c.at-number.result
          (ap (λ (l : List Note). slice_get l c.notes.at) read ∙ c.at-number.ensures) c.notes-test.true c.set.ensures.items
          ∙ c.notes.invariant.items;
      length = ap length c.set.ensures.items ∙ length-set c.notes.order.items c.at-number.result.number _
          ∙ c.notes.invariant.length;
    }
