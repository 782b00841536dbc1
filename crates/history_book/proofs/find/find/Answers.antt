use Rattle.std.proofs.Common.{Some, ap, sym, ◌∙◌, not}
use Rattle.history_book.proofs.FindSteps.{found_original, neither, reply_again, reply_first}
use Rattle.history_book.proofs.find.find.Goals as goal
use Rattle.history_book.proofs.find.find.Goals.{in-Some-Reply+then-is_none, in-Some-Reply+else-is_none, in-None}

pub returns-in-Some-Original-clause-found : goal.returns-in-Some-Original-clause-found
returns-in-Some-Original-clause-found c =
    found_original c.args.t.now c.args.records.now c.loop-index.index _ c.loop-index-test.true c.loop-index.reply c.loop-index.invariant
    (sym c.direction_under.ensures ∙ c.in-Some-Original.is ∙ ap Some c.in-Some-Original.field-0-is)

pub loop-index-preserved : goal.loop-index-preserved
loop-index-preserved c =
    elim c.match-direction_under.branch [
      | in-Some-Reply+then-is_none w ↦ rw w.reply-is
          (reply_first c.args.t.now c.args.records.now c.loop-index.index _ c.loop-index-test.true c.loop-index.reply
          (w.is_none.ensures ∙ ap not w.if-is_none.true) c.loop-index.invariant
          (sym c.direction_under.ensures ∙ w.in-Some-Reply.is ∙ ap Some w.in-Some-Reply.field-0-is))
      | in-Some-Reply+else-is_none w ↦ rw w.reply-is
          (reply_again c.args.t.now c.args.records.now c.loop-index.index _ c.loop-index-test.true c.loop-index.reply
          (w.is_none.ensures ∙ ap not w.if-is_none.false) c.loop-index.invariant
          (sym c.direction_under.ensures ∙ w.in-Some-Reply.is ∙ ap Some w.in-Some-Reply.field-0-is))
      | in-None w ↦ rw w.reply-is
          (neither c.args.t.now c.args.records.now c.loop-index.index _ c.loop-index-test.true c.loop-index.reply c.loop-index.invariant
          (sym c.direction_under.ensures ∙ w.in-None.is))
    ]
