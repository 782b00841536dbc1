use Rattle.std.proofs.Common.{◌∙◌, sym}
use Rattle.book_desk.proofs.FirstMet.{candidates_step, met_here}
use Rattle.book_desk.proofs.entries.winner.Goals as goal

pub returns-then-is_original_of-clause-wins : goal.returns-then-is_original_of-clause-wins
returns-then-is_original_of-clause-wins c =
    met_here c.args.original.now c.args.reply.now c.args.records.now c.loop-index.index _ c.loop-index-test.true
    c.loop-index.invariant.none_original (sym c.is_original_of.ensures ∙ c.if-is_original_of.true)

pub loop-index-preserved : goal.loop-index-preserved
loop-index-preserved c =
    candidates_step c.args.original.now c.args.reply.now c.args.records.now c.loop-index.index _ c.loop-index.candidates c.see.new.self
    c.loop-index-test.true c.loop-index.invariant (sym c.is_original_of.ensures ∙ c.if-is_original_of.false)
    c.see.ensures.original_by_reply c.see.ensures.reply_by_original c.see.ensures.reply_by_reply
