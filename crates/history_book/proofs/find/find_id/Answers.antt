use Rattle.std.proofs.Common.{◌∙◌, sym}
use Rattle.history_book.proofs.FindSteps.{record_here}
use Rattle.history_book.proofs.find.find_id.Goals as goal

pub returns-then-is_of_id-clause-found : goal.returns-then-is_of_id-clause-found
returns-then-is_of_id-clause-found c =
    record_here c.args.id c.args.records.now c.loop-index.index _ c.loop-index-test.true c.loop-index.invariant
    (sym c.is_of_id.ensures ∙ c.if-is_of_id.true)
