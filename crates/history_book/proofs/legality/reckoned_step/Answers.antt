use Rattle.std.proofs.Common.{ap, ◌∙◌, arith}
use Rattle.history_book.specs.Internal.Late.{later}
use Rattle.history_book.proofs.Late.{step-later}
use Rattle.history_book.proofs.legality.reckoned_step.Goals as goal

pub returns : goal.returns
returns c =
    ap (later c.saturating_sub-late.result) c.step.ensures
    ∙ step-later c.args.part.now c.args.direction c.args.segment c.args.moment c.saturating_sub-late.result
    (omega (arith, c.saturating_sub-late.ensures)) c.if-part-moment.false
