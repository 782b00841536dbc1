use Rattle.std.proofs.Common.{ℕ, List, Bor}
use Rattle.report_text.proofs.Writes.{wrote_step}
use Rattle.report_text.proofs.write.write_each.Goals as goal

pub returns-in_err-write_all-clause-wrote : goal.returns-in_err-write_all-clause-wrote
returns-in_err-write_all-clause-wrote g c =
    wrote_step (λ (piece : Bor (List ℕ)). piece.now) c.args.pieces.now _ _ _ _ _ _
    c.from_residual.ensures.0 c.each-test.true c.each.invariant.written
    c.each.invariant.same_faults c.in_err-write_all.ensures.wrote
