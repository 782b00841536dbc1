use Rattle.report_text.specs.Answer.{line_of_row}
use Rattle.report_text.proofs.Gathers.{gathered_step, sent_step}
use Rattle.report_text.proofs.write.write_rows.Goals as goal

pub returns-in_err-write_line : goal.returns-in_err-write_line
returns-in_err-write_line g c =
    gathered_step (line_of_row c.args.moment) _ _ _ _ _ _ _ _ _ _ c.from_residual.ensures.0 c.rows-test.true
    c.rows.invariant c.in_err-write_line.ensures

pub rows-preserved : goal.rows-preserved
rows-preserved g c =
    sent_step (line_of_row c.args.moment) _ _ _ _ _ _ _ _ _ c.rows-test.true c.rows.invariant
    c.in_ok-write_line.ensures
