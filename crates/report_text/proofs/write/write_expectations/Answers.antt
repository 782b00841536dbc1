use Rattle.report_text.specs.Answer.{line_of_expectation}
use Rattle.report_text.proofs.Gathers.{gathered_step, sent_step}
use Rattle.report_text.proofs.write.write_expectations.Goals as goal

pub returns-in_err-write_line : goal.returns-in_err-write_line
returns-in_err-write_line g c =
    gathered_step (line_of_expectation c.args.moment c.args.at) _ _ _ _ _ _ _ _ _ _ c.from_residual.ensures.0 c.expectations-test.true
    c.expectations.invariant c.in_err-write_line.ensures

pub expectations-preserved : goal.expectations-preserved
expectations-preserved g c =
    sent_step (line_of_expectation c.args.moment c.args.at) _ _ _ _ _ _ _ _ _ c.expectations-test.true c.expectations.invariant
    c.in_ok-write_line.ensures
