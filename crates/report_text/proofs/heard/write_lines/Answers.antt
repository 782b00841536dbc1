use Rattle.report_text.specs.Heard.{heard_line}
use Rattle.report_text.proofs.Gathers.{gathered_step, sent_step}
use Rattle.report_text.proofs.heard.write_lines.Goals as goal

pub returns-in_err-write_line : goal.returns-in_err-write_line
returns-in_err-write_line g c =
    gathered_step (heard_line c.args.script) _ _ _ _ _ _ _ _ _ _ c.from_residual.ensures.0 c.lines-test.true
    c.lines.invariant c.in_err-write_line.ensures

pub lines-preserved : goal.lines-preserved
lines-preserved g c =
    sent_step (heard_line c.args.script) _ _ _ _ _ _ _ _ _ c.lines-test.true c.lines.invariant
    c.in_ok-write_line.ensures
