-- The text of a line with what stands in it.
use Rattle.std.specs.Prelude.{ℕ, List}
use Rattle.report_text.specs.Answer.{answer_head}
use Rattle.report_text.specs.Heard.{heard_line}
use Rattle.report_text.specs.Line.{history_head, script_head, thread_head}
use Rattle.report_text.specs.Row.{expectation_line, row_line}
use Rattle.report_text.specs.declared.line.ReportLine.{ReportLine}
use Rattle.report_text.specs.declared.line.ReportLine.TheVariants as line

abbrev pub report_line : ReportLine → List ℕ
report_line (line.HistoryHead events) = history_head events
report_line (line.ThreadHead thread packets) = thread_head thread packets
report_line (line.ScriptHead commands) = script_head commands
report_line (line.AnswerHead index answer) = answer_head index answer.now
report_line (line.EntryRow moment row) = row_line moment row.now
report_line (line.ExpectationRow moment at e) = expectation_line moment at e.now
report_line (line.Heard script thread count) = heard_line script thread count.now
