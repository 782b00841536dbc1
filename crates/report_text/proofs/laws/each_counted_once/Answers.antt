use Rattle.report_text.proofs.SummaryLaws.{each_once}
use Rattle.report_text.proofs.laws.each_counted_once.Goals as goal

pub returns : goal.returns
returns c = each_once
