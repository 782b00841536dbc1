use Rattle.report_text.proofs.SummaryLaws.{texts_begin}
use Rattle.report_text.proofs.laws.texts_begin_with_their_word.Goals as goal

pub returns : goal.returns
returns c = texts_begin
