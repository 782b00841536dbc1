use Rattle.std.proofs.Common.{take}
use Rattle.report_text.specs.Answer.{line_of_row}
use Rattle.report_text.specs.Internal.Gathered.{Sent}
use Rattle.report_text.specs.Texts.{texts_from}
use Rattle.report_text.proofs.write.write_rows.Given as goal

abbrev pub invariant-rows : goal.invariant-rows
invariant-rows g l =
    Sent (texts_from (line_of_row l.moment) 0 (take l.row-index l.rows)) l.initial.page l.page
    (g.K.Sink.tape l.initial.out) (g.K.Sink.tape l.out)
