use Rattle.std.proofs.Common.{take}
use Rattle.report_text.specs.Internal.Gathered.{Sent}
use Rattle.report_text.specs.Line.{verdict_line}
use Rattle.report_text.specs.Texts.{texts_from}
use Rattle.report_text.proofs.write.write_verdicts.Given as goal

abbrev pub invariant-verdicts : goal.invariant-verdicts
invariant-verdicts g l =
    Sent (texts_from verdict_line 0 (take l.index l.verdicts.items)) l.initial.page l.page
    (g.K.Sink.tape l.initial.out) (g.K.Sink.tape l.out)
