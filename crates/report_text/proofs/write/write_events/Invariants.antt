use Rattle.std.proofs.Common.{take}
use Rattle.report_text.specs.Internal.Gathered.{Sent}
use Rattle.report_text.specs.Report.{line_of_event}
use Rattle.report_text.specs.Texts.{texts_from}
use Rattle.report_text.proofs.write.write_events.Given as goal

abbrev pub invariant-events : goal.invariant-events
invariant-events g l =
    Sent (texts_from (line_of_event l.script) 0 (take l.index l.events.items)) l.initial.page l.page
    (g.K.Sink.tape l.initial.out) (g.K.Sink.tape l.out)
