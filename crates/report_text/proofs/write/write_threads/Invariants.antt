use Rattle.std.proofs.Common.{take}
use Rattle.report_text.specs.Internal.Gathered.{Sent}
use Rattle.report_text.specs.Report.{thread_text}
use Rattle.report_text.specs.Texts.{texts_from}
use Rattle.report_text.proofs.write.write_threads.Given as goal

abbrev pub invariant-threads : goal.invariant-threads
invariant-threads g l =
    Sent (texts_from thread_text 0 (take l.thread l.threads)) l.initial.page l.page
    (g.K.Sink.tape l.initial.out) (g.K.Sink.tape l.out)
