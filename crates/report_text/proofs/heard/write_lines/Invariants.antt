use Rattle.std.proofs.Common.{take}
use Rattle.report_text.specs.Heard.{heard_line}
use Rattle.report_text.specs.Internal.Gathered.{Sent}
use Rattle.report_text.specs.Texts.{texts_from}
use Rattle.report_text.proofs.heard.write_lines.Given as goal

abbrev pub invariant-lines : goal.invariant-lines
invariant-lines g l =
    Sent (texts_from (heard_line l.script) 0 (take l.thread l.counts)) l.initial.page l.page
    (g.K.Sink.tape l.initial.out) (g.K.Sink.tape l.out)
