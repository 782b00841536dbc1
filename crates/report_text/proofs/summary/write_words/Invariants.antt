use Rattle.std.proofs.Common.{take}
use Rattle.report_text.specs.Internal.Counting.{line_of_count}
use Rattle.report_text.specs.Internal.Gathered.{Sent}
use Rattle.report_text.specs.Texts.{texts_from}
use Rattle.report_text.proofs.summary.write_words.Given as goal

abbrev pub invariant-words : goal.invariant-words
invariant-words g l =
    Sent (texts_from (line_of_count l.counts) 0 (take l.word-index l.word-items)) l.initial.page l.page
    (g.K.Sink.tape l.initial.out) (g.K.Sink.tape l.out)
