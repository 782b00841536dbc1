use Rattle.std.proofs.Common.{take}
use Rattle.report_text.specs.Answer.{line_of_expectation}
use Rattle.report_text.specs.Internal.Gathered.{Sent}
use Rattle.report_text.specs.Texts.{texts_from}
use Rattle.report_text.proofs.write.write_expectations.Given as goal

abbrev pub invariant-expectations : goal.invariant-expectations
invariant-expectations g l =
    Sent (texts_from (line_of_expectation l.moment l.at) 0 (take l.e-index l.expectations)) l.initial.page l.page
    (g.K.Sink.tape l.initial.out) (g.K.Sink.tape l.out)
