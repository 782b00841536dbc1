use Rattle.std.proofs.Common.{take}
use Rattle.report_text.specs.Answer.{answer_text}
use Rattle.report_text.specs.Internal.Gathered.{Sent}
use Rattle.report_text.specs.Texts.{texts_from}
use Rattle.report_text.proofs.write.write_answers.Given as goal

abbrev pub invariant-answers : goal.invariant-answers
invariant-answers g l =
    Sent (texts_from answer_text 0 (take l.index l.answers)) l.initial.page l.page
    (g.K.Sink.tape l.initial.out) (g.K.Sink.tape l.out)
