use Rattle.report_text.specs.Answer.{answer_text}
use Rattle.report_text.proofs.Gathers.{gathered_step, sent_step}
use Rattle.report_text.proofs.write.write_answers.Goals as goal

pub returns-in_err-write_answer : goal.returns-in_err-write_answer
returns-in_err-write_answer g c =
    gathered_step answer_text _ _ _ _ _ _ _ _ _ _ c.from_residual.ensures.0 c.answers-test.true
    c.answers.invariant (rw c.index-answers-index.is at c.in_err-write_answer.ensures)

pub answers-preserved : goal.answers-preserved
answers-preserved g c =
    sent_step answer_text _ _ _ _ _ _ _ _ _ c.answers-test.true c.answers.invariant
    (rw c.index-answers-index.is at c.in_ok-write_answer.ensures)
