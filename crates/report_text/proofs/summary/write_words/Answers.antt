use Rattle.report_text.specs.FirstWord.{first_words}
use Rattle.report_text.specs.Internal.Counting.{line_of_count}
use Rattle.report_text.proofs.Gathers.{gathered_step, sent_step}
use Rattle.report_text.proofs.summary.write_words.Goals as goal

pub returns-in_err-write_word : goal.returns-in_err-write_word
returns-in_err-write_word g c =
    gathered_step (line_of_count c.args.counts.now) first_words _ _ _ _ _ _ _ _ _ c.from_residual.ensures.0 c.words-test.true
    c.words.invariant (rw c.place.ensures at c.in_err-write_word.ensures)

pub words-preserved : goal.words-preserved
words-preserved g c =
    sent_step (line_of_count c.args.counts.now) first_words _ _ _ _ _ _ _ _ c.words-test.true c.words.invariant
    (rw c.place.ensures at c.in_ok-write_word.ensures)
