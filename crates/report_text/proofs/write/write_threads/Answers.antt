use Rattle.report_text.specs.Report.{thread_text}
use Rattle.report_text.proofs.Gathers.{gathered_step, sent_step}
use Rattle.report_text.proofs.write.write_threads.Goals as goal

pub returns-in_err-write_thread : goal.returns-in_err-write_thread
returns-in_err-write_thread g c =
    gathered_step thread_text _ _ _ _ _ _ _ _ _ _ c.from_residual.ensures.0 c.threads-test.true
    c.threads.invariant (rw c.index-threads-thread.is at c.in_err-write_thread.ensures)

pub threads-preserved : goal.threads-preserved
threads-preserved g c =
    sent_step thread_text _ _ _ _ _ _ _ _ _ c.threads-test.true c.threads.invariant
    (rw c.index-threads-thread.is at c.in_ok-write_thread.ensures)
