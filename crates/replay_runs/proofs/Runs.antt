-- A whole run has no more threads, verdicts and answers than a report has room for.
use Rattle.std.proofs.Common.{◌^◌, ◌<◌, List, length, arith}
use Rattle.std.specs.Prelude.{All}
use Rattle.room_list.specs.Roomed.{Roomed}
use Rattle.history_book.specs.declared.verdict.Verdict.{Verdict}
use Rattle.history_book.specs.declared.report.Closed.{Closed}
use Rattle.replay_runs.specs.declared.replay.RunOutcome.{RunOutcome}
use Rattle.replay_runs.specs.Report.{at_start, latest_of}
use Rattle.replay_runs.specs.Run.{CanReport, run_seen}
use Rattle.replay_runs.proofs.Bounds.{one_thread_each, verdicts_few}
use Rattle.replay_runs.proofs.Scripts.{one_answer_each}

module _ (outcome : RunOutcome) (closed : Closed) (can : CanReport outcome closed) where
  -- there are as many threads as captures
  pub threads_few : length outcome.joined.threads.items < 2 ^ 32
  threads_few =
      omega (
        arith,
        can.ended.run.few.captures,
        one_thread_each can.tracker can.ended.desk.front can.ended.run.end can.work.captures outcome.joined.threads.items
            outcome.joined.lists.items can.ended.run.threads,
      )

  -- no more verdicts of one than packets
  pub each_few : All (λ (vs : Roomed Verdict). length vs.items < 2 ^ 32) outcome.joined.threads.items
  each_few =
      verdicts_few can.tracker can.ended.desk.front can.ended.run.end (2 ^ 32) can.work.captures outcome.joined.threads.items
      outcome.joined.lists.items can.ended.run.threads can.ended.run.few.packets

  -- and as many answers as commands
  pub answers_few : length outcome.answers.items < 2 ^ 32
  answers_few =
      omega (
        arith,
        can.ended.run.few.commands,
        one_answer_each (run_seen can.ended.desk (latest_of 0 can.work.captures) can.work.wait 0) can.ended.desk.own at_start
            can.work.commands outcome.answers.items (can.ended.run.fit 0 (omega arith)),
      )
