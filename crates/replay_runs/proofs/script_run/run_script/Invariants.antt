use Rattle.std.specs.Prelude.{◌≡◌}
use Rattle.replay_runs.specs.Internal.Telling.{Between, HasTold, line_now, queue_of}
use Rattle.replay_runs.proofs.Scripts.{IsAnswered}
use Rattle.replay_runs.proofs.script_run.run_script.Given as goal

abbrev pub invariant-commands : goal.invariant-commands
invariant-commands g l = record {
  answered : IsAnswered l.commands l.shared.moment l.first l.command-index (g.D.Desk.sight l.fn.desk) (g.D.Desk.sight l.desk) l.fn.thread.answers l.thread.answers;
  told : Between (HasTold (g.D.Desk.sight l.desk).own) (line_now l.shared.line) l.thread.sending;
  queue : queue_of l.thread.sending ≡ queue_of l.fn.thread.sending;
}
