-- The threads of captures and the script's, which run beside each other.
use Rattle.std.specs.Prelude.{◌≡◌, ◌+◌, ◌≤◌, List, length, OnOk, Result}
use Rattle.std.specs.List.{AllByRecursion, AllZip}
use Rattle.packet_headers.specs.declared.frame.Capture.{Capture}
use Rattle.conntrack_cmd.specs.declared.command.Command.{Command}
use Rattle.history_book.specs.Sight.{Sight}
use Rattle.nat_setup.specs.Rule.{IsLawfulRule}
use Rattle.replay_runs.specs.declared.jobs.Job.{Job}
use Rattle.replay_runs.specs.declared.script_run.ScriptThread.{ScriptThread}
use Rattle.replay_runs.specs.declared.shared.Shared.{Shared}
use Rattle.replay_runs.specs.Internal.Answered.{Answered, CanPerform}
use Rattle.replay_runs.specs.Internal.Jobs.{AllRan, IsSet}
use Rattle.replay_runs.specs.Internal.Telling.{Between, HasTold, IsReady, line_now, queue_of, Told}

-- the threads of captures, what the script's desk knows, and the script's thread
pub record Crew (D : Type 0) : Type 0 where
  pub jobs : List (Job D)
  pub desk : Sight
  pub thread : ScriptThread

-- none of them has begun
pub record CanRun {D G : Type 0} (sight : D → Sight) (shared : Shared G) (captures : List Capture) (commands : List Command) (crew : Crew D) : Type 0 where
  pub lawful : AllByRecursion IsLawfulRule shared.setup.now.rules.items
  pub few : length captures ≤ 63
  pub set : AllZip (IsSet sight) captures crew.jobs
  pub ready : AllByRecursion (IsReady sight (line_now shared.line)) crew.jobs
  pub can : CanPerform commands shared.moment 0 crew.desk
  pub room : length crew.thread.answers.items + length commands ≤ crew.thread.answers.room
  pub told : Between (HasTold crew.desk.own) (line_now shared.line) crew.thread.sending

-- each of them has ended
pub record HaveRun {D G E : Type 0} (sight : D → Sight) (shared : Shared G) (captures : List Capture) (commands : List Command) (old new : Crew D)
    (result : Result (Unit {0}) E) : Type 0 where
  pub ran : AllRan sight shared.setup.now captures old.jobs new.jobs
  pub all_told : AllZip (Told sight (line_now shared.line)) old.jobs new.jobs
  pub performed : OnOk result (Answered commands shared.moment 0 old.desk new.desk old.thread.answers.items new.thread.answers.items)
  pub room : new.thread.answers.room ≡ old.thread.answers.room
  pub told : OnOk result (Between (HasTold new.desk.own) (line_now shared.line) new.thread.sending)
  pub queue : queue_of new.thread.sending ≡ queue_of old.thread.sending
