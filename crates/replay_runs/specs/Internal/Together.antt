-- What the threads of a run have done together.
use Rattle.std.specs.Prelude.{◌≡◌, ℕ, ◌*◌, ◌≤◌, List, [], ◌∷◌, ◌++◌, length, map}
use Rattle.conntrack_cmd.specs.declared.command.Command.{Command}
use Rattle.history_book.specs.declared.answer.Answer.{Answer}
use Rattle.history_book.specs.declared.event.Note.{Note}
use Rattle.history_book.specs.Merge.{all_notes}
use Rattle.history_book.specs.Sight.{IsKnown, Sight}
use Rattle.packet_path.specs.declared.setup.Setup.{Setup}
use Rattle.packet_headers.specs.declared.frame.Capture.{Capture}
use Rattle.replay_runs.specs.declared.desks.Joined.{Joined}
use Rattle.replay_runs.specs.Internal.Answered.{past_answers}
use Rattle.replay_runs.specs.Internal.Replayed.{given_frames, tracker_with}
use Rattle.replay_runs.specs.Report.{AnswersFit, at_start}
use Rattle.replay_runs.specs.Run.{AreThreads, items_of, run_seen}

-- the events of each thread that joined, and those of the script's
abbrev pub lists_with : Joined → List Note → List (List Note)
lists_with joined own = items_of joined.lists.items ++ own ∷ []

-- Captures were replayed beside commands of the script, all of which stand before `wait`, and their desks have joined the
-- script's. The verdicts and the answers fit what this has seen.
pub record HasRun (setup : Setup) (moment : ℕ) (captures : List Capture) (commands : List Command) (old new : Sight) (joined : Joined)
    (answers : List Answer) : Type 0 where
  pub kept : new ≡ record old {
    front = new.front;
    own = new.own;
    spare = new.spare;
    shares = 1;
    returned = length captures;
    gathered = all_notes joined.lists.items;
    taken = new.taken;
  }
  pub known : IsKnown new
  pub threads : AreThreads (tracker_with setup old) new.front (length new.front) (map given_frames captures)
      joined.threads.items joined.lists.items
  pub few : length new.own ≤ 66560 * length commands
  pub fit : (wait end : ℕ) → length commands ≤ wait → AnswersFit (run_seen new moment wait end) new.own at_start commands answers
  pub mark : (wait end : ℕ) → length commands ≤ wait
      → (past_answers (run_seen new moment wait end) at_start new.own answers).mark ≤ length new.front
