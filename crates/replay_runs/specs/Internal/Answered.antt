-- What a desk and its answers are, once the commands of a script were performed.
use Rattle.std.specs.Prelude.{◌≡◌, ℕ, ◌+◌, ◌*◌, ◌<◌, ◌≤◌, ◌^◌, List, [], ◌∷◌, ◌++◌, length, drop, All}
use Rattle.conntrack_cmd.specs.declared.command.Command.{Command}
use Rattle.history_book.specs.declared.answer.Answer.{Answer}
use Rattle.history_book.specs.declared.event.Note.{Note}
use Rattle.conntrack_cmd.specs.Moment.{moment_of}
use Rattle.history_book.specs.Places.{HoldsNothing}
use Rattle.history_book.specs.Sight.{IsKnown, Sight}
use Rattle.history_book.specs.WentOn.{WentOn}
use Rattle.replay_runs.specs.Report.{AnswersFit, past_command, Progress, ScriptRun}
use Rattle.replay_runs.specs.Run.{run_seen}

-- commands can be performed at this moment by a desk that keeps no place, and the last of whose own events are so many of
-- the script's
pub record CanPerform (commands : List Command) (moment first : ℕ) (s : Sight) : Type 0 where
  pub timely : moment ≤ 10 ^ 16
  pub named : All (λ c. moment_of c ≤ 10 ^ 16) commands
  pub small : s.sizes.entries + s.sizes.expectations ≤ 66560
  pub made : first ≤ length s.own
  pub few : length s.own + 66560 * length commands + 66560 ≤ 2 ^ 30
  pub empty : HoldsNothing s
  pub known : IsKnown s

-- how far the script has come behind these answers, whose commands made these events
abbrev pub past_answers : ScriptRun → Progress → List Note → List Answer → Progress
past_answers run now mine [] = now
past_answers run now mine (a ∷ rest) = past_answers run (past_command run now mine a) (drop a.made mine) rest

-- where `wait` stands before one of so many commands from this index on, the captures end within a front of this length
abbrev pub EndsInTime : (wait end index count seen : ℕ) → Type 0
EndsInTime wait end index count seen = index ≤ wait → wait < index + count → end ≤ seen

-- The desk went on by the events of the answers, which came behind those that were there. The script had made so many events
-- before. From whatever command on and with whatever mark it goes on, as long as that lies in what the desk had seen, and
-- the end of the captures where `wait` is reached: the answers fit the commands on the new front, and the script's mark
-- behind them lies in that. No place is held or owed.
pub record Answered (commands : List Command) (moment first : ℕ) (old new : Sight) (before all : List Answer) : Type 0 where
  pub own : List Note
  pub answers : List Answer
  pub behind : all ≡ before ++ answers
  pub went : WentOn old new own
  pub few : length own ≤ 66560 * length commands
  pub fit : (wait end index mark : ℕ) → EndsInTime wait end index (length commands) (length old.front) → mark ≤ length old.front
      → AnswersFit (run_seen new moment wait end) own (record { first = first; index = index; mark = mark }) commands answers
  pub mark : (wait end index mark : ℕ) → EndsInTime wait end index (length commands) (length old.front) → mark ≤ length old.front
      → (past_answers (run_seen new moment wait end) (record { first = first; index = index; mark = mark }) own answers).mark ≤ length new.front
  pub held : new.held ≡ []
  pub owed : new.owed ≡ []
  pub known : IsKnown new
