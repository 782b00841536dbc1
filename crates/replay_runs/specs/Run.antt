-- A run of a tracker of many threads: what it leaves, and when a report can be made of that.
use Rattle.std.specs.Prelude.{◌≡◌, ℕ, ◌+◌, ◌^◌, ◌<◌, ◌≤◌, Option, List, [], ◌∷◌, ◌++◌, length, map, take, All, AllPairs}
use Rattle.room_list.specs.Roomed.{Roomed}
use Rattle.history_book.specs.declared.answer.Answer.{Answer}
use Rattle.history_book.specs.declared.event.Event.{Event}
use Rattle.history_book.specs.declared.event.Note.{Note}
use Rattle.history_book.specs.declared.report.Closed.{Closed}
use Rattle.history_book.specs.declared.verdict.Verdict.{Verdict}
use Rattle.history_book.specs.Close.{Closes}
use Rattle.history_book.specs.Merge.{all_notes}
use Rattle.history_book.specs.Places.{HoldsNothing}
use Rattle.history_book.specs.Sight.{IsKnown, Sight}
use Rattle.packet_path.specs.Packet.{Given}
use Rattle.replay_runs.specs.declared.desks.Joined.{Joined}
use Rattle.replay_runs.specs.declared.replay.RunOutcome.{RunOutcome}
use Rattle.replay_runs.specs.declared.listened.Listened.{Listened}
use Rattle.replay_runs.specs.Heard.{AreHeard, made_before}
use Rattle.replay_runs.specs.Report.{AnswersFit, at_start, latest_of, past_verdicts, ScriptRun, TrackerSetup, VerdictsFit, Work}

-- the run of a script as far as a desk sees it, with `wait` before the command of this index, and the end of the captures
abbrev pub run_seen : Sight → (moment wait end : ℕ) → ScriptRun
run_seen s moment wait end = record { log = s.front; moment = moment; wait = wait; end_of_captures = end }

-- the events of a capture's thread: the verdicts fit them, the thread's mark behind these lies in the end, and the numbers
-- of the events rise
pub record IsThread (tracker : TrackerSetup) (log : List Event) (end : ℕ) (given : List Given) (verdicts : List Verdict) (notes : List Note) : Type 0 where
  pub fit : VerdictsFit tracker log notes at_start given verdicts
  pub mark : (past_verdicts at_start notes verdicts).mark ≤ end
  pub ordered : AllPairs (λ (a b : Note). a.number < b.number) notes

-- the same of several threads
abbrev pub AreThreads : TrackerSetup → List Event → ℕ → List (List Given) → List (Roomed Verdict) → List (Roomed Note) → Type 0
AreThreads tracker log end [] [] [] = Unit {0}
AreThreads tracker log end [] [] (l ∷ lists) = ⊥
AreThreads tracker log end [] (vs ∷ vss) lists = ⊥
AreThreads tracker log end (gs ∷ gss) [] lists = ⊥
AreThreads tracker log end (gs ∷ gss) (vs ∷ vss) [] = ⊥
AreThreads tracker log end (gs ∷ gss) (vs ∷ vss) (l ∷ lists) =
    IsThread tracker log end gs vs.items l.items × AreThreads tracker log end gss vss lists

-- what a run leaves, with what the desk knows that did its work
pub record Remains : Type 0 where
  pub desk : Sight
  pub joined : Joined
  pub answers : Roomed Answer
  pub heard : Option Listened

abbrev pub left_with : Sight → RunOutcome → Remains
left_with desk o = record { desk = desk; joined = o.joined; answers = o.answers; heard = o.heard }

-- these lists without their rooms
abbrev pub items_of : List (Roomed Note) → List (List Note)
items_of lists = map (λ (l : Roomed Note). l.items) lists

-- the events that each thread of such a run made before all of them joined, of which a script has so many commands before
-- `wait`
abbrev pub made_to_wait : ℕ → Remains → List (List Note)
made_to_wait wait left =
    items_of left.joined.lists.items ++ take (made_before wait left.answers.items) left.desk.own ∷ []

-- a report has room for so many captures, packets and commands
pub record IsFew (work : Work) : Type 0 where
  pub captures : length work.captures < 2 ^ 32
  pub packets : All (λ (gs : List Given). length gs < 2 ^ 32) work.captures
  pub commands : length work.commands < 2 ^ 32

-- All of a tracker's work was done, and all of its desks joined the one that is left: with this the tracker can end. When that
-- began to perform the commands behind `wait` it had seen this end, in which the marks of the captures' threads lie.
pub record IsRun (tracker : TrackerSetup) (work : Work) (numbers : List ℕ) (left : Remains) : Type 0 where
  pub few : IsFew work
  pub tracked : left.desk.tracker ≡ numbers
  pub sized : left.desk.sizes ≡ tracker.sizes
  pub empty : HoldsNothing left.desk
  pub whole : left.desk.shares + left.desk.returned ≡ tracker.sizes.passes
  pub known : IsKnown left.desk
  pub gathered : left.desk.gathered ≡ all_notes left.joined.lists.items
  pub end : ℕ
  pub threads : AreThreads tracker left.desk.front end work.captures left.joined.threads.items left.joined.lists.items
  pub fit : (e : ℕ) → e ≤ end
      → AnswersFit (run_seen left.desk (latest_of 0 work.captures) work.wait e) left.desk.own at_start work.commands left.answers.items
  pub heard : AreHeard (made_to_wait work.wait left) left.heard

-- the work was done with a tracker that is set up so, which has ended
pub record HasEnded (tracker : TrackerSetup) (work : Work) (outcome : RunOutcome) (closed : Closed) : Type 0 where
  pub numbers : List ℕ
  pub desk : Sight
  pub run : IsRun tracker work numbers (left_with desk outcome)
  pub closes : Closes desk closed

-- some work was done with some tracker, which has ended
pub record CanReport (outcome : RunOutcome) (closed : Closed) : Type 0 where
  pub tracker : TrackerSetup
  pub work : Work
  pub ended : HasEnded tracker work outcome closed
