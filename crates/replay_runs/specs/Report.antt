-- When a report of a tracker is well formed for what the tracker was given to do.
use Rattle.std.specs.Prelude.{if◌then◌else◌, ◌≡◌, ℕ, ◌+◌, ◌≤◌, true, ◌==◌, max, List, [], ◌∷◌, length, take, drop, filter}
use Rattle.std.specs.List.{AllByRecursion}
use Rattle.room_list.specs.Roomed.{Roomed}
use Rattle.conntrack_cmd.specs.Answer.{FitsCommand}
use Rattle.conntrack_cmd.specs.declared.command.Command.{Command}
use Rattle.history_book.specs.declared.answer.Answer.{Answer}
use Rattle.history_book.specs.declared.event.Event.{Event}
use Rattle.history_book.specs.declared.event.Note.{Note}
use Rattle.history_book.specs.declared.event.Numbered.{Numbered}
use Rattle.history_book.specs.declared.report.Report.{Report}
use Rattle.history_book.specs.declared.verdict.Verdict.{Verdict}
use Rattle.history_book.specs.History.{after, is_legal}
use Rattle.history_book.specs.Mark.{mark_after_command, mark_after_packet}
use Rattle.history_book.specs.Merge.{EventSpan, spans_of}
use Rattle.history_book.specs.Numbered.{events_of, IsNumberedFrom, notes_of}
use Rattle.history_book.specs.declared.sizes.Sizes.{Sizes}
use Rattle.packet_path.specs.Packet.{Given}
use Rattle.packet_path.specs.declared.setup.Setup.{Setup}
use Rattle.packet_path.specs.Verdict.{FitsFrame}

-- how a tracker is set up, and how large it is
pub record TrackerSetup : Type 0 where
  pub setup : Setup
  pub sizes : Sizes

-- what a tracker is given to do: what was given of the frames of each capture, and the commands of a script, of which
-- so many stand before its line `wait`
pub record Work : Type 0 where
  pub captures : List (List Given)
  pub commands : List Command
  pub wait : ℕ

-- how far a thread has come: how many events it has made, the index of its next packet or command, and its mark
pub record Progress : Type 0 where
  pub first : ℕ
  pub index : ℕ
  pub mark : ℕ

abbrev pub at_start : Progress
at_start = record { first = 0; index = 0; mark = 0 }

-- after a packet, which made the next of its thread's events
abbrev pub past_packet : Progress → List Note → Verdict → Progress
past_packet now mine v = record {
  first = now.first + v.made;
  index = now.index + 1;
  mark = mark_after_packet now.mark (take v.made mine) v.class;
}

-- the verdict on the next packet, which made the next of its thread's events: they are counted from its `first` on, and
-- the verdict fits them at the thread's mark
pub record VerdictFits (tracker : TrackerSetup) (log : List Event) (mine : List Note) (now : Progress) (given : Given)
    (verdict : Verdict) : Type 0 where
  pub starts : verdict.first ≡ now.first
  pub within : verdict.made ≤ length mine
  pub fits : FitsFrame tracker.setup tracker.sizes log now.mark given (take verdict.made mine) verdict.class

-- how far a thread has come behind these verdicts, whose packets made the next of its events
abbrev pub past_verdicts : Progress → List Note → List Verdict → Progress
past_verdicts now mine [] = now
past_verdicts now mine (v ∷ vs) = past_verdicts (past_packet now mine v) (drop v.made mine) vs

-- one verdict for each packet, in order; together they made all of these events
abbrev pub VerdictsFit : TrackerSetup → List Event → List Note → Progress → List Given → List Verdict → Type 0
VerdictsFit tracker log mine now [] [] = mine ≡ []
VerdictsFit tracker log mine now [] (v ∷ vs) = ⊥
VerdictsFit tracker log mine now (p ∷ ps) [] = ⊥
VerdictsFit tracker log mine now (p ∷ ps) (v ∷ vs) =
    VerdictFits tracker log mine now p v × VerdictsFit tracker log (drop v.made mine) (past_packet now mine v) ps vs

-- the events that a thread made, in order
abbrev pub made_by : ℕ → List Numbered → List Numbered
made_by thread history = filter (λ (n : Numbered). n.thread == thread) history

-- the verdicts of each capture fit, which is a thread of this number or a later one
abbrev pub ThreadsFit : TrackerSetup → List Numbered → ℕ → List (List Given) → List (Roomed Verdict) → Type 0
ThreadsFit tracker history thread [] [] = Unit {0}
ThreadsFit tracker history thread [] (vs ∷ vss) = ⊥
ThreadsFit tracker history thread (ps ∷ pss) [] = ⊥
ThreadsFit tracker history thread (ps ∷ pss) (vs ∷ vss) =
    VerdictsFit tracker (events_of history) (notes_of (made_by thread history)) at_start ps vs.items
    × ThreadsFit tracker history (thread + 1) pss vss

-- each span has the next of a thread's events, which name the packet or command of this index and the later ones
abbrev pub AreNamedFrom : ℕ → List Numbered → List EventSpan → Type 0
AreNamedFrom index mine [] = mine ≡ []
AreNamedFrom index mine (s ∷ ss) =
    AllByRecursion (λ (n : Numbered). n.index ≡ index) (take s.made mine) × AreNamedFrom (index + 1) (drop s.made mine) ss

-- the same of each thread from this one on
abbrev pub AreNamedInEach : ℕ → List Numbered → List (List EventSpan) → Type 0
AreNamedInEach thread history [] = Unit {0}
AreNamedInEach thread history (ss ∷ sss) =
    AreNamedFrom 0 (made_by thread history) ss × AreNamedInEach (thread + 1) history sss

-- the greatest of a moment and those of these frames
abbrev pub latest : ℕ → List Given → ℕ
latest moment [] = moment
latest moment (g ∷ gs) = latest (max moment g.moment) gs

-- of the frames of all these captures
abbrev pub latest_of : ℕ → List (List Given) → ℕ
latest_of moment [] = moment
latest_of moment (gs ∷ gss) = latest_of (latest moment gs) gss

-- the greatest mark that a capture's thread has behind its last packet, of these threads from this number on: no event of
-- theirs is behind that point, and no verdict of theirs was given at a later one
abbrev pub captures_end : List Numbered → ℕ → List (Roomed Verdict) → ℕ
captures_end history thread [] = 0
captures_end history thread (vs ∷ vss) =
    max (past_verdicts at_start (notes_of (made_by thread history)) vs.items).mark (captures_end history (thread + 1) vss)

-- the run of a script: the history, the script's moment, how many commands stand before `wait`, and the end of the
-- captures, behind which those stand that come after it
pub record ScriptRun : Type 0 where
  pub log : List Event
  pub moment : ℕ
  pub wait : ℕ
  pub end_of_captures : ℕ

-- the script's mark before its next command: before the first one behind `wait` it rises to the end of the captures, so
-- that all packets were answered before
abbrev pub mark_before : ScriptRun → Progress → ℕ
mark_before run now = if now.index == run.wait then max now.mark run.end_of_captures else now.mark

-- after a command, which made the next of the script's events
abbrev pub past_command : ScriptRun → Progress → List Note → Answer → Progress
past_command run now mine a = record {
  first = now.first + a.made;
  index = now.index + 1;
  mark = mark_after_command (mark_before run now) (take a.made mine) a;
}

-- the answer to the next command, which made the next of the script's events: they are counted from its `first` on, the
-- answer has the script's moment, and it fits them at the script's mark
pub record AnswerFits (run : ScriptRun) (mine : List Note) (now : Progress) (asked : Command) (answer : Answer) : Type 0 where
  pub starts : answer.first ≡ now.first
  pub within : answer.made ≤ length mine
  pub timed : answer.moment ≡ run.moment
  pub fits : FitsCommand run.log (mark_before run now) asked (take answer.made mine) answer.said answer.from answer.to

-- one answer for each command, in order; together they made all of these events
abbrev pub AnswersFit : ScriptRun → List Note → Progress → List Command → List Answer → Type 0
AnswersFit run mine now [] [] = mine ≡ []
AnswersFit run mine now [] (a ∷ rest) = ⊥
AnswersFit run mine now (c ∷ cs) [] = ⊥
AnswersFit run mine now (c ∷ cs) (a ∷ rest) =
    AnswerFits run mine now c a × AnswersFit run (drop a.made mine) (past_command run now mine a) cs rest

-- the run of the script of this work, with this history and these verdicts of the captures
abbrev pub run_of : Work → List Numbered → List (Roomed Verdict) → ScriptRun
run_of work history verdicts = record {
  log = events_of history;
  moment = latest_of 0 work.captures;
  wait = work.wait;
  end_of_captures = captures_end history 0 verdicts;
}

-- The history is numbered from 0 and legal. Each of its events is a capture's or the script's, which has the next number
-- behind them, and names the packet or command of which the span has it. The verdicts and the answers fit it, and so many
-- entries are live after it.
pub record IsWellFormed (tracker : TrackerSetup) (work : Work) (report : Report) : Type 0 where
  pub numbered : IsNumberedFrom 0 report.history.items
  pub legal : is_legal tracker.sizes (events_of report.history.items) ≡ true
  pub owned : AllByRecursion (λ (n : Numbered). n.thread ≤ length work.captures) report.history.items
  pub named : AreNamedInEach 0 report.history.items (spans_of report.threads.items report.answers.items)
  pub verdicts : ThreadsFit tracker report.history.items 0 work.captures report.threads.items
  pub answers : AnswersFit (run_of work report.history.items report.threads.items) (notes_of (made_by (length work.captures) report.history.items)) at_start
      work.commands report.answers.items
  pub live : report.live ≡ length (after (events_of report.history.items) (length report.history.items)).records
