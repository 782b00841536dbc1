-- What the line `wait` of a script divides.
use Rattle.std.specs.Prelude.{ℕ, ◌<◌, ◌≤◌, List, length, drop}
use Rattle.std.specs.List.{AllByRecursion}
use Rattle.room_list.specs.Roomed.{Roomed}
use Rattle.history_book.specs.declared.answer.Answer.{Answer}
use Rattle.history_book.specs.declared.event.Numbered.{Numbered}
use Rattle.history_book.specs.declared.report.Report.{Report}
use Rattle.history_book.specs.declared.verdict.Verdict.{Verdict}
use Rattle.history_book.specs.Mark.{points_of}
use Rattle.replay_runs.specs.Report.{IsWellFormed, made_by, TrackerSetup, Work}

-- each of these answers is from the point on, or from a later one
abbrev pub AreFrom : ℕ → List Answer → Type 0
AreFrom point answers = AllByRecursion (λ (a : Answer). point ≤ a.from) answers

-- the answers to the commands behind `wait`
abbrev pub behind_wait : Work → Report → List Answer
behind_wait work report = drop work.wait report.answers.items

-- Every packet was answered before the commands behind `wait`: no point of a verdict lies behind one from which such a
-- command is answered. Nor does an event of a capture.
pub record IsDivided (work : Work) (report : Report) : Type 0 where
  pub verdicts : AllByRecursion
      (λ (vs : Roomed Verdict). AllByRecursion
      (λ (v : Verdict). AllByRecursion (λ p. AreFrom p (behind_wait work report)) (points_of v.class)) vs.items)
      report.threads.items
  pub events : (thread : ℕ) → thread < length work.captures
      → AllByRecursion (λ (n : Numbered). AllByRecursion (λ (a : Answer). n.number < a.from) (behind_wait work report))
      (made_by thread report.history.items)

abbrev pub WaitDividesPackets : Type 0
WaitDividesPackets = (tracker : TrackerSetup) (work : Work) (report : Report) → IsWellFormed tracker work report → IsDivided work report
