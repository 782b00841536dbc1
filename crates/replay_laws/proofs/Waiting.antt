-- No packet is answered behind a command behind `wait`.
use Rattle.std.proofs.Common.{◌≡◌, ℕ, zero, suc, ◌+◌, ◌<◌, ◌≤◌, Bool, true, false, cond, ◌==◌, List, [], ◌∷◌, ◌++◌, length, take, drop, max, refl, sym, subst, arith}
use Rattle.std.specs.List.{AllByRecursion}
use Rattle.std.proofs.lemmas.Bool.{eq-eqb}
use Rattle.std.proofs.lemmas.List.{take-append-drop}
use Rattle.room_list.specs.Roomed.{Roomed}
use Rattle.conntrack_cmd.specs.declared.command.Command.{Command}
use Rattle.history_book.specs.declared.answer.Answer.{Answer}
use Rattle.history_book.specs.declared.event.Event.{Event}
use Rattle.history_book.specs.declared.event.Note.{Note}
use Rattle.history_book.specs.declared.event.Numbered.{Numbered}
use Rattle.history_book.specs.declared.verdict.Verdict.{Verdict}
use Rattle.history_book.specs.Mark.{mark_at, mark_past, points_of}
use Rattle.history_book.specs.Numbered.{events_of, notes_of}
use Rattle.packet_path.specs.Packet.{Given}
use Rattle.replay_runs.specs.Report.{AnswersFit, at_start, captures_end, IsWellFormed, made_by, mark_before, past_command, past_packet, past_verdicts, Progress, run_of, ScriptRun, ThreadsFit, TrackerSetup, VerdictsFit}
use Rattle.history_book.specs.declared.record.Record.{Record}
use Rattle.history_book.specs.declared.verdict.Class.{Class}
use Rattle.history_book.specs.declared.verdict.Class.TheVariants.{ErrorLost, NoEntry}
use Rattle.replay_laws.specs.Late.{flush_behind_wait, flushed_before, LateAnswersAreRefused}
use Rattle.replay_laws.specs.Waiting.{AreFrom, behind_wait, WaitDividesPackets}

-- A mark never falls.
past_ge : (mark : ℕ) (own : List Note) → mark ≤ mark_past mark own
past_ge mark [] = omega arith
past_ge mark (n ∷ ns) = omega (arith, past_ge (max mark (n.number + 1)) ns)

at_ge : (mark : ℕ) (points : List ℕ) → mark ≤ mark_at mark points
at_ge mark [] = omega arith
at_ge mark (p ∷ ps) = omega (arith, at_ge (max mark p) ps)

-- each event lies below it, and each point is no later
past_has : (m mark : ℕ) (own : List Note) → mark_past mark own ≤ m → AllByRecursion (λ (n : Note). n.number < m) own
past_has m mark [] le = tt
past_has m mark (n ∷ ns) le = (omega (arith, le, past_ge (max mark (n.number + 1)) ns), past_has m (max mark (n.number + 1)) ns le)

at_has : (m mark : ℕ) (points : List ℕ) → mark_at mark points ≤ m → AllByRecursion (λ p. p ≤ m) points
at_has m mark [] le = tt
at_has m mark (p ∷ ps) le = (omega (arith, le, at_ge (max mark p) ps), at_has m (max mark p) ps le)

verdicts_ge : (now : Progress) (mine : List Note) (vs : List Verdict) → now.mark ≤ (past_verdicts now mine vs).mark
verdicts_ge now mine [] = omega arith
verdicts_ge now mine (v ∷ vs) =
    omega (
      arith,
      verdicts_ge (past_packet now mine v) (drop v.made mine) vs,
      past_ge now.mark (take v.made mine),
      at_ge (mark_past now.mark (take v.made mine)) (points_of v.class),
    )

-- so no point of a thread's verdicts is later than its mark behind them
points_within : (m : ℕ) (now : Progress) (mine : List Note) (vs : List Verdict) → (past_verdicts now mine vs).mark ≤ m
    → AllByRecursion (λ (v : Verdict). AllByRecursion (λ p. p ≤ m) (points_of v.class)) vs
points_within m now mine [] le = tt
points_within m now mine (v ∷ vs) le = (
  at_has m (mark_past now.mark (take v.made mine)) (points_of v.class)
      (omega (arith, le, verdicts_ge (past_packet now mine v) (drop v.made mine) vs)),
  points_within m (past_packet now mine v) (drop v.made mine) vs le,
)

each_append : {X : Type 0} (P : X → Type 0) (xs ys : List X) → AllByRecursion P xs → AllByRecursion P ys → AllByRecursion P (xs ++ ys)
each_append P [] ys h k = k
each_append P (x ∷ xs) ys (h, hs) k = (h, each_append P xs ys hs k)

-- and no event of the thread
events_within : (m : ℕ) (tracker : TrackerSetup) (log : List Event) (mine : List Note) (now : Progress) (ps : List Given) (vs : List Verdict)
    → VerdictsFit tracker log mine now ps vs → (past_verdicts now mine vs).mark ≤ m → AllByRecursion (λ (n : Note). n.number < m) mine
events_within m tracker log mine now [] [] fit le = subst (AllByRecursion (λ (n : Note). n.number < m)) (sym fit) tt
events_within m tracker log mine now [] (v ∷ vs) fit le = absurd fit
events_within m tracker log mine now (p ∷ ps) [] fit le = absurd fit
events_within m tracker log mine now (p ∷ ps) (v ∷ vs) (f, fs) le =
    subst (AllByRecursion (λ (n : Note). n.number < m)) (take-append-drop v.made mine)
    (each_append (λ (n : Note). n.number < m) (take v.made mine) (drop v.made mine)
    (past_has m now.mark (take v.made mine)
    (omega (
      arith,
      le,
      verdicts_ge (past_packet now mine v) (drop v.made mine) vs,
      at_ge (mark_past now.mark (take v.made mine)) (points_of v.class),
    )))
    (events_within m tracker log (drop v.made mine) (past_packet now mine v) ps vs fs le))

-- The script's mark before a command is no less than behind the one before; at `wait` it is no less than the end of the captures.
before_ge : (b : Bool) (mark end : ℕ) → mark ≤ cond b (max mark end) mark
before_ge true mark end = omega arith
before_ge false mark end = omega arith

before_end : (b : Bool) (mark end : ℕ) → b ≡ true → end ≤ cond b (max mark end) mark
before_end true mark end is = omega arith
before_end false mark end is = absurd (cc is)

command_ge : (run : ScriptRun) (now : Progress) (mine : List Note) (a : Answer) → mark_before run now ≤ (past_command run now mine a).mark
command_ge run now mine a = omega (arith, past_ge (mark_before run now) (take a.made mine))

-- where the mark has reached the end of the captures, each answer is from there on
all_from : (run : ScriptRun) (mine : List Note) (now : Progress) (cs : List Command) (rest : List Answer) → run.end_of_captures ≤ now.mark
    → AnswersFit run mine now cs rest → AreFrom run.end_of_captures rest
all_from run mine now [] [] seen fit = tt
all_from run mine now [] (a ∷ rest) seen fit = absurd fit
all_from run mine now (c ∷ cs) [] seen fit = absurd fit
all_from run mine now (c ∷ cs) (a ∷ rest) seen (f, fs) =
    let low : now.mark ≤ mark_before run now = before_ge (now.index == run.wait) now.mark run.end_of_captures in (
      omega (arith, seen, low, f.fits.later),
      all_from run (drop a.made mine) (past_command run now mine a) cs rest (omega (arith, seen, low, command_ge run now mine a)) fs,
    )

none_from : (k n : ℕ) → AreFrom n (drop k [])
none_from zero n = tt
none_from (suc k) n = tt

-- so each answer to a command behind `wait` is
behind_from : (run : ScriptRun) (mine : List Note) (now : Progress) (cs : List Command) (rest : List Answer) (k : ℕ) → now.index + k ≡ run.wait
    → AnswersFit run mine now cs rest → AreFrom run.end_of_captures (drop k rest)
behind_from run mine now [] [] k at fit = none_from k run.end_of_captures
behind_from run mine now [] (a ∷ rest) k at fit = absurd fit
behind_from run mine now (c ∷ cs) [] k at fit = none_from k run.end_of_captures
behind_from run mine now (c ∷ cs) (a ∷ rest) zero at (f, fs) =
    let end : run.end_of_captures ≤ mark_before run now =
    before_end (now.index == run.wait) now.mark run.end_of_captures (eq-eqb now.index run.wait (omega (arith, at))) in (
      omega (arith, end, f.fits.later),
      all_from run (drop a.made mine) (past_command run now mine a) cs rest (omega (arith, end, command_ge run now mine a)) fs,
    )
behind_from run mine now (c ∷ cs) (a ∷ rest) (suc k) at (f, fs) =
    behind_from run (drop a.made mine) (past_command run now mine a) cs rest k (omega (arith, at)) fs

-- what is from a point on is so from an earlier one
earlier_from : (p m : ℕ) (rest : List Answer) → p ≤ m → AreFrom m rest → AreFrom p rest
earlier_from p m [] le h = tt
earlier_from p m (a ∷ rest) le (h, hs) = (omega (arith, le, h), earlier_from p m rest le hs)

below_from : (n m : ℕ) (rest : List Answer) → n < m → AreFrom m rest → AllByRecursion (λ (a : Answer). n < a.from) rest
below_from n m [] lt h = tt
below_from n m (a ∷ rest) lt (h, hs) = (omega (arith, lt, h), below_from n m rest lt hs)

each_point : (m : ℕ) (rest : List Answer) → AreFrom m rest → (points : List ℕ) → AllByRecursion (λ p. p ≤ m) points
    → AllByRecursion (λ p. AreFrom p rest) points
each_point m rest from [] h = tt
each_point m rest from (p ∷ ps) (h, hs) = (earlier_from p m rest h from, each_point m rest from ps hs)

each_verdict : (m : ℕ) (rest : List Answer) → AreFrom m rest → (vs : List Verdict)
    → AllByRecursion (λ (v : Verdict). AllByRecursion (λ p. p ≤ m) (points_of v.class)) vs
    → AllByRecursion (λ (v : Verdict). AllByRecursion (λ p. AreFrom p rest) (points_of v.class)) vs
each_verdict m rest from [] h = tt
each_verdict m rest from (v ∷ vs) (h, hs) = (each_point m rest from (points_of v.class) h, each_verdict m rest from vs hs)

module _ (history : List Numbered) (m : ℕ) (rest : List Answer) (from : AreFrom m rest) where
  verdicts_divided : (thread : ℕ) (vss : List (Roomed Verdict)) → captures_end history thread vss ≤ m
      → AllByRecursion (λ (vs : Roomed Verdict). AllByRecursion (λ (v : Verdict). AllByRecursion (λ p. AreFrom p rest) (points_of v.class)) vs.items) vss
  verdicts_divided thread [] le = tt
  verdicts_divided thread (vs ∷ vss) le = (
    each_verdict m rest from vs.items (points_within m at_start (notes_of (made_by thread history)) vs.items (omega (arith, le))),
    verdicts_divided (thread + 1) vss (omega (arith, le)),
  )

  each_event : (events : List Numbered) → AllByRecursion (λ (n : Note). n.number < m) (notes_of events)
      → AllByRecursion (λ (n : Numbered). AllByRecursion (λ (a : Answer). n.number < a.from) rest) events
  each_event [] h = tt
  each_event (n ∷ ns) (h, hs) = (below_from n.number m rest h from, each_event ns hs)

  events_divided : (tracker : TrackerSetup) (first k : ℕ) (gss : List (List Given)) (vss : List (Roomed Verdict))
      → ThreadsFit tracker history first gss vss → captures_end history first vss ≤ m → k < length gss
      → AllByRecursion (λ (n : Numbered). AllByRecursion (λ (a : Answer). n.number < a.from) rest) (made_by (first + k) history)
  events_divided tracker first k [] vss fit le within = absurd (omega (arith, within))
  events_divided tracker first k (gs ∷ gss) [] fit le within = absurd fit
  events_divided tracker first zero (gs ∷ gss) (vs ∷ vss) (fit, fits) le within =
      subst (λ (t : ℕ). AllByRecursion (λ (n : Numbered). AllByRecursion (λ (a : Answer). n.number < a.from) rest) (made_by t history)) (omega arith)
      (each_event (made_by first history)
      (events_within m tracker (events_of history) (notes_of (made_by first history)) at_start gs vs.items fit (omega (arith, le))))
  events_divided tracker first (suc k) (gs ∷ gss) (vs ∷ vss) (fit, fits) le within =
      subst (λ (t : ℕ). AllByRecursion (λ (n : Numbered). AllByRecursion (λ (a : Answer). n.number < a.from) rest) (made_by t history)) (omega arith)
      (events_divided tracker (first + 1) k gss vss fits (omega (arith, le)) (omega (arith, within)))

pub wait_divides : WaitDividesPackets
wait_divides tracker work report formed =
    let end : ℕ = captures_end report.history.items 0 report.threads.items in
    let from : AreFrom end (drop work.wait report.answers.items) =
    behind_from (run_of work report.history.items report.threads.items) (notes_of (made_by (length work.captures) report.history.items)) at_start
    work.commands report.answers.items work.wait (omega arith) formed.answers in
    record {
      verdicts = verdicts_divided report.history.items end (drop work.wait report.answers.items) from 0 report.threads.items (omega arith);
      events = λ thread within.
          subst (λ (t : ℕ). AllByRecursion (λ (n : Numbered). AllByRecursion (λ (a : Answer). n.number < a.from) (drop work.wait report.answers.items))
          (made_by t report.history.items)) (omega arith)
          (events_divided report.history.items end (drop work.wait report.answers.items) from tracker 0 thread work.captures report.threads.items
          formed.verdicts (omega arith) within);
    }

-- of a packet that was answered at point 2, behind a flush from point 1 on, no report tells that is well formed
late_is_refused : (tracker : TrackerSetup) (captures : List (List Given)) (subject : Record) (class : Class)
    → points_of class ≡ 2 ∷ [] → IsWellFormed tracker (flush_behind_wait captures) (flushed_before subject class) → ⊥
late_is_refused tracker captures subject class points formed =
    let divided = (wait_divides tracker (flush_behind_wait captures) (flushed_before subject class) formed).verdicts in
    let late : 2 ≤ 1 =
    (subst (λ ps. AllByRecursion (λ p. AreFrom p (behind_wait (flush_behind_wait captures) (flushed_before subject class))) ps) points divided.0.1.0).0.0 in
    absurd (omega (arith, late))

pub late_answers : LateAnswersAreRefused
late_answers tracker captures subject =
    (late_is_refused tracker captures subject (ErrorLost 2) refl, late_is_refused tracker captures subject (NoEntry 2) refl)
