-- Verdicts and answers that fit a thread's events have a span of them each, under whose names these stand.
use Rattle.std.proofs.Common.{◌≡◌, ℕ, ◌+◌, ◌≤◌, List, [], ◌∷◌, ◌++◌, length, take, drop, refl, sym, ap, subst, ◌∙◌, arith, length-drop}
use Rattle.std.specs.List.{AllByRecursion}
use Rattle.std.proofs.lemmas.List.{length-map, length-take-le}
use Rattle.std.proofs.Math.Seq.{drop-append_seam, take-append_seam}
use Rattle.conntrack_cmd.specs.declared.command.Command.{Command}
use Rattle.history_book.specs.declared.answer.Answer.{Answer}
use Rattle.history_book.specs.declared.event.Event.{Event}
use Rattle.history_book.specs.declared.event.Note.{Note}
use Rattle.history_book.specs.declared.event.Numbered.{Numbered}
use Rattle.history_book.specs.declared.verdict.Verdict.{Verdict}
use Rattle.history_book.specs.Merge.{CoverFrom, EventSpan, spans_of_answers, spans_of_verdicts}
use Rattle.packet_path.specs.Packet.{Given}
use Rattle.replay_runs.specs.Report.{AnswersFit, AreNamedFrom, past_command, past_packet, Progress, ScriptRun, TrackerSetup, VerdictsFit}
use Rattle.replay_runs.proofs.Names.{cover_le, name_of, named, named_in}

-- each of a span's events names its packet or command
named_each : (thread index : ℕ) (notes : List Note) → AllByRecursion (λ (n : Numbered). n.index ≡ index) (named thread index notes)
named_each thread index [] = tt
named_each thread index (n ∷ ns) = (refl, named_each thread index ns)

-- a span of a thread's named events and those behind it
pub record IsShare (thread index made : ℕ) (mine : List Note) (rest : List Numbered) (all : List Numbered) : Type 0 where
  pub taken : take made all ≡ named thread index (take made mine)
  pub dropped : drop made all ≡ rest

share_first : (thread index made : ℕ) (mine : List Note) (rest : List Numbered) → made ≤ length mine
    → IsShare thread index made mine rest (named thread index (take made mine) ++ rest)
share_first thread index made mine rest within =
    let events : List Numbered = named thread index (take made mine) in
    let long : length events ≡ made = length-map (take made mine) (name_of thread index) ∙ length-take-le made mine within in
    record {
      taken = ap (λ k. take k (events ++ rest)) (sym long) ∙ take-append_seam events rest;
      dropped = ap (λ k. drop k (events ++ rest)) (sym long) ∙ drop-append_seam events rest;
    }

-- events that are named by the spans that cover them name the packet or command of which the span has them
pub shares_named : (thread index at total : ℕ) (mine : List Note) (ss : List EventSpan) → CoverFrom at total ss
    → total ≡ at + length mine → AreNamedFrom index (named_in thread index mine ss) ss
shares_named thread index at total mine [] covers long = refl
shares_named thread index at total mine (s ∷ ss) (here, covers) long =
    let rest : List Numbered = named_in thread (index + 1) (drop s.made mine) ss in
    let all : List Numbered = named thread index (take s.made mine) ++ rest in
    let within : s.made ≤ length mine = omega (arith, long, cover_le (at + s.made) total ss covers) in
    let share : IsShare thread index s.made mine rest all = share_first thread index s.made mine rest within in (
      subst (λ xs. AllByRecursion (λ (n : Numbered). n.index ≡ index) xs) (sym share.taken) (named_each thread index (take s.made mine)),
      subst (λ xs. AreNamedFrom (index + 1) xs ss) (sym share.dropped)
          (shares_named thread (index + 1) (at + s.made) total (drop s.made mine) ss covers
          (omega (arith, long, within, length-drop s.made mine))),
    )

-- the verdicts' spans cover a thread's events
pub verdicts_cover : (tracker : TrackerSetup) (log : List Event) (mine : List Note) (now : Progress) (total : ℕ) (ps : List Given) (vs : List Verdict)
    → VerdictsFit tracker log mine now ps vs → total ≡ now.first + length mine → CoverFrom now.first total (spans_of_verdicts vs)
verdicts_cover tracker log mine now total [] [] fit long = omega (arith, long, ap length fit)
verdicts_cover tracker log mine now total [] (w ∷ vs) fit long = absurd fit
verdicts_cover tracker log mine now total (q ∷ ps) [] fit long = absurd fit
verdicts_cover tracker log mine now total (q ∷ ps) (w ∷ vs) (f, fs) long = (
  f.starts,
  verdicts_cover tracker log (drop w.made mine) (past_packet now mine w) total ps vs fs
      (omega (arith, long, f.within, length-drop w.made mine)),
)

-- the answers' spans cover the script's
pub answers_cover : (run : ScriptRun) (mine : List Note) (now : Progress) (total : ℕ) (cs : List Command) (answers : List Answer)
    → AnswersFit run mine now cs answers → total ≡ now.first + length mine → CoverFrom now.first total (spans_of_answers answers)
answers_cover run mine now total [] [] fit long = omega (arith, long, ap length fit)
answers_cover run mine now total [] (b ∷ answers) fit long = absurd fit
answers_cover run mine now total (d ∷ cs) [] fit long = absurd fit
answers_cover run mine now total (d ∷ cs) (b ∷ answers) (f, fs) long = (
  f.starts,
  answers_cover run (drop b.made mine) (past_command run now mine b) total cs answers fs
      (omega (arith, long, f.within, length-drop b.made mine)),
)
