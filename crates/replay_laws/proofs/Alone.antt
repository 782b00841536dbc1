-- The report of one capture alone: each event is a packet's, and there are no answers.
use Rattle.std.proofs.Common.{◌≡◌, ℕ, ◌+◌, ◌≤◌, Bool, true, false, cond, ◌==◌, List, [], ◌∷◌, refl, ap, subst, sym, ◌∙◌, arith}
use Rattle.std.specs.Prelude.{◌≢◌}
use Rattle.std.specs.List.{AllByRecursion}
use Rattle.std.proofs.lemmas.Bool.{eq-eqb}
use Rattle.room_list.specs.Roomed.{Roomed}
use Rattle.history_book.specs.declared.answer.Answer.{Answer}
use Rattle.history_book.specs.declared.event.Note.{Note}
use Rattle.history_book.specs.declared.event.Numbered.{Numbered}
use Rattle.history_book.specs.declared.report.Report.{Report}
use Rattle.history_book.specs.declared.verdict.Verdict.{Verdict}
use Rattle.history_book.specs.Numbered.{events_of, IsNumberedFrom, notes_of}
use Rattle.packet_path.specs.Packet.{Given}
use Rattle.replay_runs.specs.Report.{AnswersFit, at_start, IsWellFormed, made_by, Progress, run_of, ScriptRun, ThreadsFit, TrackerSetup, VerdictsFit}
use Rattle.replay_laws.specs.OneAnswer.{alone, IsFollowed, OneThreadFollows}
use Rattle.replay_laws.proofs.Follow.{follows_from}
use Rattle.replay_laws.proofs.FrameReacts.{FrameReacts}
use Rattle.replay_laws.proofs.Noted.{noted}

-- a script of no commands has no answers, and made no event
no_answers : (run : ScriptRun) (mine : List Note) (now : Progress) (answers : List Answer) → AnswersFit run mine now [] answers
    → answers ≡ []
no_answers run mine now [] fit = refl
no_answers run mine now (a ∷ rest) fit = absurd fit

no_events : (run : ScriptRun) (mine : List Note) (now : Progress) (answers : List Answer) → AnswersFit run mine now [] answers
    → mine ≡ []
no_events run mine now [] fit = fit
no_events run mine now (a ∷ rest) fit = absurd fit

-- where a thread made no event, each is of another
first_of_other : (thread : ℕ) (x : Numbered) (xs : List Numbered) (b : Bool) → x.thread == thread ≡ b
    → notes_of (cond b (x ∷ xs) xs) ≡ [] → (x.thread ≢ thread) × (notes_of xs ≡ [])
first_of_other thread x xs true is none = absurd (cc)
first_of_other thread x xs false is none = (λ same. differ (sym is ∙ eq-eqb x.thread thread same), none)
  where
    differ : false ≡ true → ⊥
    differ e = absurd (cc e)

made_none : (thread : ℕ) (history : List Numbered) → notes_of (made_by thread history) ≡ []
    → AllByRecursion (λ (n : Numbered). n.thread ≢ thread) history
made_none thread [] none = tt
made_none thread (x ∷ xs) none =
    let parts = first_of_other thread x (made_by thread xs) (x.thread == thread) refl none in
    (parts.0, made_none thread xs parts.1)

all_first : (history : List Numbered) → AllByRecursion (λ (n : Numbered). n.thread ≤ 1) history
    → AllByRecursion (λ (n : Numbered). n.thread ≢ 1) history → AllByRecursion (λ (n : Numbered). n.thread ≡ 0) history
all_first [] owned others = tt
all_first (x ∷ xs) (own, owned) (other, others) = (zero_of x.thread own other, all_first xs owned others)
  where
    zero_of : (t : ℕ) → t ≤ 1 → t ≢ 1 → t ≡ 0
    zero_of t le other = omega (arith, le, other)

-- a thread that made each event made the history
pub made_all : (history : List Numbered) → AllByRecursion (λ (n : Numbered). n.thread ≡ 0) history → made_by 0 history ≡ history
made_all [] h = refl
made_all (x ∷ xs) (h, hs) =
    ap (λ (b : Bool). cond b (x ∷ made_by 0 xs) (made_by 0 xs)) (eq-eqb x.thread 0 h) ∙ ap (λ (ys : List Numbered). x ∷ ys) (made_all xs hs)

notes_numbered : (n : ℕ) (history : List Numbered) → IsNumberedFrom n history → notes_of history ≡ noted n (events_of history)
notes_numbered n [] h = refl
notes_numbered n (x ∷ xs) (h, hs) =
    ap (λ (m : ℕ). record { number = m; event = x.event } ∷ notes_of xs) h
    ∙ ap (λ (ns : List Note). record { number = n; event = x.event } ∷ ns) (notes_numbered (n + 1) xs hs)

-- one capture has one list of verdicts
pub record IsOneThread (tracker : TrackerSetup) (history : List Numbered) (frames : List Given) (threads : List (Roomed Verdict)) : Type 0 where
  pub verdicts : Roomed Verdict
  pub alone : threads ≡ verdicts ∷ []
  pub fit : VerdictsFit tracker (events_of history) (notes_of (made_by 0 history)) at_start frames verdicts.items

one_thread : (tracker : TrackerSetup) (history : List Numbered) (frames : List Given) (threads : List (Roomed Verdict))
    → ThreadsFit tracker history 0 (frames ∷ []) threads → IsOneThread tracker history frames threads
one_thread tracker history frames [] fit = absurd fit
one_thread tracker history frames (vs ∷ []) (fit, rest) = record { verdicts = vs; alone = refl; fit = fit }
one_thread tracker history frames (vs ∷ us ∷ uss) (fit, rest) = absurd rest

module _ (tracker : TrackerSetup) (frames : List Given) (wait : ℕ) (report : Report) (formed : IsWellFormed tracker (alone frames wait) report) where
  -- what the script's thread made
  abbrev script_made : List Note
  script_made = notes_of (made_by 1 report.history.items)

  abbrev script : ScriptRun
  script = run_of (alone frames wait) report.history.items report.threads.items

  pub answers_none : report.answers.items ≡ []
  answers_none = no_answers script script_made at_start report.answers.items formed.answers

  pub threads_zero : AllByRecursion (λ (n : Numbered). n.thread ≡ 0) report.history.items
  threads_zero =
      all_first report.history.items formed.owned
      (made_none 1 report.history.items (no_events script script_made at_start report.answers.items formed.answers))

  pub notes_alone : notes_of (made_by 0 report.history.items) ≡ noted 0 (events_of report.history.items)
  notes_alone =
      ap notes_of (made_all report.history.items threads_zero) ∙ notes_numbered 0 report.history.items formed.numbered

  pub threads_one : IsOneThread tracker report.history.items frames report.threads.items
  threads_one = one_thread tracker report.history.items frames report.threads.items formed.verdicts

  pub followed : FrameReacts → IsFollowed tracker frames report
  followed reacts =
      let one : IsOneThread tracker report.history.items frames report.threads.items = threads_one in
      record {
        verdicts = one.verdicts;
        alone = one.alone;
        follows = follows_from reacts tracker frames one.verdicts.items [] (events_of report.history.items) at_start formed.legal refl refl
            (subst (λ (ns : List Note). VerdictsFit tracker (events_of report.history.items) ns at_start frames one.verdicts.items)
            notes_alone one.fit);
      }

pub follows : FrameReacts → OneThreadFollows
follows reacts tracker frames wait report formed = followed tracker frames wait report formed reacts
