-- What the run of a script has done so far.
use Rattle.std.proofs.Common.{◌≡◌, ℕ, ◌+◌, ◌*◌, ◌-◌, ◌<◌, ◌≤◌, Bool, true, false, ◌==◌, cond, List, [], ◌∷◌, ◌++◌, length, max, take, drop, get_or, refl, sym, ap, subst, ◌∙◌, arith, append_assoc, length-append, length-drop}
use Rattle.std.proofs.lemmas.Bool.{eqb-true}
use Rattle.std.proofs.lemmas.List.{append-nil, drop-append-le, take-append-le, take_more}
use Rattle.std.proofs.Math.Seq.{drop-length, take-length}
use Rattle.room_list.specs.Roomed.{Roomed}
use Rattle.conntrack_cmd.specs.Answer.{FitsCommand}
use Rattle.conntrack_cmd.specs.declared.command.Command.{Command}
use Rattle.conntrack_cmd.specs.Laws.{AnswersStillFit, LowerMarksFit}
use Rattle.conntrack_cmd.specs.Performed.{Performed}
use Rattle.history_book.specs.declared.answer.Answer.{Answer}
use Rattle.history_book.specs.declared.event.Event.{Event}
use Rattle.history_book.specs.declared.event.Note.{Note}
use Rattle.history_book.specs.Mark.{mark_after_command, mark_past}
use Rattle.history_book.specs.Places.{HoldsNothing}
use Rattle.history_book.specs.Point.{StartsWith}
use Rattle.history_book.specs.Sight.{IsKnown, Sight}
use Rattle.history_book.specs.SightLaws.{GoingOnAddsUp}
use Rattle.history_book.specs.WentOn.{WentOn}
use Rattle.replay_runs.specs.Internal.Answered.{Answered, EndsInTime, past_answers}
use Rattle.replay_runs.specs.Run.{run_seen}
use Rattle.replay_runs.specs.Report.{AnswerFits, AnswersFit, mark_before, past_command, Progress, ScriptRun}
use Rattle.replay_runs.proofs.Marks.{mark_past-le, own_below}

-- the script's progress at a number of its events
abbrev pub from_first : (first index mark : ℕ) → Progress
from_first first index mark = record { first = first; index = index; mark = mark }

-- so many of the commands were performed
pub record IsAnswered (commands : List Command) (moment first count : ℕ) (old new : Sight) (before all : Roomed Answer) : Type 0 where
  pub own : List Note
  pub answers : List Answer
  pub behind : all.items ≡ before.items ++ answers
  pub went : WentOn old new own
  pub few : length own ≤ 66560 * count
  pub fit : (wait end index mark : ℕ) → EndsInTime wait end index count (length old.front) → mark ≤ length old.front
      → AnswersFit (run_seen new moment wait end) own (from_first first index mark) (take count commands) answers
  pub mark : (wait end index mark : ℕ) → EndsInTime wait end index count (length old.front) → mark ≤ length old.front
      → (past_answers (run_seen new moment wait end) (from_first first index mark) own answers).mark ≤ length new.front
  pub counted : length answers ≡ count
  pub room : all.room ≡ before.room
  pub held : new.held ≡ []
  pub owed : new.owed ≡ []
  pub known : IsKnown new

cond_le : (b : Bool) (x y n : ℕ) → (b ≡ true → x ≤ n) → y ≤ n → cond b x y ≤ n
cond_le true x y n first second = first refl
cond_le false x y n first second = second

-- the mark before a command stays within a history in which the captures end, where they are to
before_le : (run : ScriptRun) (now : Progress) (n : ℕ) → now.mark ≤ n → ((now.index == run.wait) ≡ true → run.end_of_captures ≤ n)
    → mark_before run now ≤ n
before_le run now n le ends =
    cond_le (now.index == run.wait) (max now.mark run.end_of_captures) now.mark n (λ e. omega (arith, le, ends e)) le

module _ (still : AnswersStillFit) (longer log : List Event) (starts : StartsWith longer log) (moment wait end : ℕ) where
  -- answers fit when the history goes on
  pub answers_stay : (mine : List Note) (now : Progress) (cs : List Command) (answers : List Answer)
      → AnswersFit (record { log = log; moment = moment; wait = wait; end_of_captures = end }) mine now cs answers
      → AnswersFit (record { log = longer; moment = moment; wait = wait; end_of_captures = end }) mine now cs answers
  answers_stay mine now [] [] fit = fit
  answers_stay mine now [] (a ∷ rest) fit = absurd fit
  answers_stay mine now (c ∷ cs) [] fit = absurd fit
  answers_stay mine now (c ∷ cs) (a ∷ rest) (f, fs) =
      let run : ScriptRun = record { log = log; moment = moment; wait = wait; end_of_captures = end } in (
        record {
          starts = f.starts;
          within = f.within;
          timed = f.timed;
          fits = still log longer (mark_before run now) c (take a.made mine) a.said a.from a.to starts f.fits;
        },
        answers_stay (drop a.made mine) (past_command run now mine a) cs rest fs,
      )

  -- the script's progress does not look at the history
  pub same_past : (now : Progress) (mine : List Note) (answers : List Answer)
      → past_answers (record { log = longer; moment = moment; wait = wait; end_of_captures = end }) now mine answers
      ≡ past_answers (record { log = log; moment = moment; wait = wait; end_of_captures = end }) now mine answers
  same_past now mine [] = refl
  same_past now mine (a ∷ answers) =
      same_past (past_command (record { log = log; moment = moment; wait = wait; end_of_captures = end }) now mine a) (drop a.made mine) answers

-- what an answer more needs
pub record NewAnswer (run : ScriptRun) (own : List Note) (now : Progress) (asked : Command) (a : Answer) : Type 0 where
  pub starts : a.first ≡ now.first
  pub made : a.made ≡ length own
  pub timed : a.moment ≡ run.moment
  pub fits : FitsCommand run.log (mark_before run now) asked own a.said a.from a.to

module _ (run : ScriptRun) where
  -- the answer that made all that is left
  last_answer : (own : List Note) (now : Progress) (c : Command) (a : Answer)
      → NewAnswer run own now c a → AnswerFits run own now c a × (drop a.made own ≡ [])
  last_answer own now c a new =
      let same : own ≡ take a.made own = sym (ap (λ n. take n own) new.made ∙ take-length own) in (
        record {
          starts = new.starts;
          within = omega (arith, new.made);
          timed = new.timed;
          fits = subst (λ xs. FitsCommand run.log (mark_before run now) c xs a.said a.from a.to) same new.fits;
        },
        ap (λ n. drop n own) new.made ∙ drop-length own,
      )

  -- an answer fits when the script makes more events
  answer_stays : (mine own : List Note) (now : Progress) (c : Command) (a : Answer)
      → AnswerFits run mine now c a → AnswerFits run (mine ++ own) now c a
  answer_stays mine own now c a f =
      let same : take a.made mine ≡ take a.made (mine ++ own) = sym (take-append-le a.made mine own f.within) in
      record {
        starts = f.starts;
        within = omega (arith, f.within, length-append mine own);
        timed = f.timed;
        fits = subst (λ xs. FitsCommand run.log (mark_before run now) c xs a.said a.from a.to) same f.fits;
      }

  -- how far the script is then does not change by them
  past_stays : (mine own : List Note) (now : Progress) (c : Command) (a : Answer) → AnswerFits run mine now c a
      → past_command run now (mine ++ own) a ≡ past_command run now mine a
  past_stays mine own now c a f =
      ap (λ (xs : List Note). record { first = now.first + a.made; index = now.index + 1; mark = mark_after_command (mark_before run now) xs a })
      (take-append-le a.made mine own f.within)

  -- one answer more
  answers_push : (mine own : List Note) (now : Progress) (cs : List Command) (answers : List Answer) (c : Command) (a : Answer)
      → AnswersFit run mine now cs answers → NewAnswer run own (past_answers run now mine answers) c a
      → AnswersFit run (mine ++ own) now (cs ++ c ∷ []) (answers ++ a ∷ [])
  answers_push mine own now [] [] c a fit new =
      subst (λ xs. AnswersFit run (xs ++ own) now (c ∷ []) (a ∷ [])) (sym fit) (last_answer own now c a new)
  answers_push mine own now [] (b ∷ answers) c a fit new = absurd fit
  answers_push mine own now (d ∷ cs) [] c a fit new = absurd fit
  answers_push mine own now (d ∷ cs) (b ∷ answers) c a (f, fs) new =
      let rest = answers_push (drop b.made mine) own (past_command run now mine b) cs answers c a fs new in
      let dropped : drop b.made mine ++ own ≡ drop b.made (mine ++ own) = sym (drop-append-le b.made mine own f.within) in (
        answer_stays mine own now d b f,
        subst (λ xs. AnswersFit run xs (past_command run now (mine ++ own) b) (cs ++ c ∷ []) (answers ++ a ∷ [])) dropped
            (subst (λ (then : Progress). AnswersFit run (drop b.made mine ++ own) then (cs ++ c ∷ []) (answers ++ a ∷ []))
            (sym (past_stays mine own now d b f)) rest),
      )

  -- the answers to commands and to those behind them
  pub answers_behind : (mine own : List Note) (now : Progress) (cs ds : List Command) (answers more : List Answer)
      → AnswersFit run mine now cs answers → AnswersFit run own (past_answers run now mine answers) ds more
      → AnswersFit run (mine ++ own) now (cs ++ ds) (answers ++ more)
  answers_behind mine own now [] ds [] more fit then = subst (λ xs. AnswersFit run (xs ++ own) now ds more) (sym fit) then
  answers_behind mine own now [] ds (b ∷ answers) more fit then = absurd fit
  answers_behind mine own now (d ∷ cs) ds [] more fit then = absurd fit
  answers_behind mine own now (d ∷ cs) ds (b ∷ answers) more (f, fs) then =
      let rest = answers_behind (drop b.made mine) own (past_command run now mine b) cs ds answers more fs then in
      let dropped : drop b.made mine ++ own ≡ drop b.made (mine ++ own) = sym (drop-append-le b.made mine own f.within) in (
        answer_stays mine own now d b f,
        subst (λ xs. AnswersFit run xs (past_command run now (mine ++ own) b) (cs ++ ds) (answers ++ more)) dropped
            (subst (λ (next : Progress). AnswersFit run (drop b.made mine ++ own) next (cs ++ ds) (answers ++ more))
            (sym (past_stays mine own now d b f)) rest),
      )

  -- there is one answer for each command
  pub one_answer_each : (mine : List Note) (now : Progress) (cs : List Command) (answers : List Answer)
      → AnswersFit run mine now cs answers → length answers ≡ length cs
  one_answer_each mine now [] [] fit = refl
  one_answer_each mine now [] (b ∷ answers) fit = absurd fit
  one_answer_each mine now (d ∷ cs) [] fit = absurd fit
  one_answer_each mine now (d ∷ cs) (b ∷ answers) (f, fs) =
      omega (arith, one_answer_each (drop b.made mine) (past_command run now mine b) cs answers fs)

  -- how far the script is after one answer more
  past_push : (mine own : List Note) (now : Progress) (cs : List Command) (answers : List Answer) (a : Answer)
      → AnswersFit run mine now cs answers
      → past_answers run now (mine ++ own) (answers ++ a ∷ []) ≡ past_command run (past_answers run now mine answers) own a
  past_push mine own now [] [] a fit = ap (λ xs. past_command run now (xs ++ own) a) fit
  past_push mine own now [] (b ∷ answers) a fit = absurd fit
  past_push mine own now (d ∷ cs) [] a fit = absurd fit
  past_push mine own now (d ∷ cs) (b ∷ answers) a (f, fs) =
      ap (λ (then : Progress). past_answers run then (drop b.made (mine ++ own)) (answers ++ a ∷ [])) (past_stays mine own now d b f)
      ∙ ap (λ xs. past_answers run (past_command run now mine b) xs (answers ++ a ∷ [])) (drop-append-le b.made mine own f.within)
      ∙ past_push (drop b.made mine) own (past_command run now mine b) cs answers a fs

  -- it has made all of the events, by as many answers
  pub first_past : (mine : List Note) (now : Progress) (cs : List Command) (answers : List Answer)
      → AnswersFit run mine now cs answers → (past_answers run now mine answers).first ≡ now.first + length mine
  first_past mine now [] [] fit = omega (arith, ap length fit)
  first_past mine now [] (b ∷ answers) fit = absurd fit
  first_past mine now (d ∷ cs) [] fit = absurd fit
  first_past mine now (d ∷ cs) (b ∷ answers) (f, fs) =
      omega (arith, first_past (drop b.made mine) (past_command run now mine b) cs answers fs, length-drop b.made mine, f.within)

  pub index_past : (mine : List Note) (now : Progress) (answers : List Answer)
      → (past_answers run now mine answers).index ≡ now.index + length answers
  index_past mine now [] = omega arith
  index_past mine now (b ∷ answers) = omega (arith, index_past (drop b.made mine) (past_command run now mine b) answers)

-- no command was performed yet
pub answered_start : GoingOnAddsUp → (commands : List Command) (moment first : ℕ) (old : Sight) (before : Roomed Answer) → IsKnown old
    → HoldsNothing old → IsAnswered commands moment first 0 old old before before
answered_start going commands moment first old before known empty = record {
  own = [];
  answers = [];
  behind = sym (append-nil before.items);
  went = (going.resting old).went;
  few = omega arith;
  fit = λ wait end index mark ends seen. refl;
  mark = λ wait end index mark ends seen. seen;
  counted = refl;
  room = refl;
  held = empty.held;
  owed = empty.owed;
  known = known;
}

-- the answer, with its events counted from this index of the desk's own on
abbrev pub counted_from : ℕ → Answer → Answer
counted_from base a = record a { first = a.first - base }

-- `wait` is reached by one command less only where it is by one more
sooner : (wait end index count seen : ℕ) → EndsInTime wait end index (count + 1) seen → EndsInTime wait end index count seen
sooner wait end index count seen ends = λ from before. ends from (omega (arith, before))

module _ (still : AnswersStillFit) (lower : LowerMarksFit) (commands : List Command) (d : Command) (moment first count base : ℕ) (old mid new : Sight)
    (start answers more : Roomed Answer) (a : Answer) (so_far : IsAnswered commands moment first count old mid start answers)
    (performed : Performed (get_or commands count d) moment mid new a) (known : IsKnown new) (counts : length old.own ≡ base + first)
    (wait end index mark : ℕ) (ends : EndsInTime wait end index (count + 1) (length old.front)) (seen : mark ≤ length old.front) where
  here : Progress
  here = past_answers (run_seen new moment wait end) (from_first first index mark) so_far.own so_far.answers

  longer : length mid.front ≤ length new.front
  longer = omega (arith, ap length performed.went.front.1, length-append mid.front performed.went.front.0)

  old_within : length old.front ≤ length mid.front
  old_within = omega (arith, ap length so_far.went.front.1, length-append old.front so_far.went.front.0)

  mark_so_far : here.mark ≤ length mid.front
  unfolding here
  mark_so_far =
      subst (λ (p : Progress). p.mark ≤ length mid.front)
      (sym (same_past still new.front mid.front performed.went.front moment wait end (from_first first index mark) so_far.own so_far.answers))
      (so_far.mark wait end index mark (sooner wait end index count (length old.front) ends) seen)

  mark_here : mark_before (run_seen new moment wait end) here ≤ length mid.front
  unfolding here
  mark_here =
      before_le (run_seen new moment wait end) here (length mid.front) mark_so_far (λ reached.
      let at : index + count ≡ wait =
      omega (
        arith,
        index_past (run_seen new moment wait end) so_far.own (from_first first index mark) so_far.answers,
        so_far.counted,
        eqb-true here.index wait reached,
      ) in
      omega (arith, ends (omega (arith, at)) (omega (arith, at)), old_within))

  stays : AnswersFit (run_seen new moment wait end) so_far.own (from_first first index mark) (take count commands) so_far.answers
  stays =
      answers_stay still new.front mid.front performed.went.front moment wait end so_far.own (from_first first index mark) (take count commands)
      so_far.answers (so_far.fit wait end index mark (sooner wait end index count (length old.front) ends) seen)

  next_mark : (past_answers (run_seen new moment wait end) (from_first first index mark) (so_far.own ++ performed.own)
      (so_far.answers ++ counted_from base a ∷ [])).mark ≤ length new.front
  unfolding here
  next_mark =
      let last : ℕ = length new.front in
      let before : ℕ = mark_before (run_seen new moment wait end) here in
      let all : take a.made performed.own ≡ performed.own = ap (λ n. take n performed.own) performed.made ∙ take-length performed.own in
      rw (past_push (run_seen new moment wait end) so_far.own performed.own (from_first first index mark) (take count commands)
      so_far.answers (counted_from base a) stays)
      (subst (λ xs. mark_after_command before xs (counted_from base a) ≤ last) (sym all)
      (let past : mark_past before performed.own ≤ last =
      mark_past-le last before performed.own (omega (arith, mark_here, longer))
      (own_below new mid.own performed.own known performed.went.own) in
      omega (arith, past, performed.fits.within)))

  next_answer : NewAnswer (run_seen new moment wait end) performed.own here (get_or commands count d) (counted_from base a)
  unfolding here
  next_answer = record {
    starts = omega (
      arith,
      performed.first,
      ap length so_far.went.own,
      length-append old.own so_far.own,
      counts,
      first_past (run_seen new moment wait end) so_far.own (from_first first index mark) (take count commands) so_far.answers stays,
    );
    made = performed.made;
    timed = performed.timed;
    fits = lower new.front (mark_before (run_seen new moment wait end) here)
        (length mid.front) (get_or commands count d) performed.own a.said a.from a.to mark_here performed.fits;
  }

  next_fit : count < length commands
      → AnswersFit (run_seen new moment wait end) (so_far.own ++ performed.own) (from_first first index mark) (take (count + 1) commands)
      (so_far.answers ++ counted_from base a ∷ [])
  unfolding here
  next_fit below =
      subst (λ cs. AnswersFit (run_seen new moment wait end) (so_far.own ++ performed.own) (from_first first index mark) cs
      (so_far.answers ++ counted_from base a ∷ []))
      (sym (take_more commands count d below))
      (answers_push (run_seen new moment wait end) so_far.own performed.own (from_first first index mark) (take count commands) so_far.answers
      (get_or commands count d) (counted_from base a) stays next_answer)

-- one command more was performed
pub answered_next : (going : GoingOnAddsUp) (still : AnswersStillFit) (lower : LowerMarksFit) (commands : List Command) (d : Command)
    (moment first count base : ℕ) (old mid new : Sight) (start answers more : Roomed Answer) (a : Answer)
    (so_far : IsAnswered commands moment first count old mid start answers)
    (performed : Performed (get_or commands count d) moment mid new a) (known : IsKnown new) (counts : length old.own ≡ base + first)
    → count < length commands → old.sizes.entries + old.sizes.expectations ≤ 66560
    → more.items ≡ answers.items ++ counted_from base a ∷ [] → more.room ≡ answers.room
    → IsAnswered commands moment first (count + 1) old new start more
answered_next going still lower commands d moment first count base old mid new start answers more a so_far performed known counts below small items
    room = record {
      own = so_far.own ++ performed.own;
      answers = so_far.answers ++ counted_from base a ∷ [];
      behind = items ∙ ap (λ xs. xs ++ counted_from base a ∷ []) so_far.behind ∙ append_assoc start.items so_far.answers (counted_from base a ∷ []);
      went = going.twice old mid new so_far.own performed.own so_far.went performed.went;
      few = omega (
        arith,
        so_far.few,
        performed.few,
        small,
        ap (λ z. z.entries) so_far.went.pass.sizes,
        ap (λ z. z.expectations) so_far.went.pass.sizes,
        length-append so_far.own performed.own,
      );
      fit = λ wait end index mark ends seen.
          next_fit still lower commands d moment first count base old mid new start answers more a so_far performed known counts wait end index mark
          ends seen below;
      mark = λ wait end index mark ends seen.
          next_mark still lower commands d moment first count base old mid new start answers more a so_far performed known counts wait end index
          mark ends seen;
      counted = length-append so_far.answers (counted_from base a ∷ []) ∙ ap (λ n. n + 1) so_far.counted;
      room = room ∙ so_far.room;
      held = performed.held;
      owed = performed.owed;
      known = known;
    }

-- all commands were performed
pub answered_all : (commands : List Command) (moment first count : ℕ) (old new : Sight) (before all : Roomed Answer)
    → IsAnswered commands moment first count old new before all → count ≡ length commands
    → Answered commands moment first old new before.items all.items
answered_all commands moment first count old new before all done whole = record {
  own = done.own;
  answers = done.answers;
  behind = done.behind;
  went = done.went;
  few = omega (arith, done.few, whole);
  fit = λ wait end index mark ends seen.
      subst (λ cs. AnswersFit (run_seen new moment wait end) done.own (from_first first index mark) cs done.answers)
      (ap (λ n. take n commands) whole ∙ take-length commands)
      (done.fit wait end index mark (subst (λ (n : ℕ). EndsInTime wait end index n (length old.front)) (sym whole) ends) seen);
  mark = λ wait end index mark ends seen.
      done.mark wait end index mark (subst (λ (n : ℕ). EndsInTime wait end index n (length old.front)) (sym whole) ends) seen;
  held = done.held;
  owed = done.owed;
  known = done.known;
}
