-- What the threads have done up to the script's line `wait`.
use Rattle.std.proofs.Common.{◌≡◌, ℕ, ◌<◌, ◌≤◌, List, [], ◌∷◌, ◌++◌, length, map, take, drop, refl, sym, ap, subst, ◌∙◌, arith, length-append}
use Rattle.std.specs.List.{AllByRecursion, AllZip}
use Rattle.std.specs.Prelude.{Err, IfOk, Ok, OnErr, OnOk, Result}
use Rattle.std.proofs.Math.Seq.{take-append_seam}
use Rattle.room_list.specs.Roomed.{Roomed}
use Rattle.conntrack_cmd.specs.declared.command.Command.{Command}
use Rattle.conntrack_cmd.specs.Laws.{AnswersStillFit}
use Rattle.history_book.specs.declared.answer.Answer.{Answer}
use Rattle.history_book.specs.declared.event.Event.{Event}
use Rattle.history_book.specs.declared.event.Note.{Note}
use Rattle.history_book.specs.declared.sizes.Sizes.{Sizes}
use Rattle.history_book.specs.declared.verdict.Verdict.{Verdict}
use Rattle.history_book.specs.Fresh.{IsFresh}
use Rattle.history_book.specs.Merge.{all_notes}
use Rattle.history_book.specs.Point.{StartsWith}
use Rattle.history_book.specs.Sight.{Sight}
use Rattle.history_book.specs.WentOn.{IsSamePass}
use Rattle.packet_path.specs.declared.setup.Setup.{Setup}
use Rattle.packet_path.specs.Laws.{VerdictsStillFit}
use Rattle.packet_headers.specs.declared.frame.Capture.{Capture}
use Rattle.replay_runs.specs.declared.desks.Joined.{Joined}
use Rattle.replay_runs.specs.declared.jobs.Job.{Job}
use Rattle.replay_runs.specs.declared.shared.Shared.{Shared}
use Rattle.replay_runs.specs.Internal.Answered.{Answered, past_answers}
use Rattle.replay_runs.specs.Internal.Jobs.{AllRan, AreFurther, HasJoined, HasSplit, IsFurther, IsSet}
use Rattle.replay_runs.specs.Internal.Replayed.{given_frames, Replayed, tracker_with}
use Rattle.replay_runs.specs.Internal.Stopped.{Stopped}
use Rattle.replay_runs.specs.Internal.Together.{HasRun}
use Rattle.replay_runs.specs.Report.{AnswersFit, at_start, past_verdicts, Progress, VerdictsFit}
use Rattle.replay_runs.specs.Run.{AreThreads, IsThread, items_of, run_seen}
use Rattle.replay_runs.proofs.Each.{each_weaker}
use Rattle.replay_runs.proofs.Marks.{NumbersBelow, own_within}
use Rattle.replay_runs.proofs.Replays.{notes_still_fit}
use Rattle.replay_runs.proofs.Scripts.{answers_stay, same_past}

-- a thread ended in one way or the other
ended_so : {A B E C : Type 0} (r : Result (Unit {0}) E) → OnOk r A → OnErr r B → (A → C) → (B → C) → C
ended_so (Ok tt) a b f g = f a
ended_so (Err e) a b f g = g b

-- a desk that went on in the same pass, and keeps no place, is a further one as before
stays_further : (tracker : List ℕ) (sizes : Sizes) (old new : Sight) → IsFurther tracker sizes old → IsSamePass old new → new.held ≡ []
    → new.owed ≡ [] → IsFurther tracker sizes new
stays_further tracker sizes old new further pass held owed = record {
  tracked = pass.tracker ∙ further.tracked;
  sized = pass.sizes ∙ further.sized;
  shares = pass.shares ∙ further.shares;
  returned = pass.returned ∙ further.returned;
  gathered = pass.gathered ∙ further.gathered;
  empty = record { held = held; owed = owed };
}

-- the desks of threads that ran are further ones
pub ran_further : {D : Type 0} (sight : D → Sight) (tracker : List ℕ) (sizes : Sizes) (setup : Setup) (cs : List Capture) (os ns : List (Job D))
    → AreFurther sight tracker sizes os → AllRan sight setup cs os ns → AreFurther sight tracker sizes ns
ran_further sight tracker sizes setup [] [] [] further ran = tt
ran_further sight tracker sizes setup [] [] (n ∷ ns) further ran = absurd ran
ran_further sight tracker sizes setup [] (o ∷ os) ns further ran = absurd ran
ran_further sight tracker sizes setup (c ∷ cs) [] ns further ran = absurd ran
ran_further sight tracker sizes setup (c ∷ cs) (o ∷ os) [] further ran = absurd ran
ran_further sight tracker sizes setup (c ∷ cs) (o ∷ os) (n ∷ ns) (f, further) (r, ran) = (
  ended_so n.ended r.replayed r.stopped
      (λ (h : Replayed setup (given_frames c) (sight o.desk) (sight n.desk) n.verdicts.items). stays_further tracker sizes (sight o.desk) (sight n.desk) f h.went.pass h.held h.owed)
      (λ (h : Stopped (sight o.desk) (sight n.desk)). stays_further tracker sizes (sight o.desk) (sight n.desk) f h.went.pass h.held h.owed),
  ran_further sight tracker sizes setup cs os ns further ran,
)

-- a longer history is no shorter
pub starts_long : (longer log : List Event) → StartsWith longer log → length log ≤ length longer
starts_long longer log (rest, is) = omega (arith, ap length is, length-append log rest)

module _ {D : Type 0} (sight : D → Sight) (still : VerdictsStillFit) (setup : Setup) (sizes : Sizes) (front : List Event) where
  -- what the thread of a capture made of the history
  thread_made : (tracker : List ℕ) (c : Capture) (o n : Job D) (vs : Roomed Verdict) (notes : List Note) → IsSet sight c o
      → IsFurther tracker sizes (sight o.desk) → Replayed setup (given_frames c) (sight o.desk) (sight n.desk) n.verdicts.items → StartsWith front (sight n.desk).front
      → vs ≡ n.verdicts → notes ≡ (sight n.desk).own
      → IsThread (record { setup = setup; sizes = sizes }) front (length front) (given_frames c) vs.items notes
  thread_made tracker c o n vs notes set further replayed starts is_verdicts is_notes =
      let own : (sight n.desk).own ≡ replayed.own = replayed.went.own ∙ ap (λ xs. xs ++ replayed.own) set.own in
      let long = starts_long front (sight n.desk).front starts in
      record {
        fit = subst (λ (ws : Roomed Verdict). VerdictsFit (record { setup = setup; sizes = sizes }) front notes at_start (given_frames c) ws.items)
            (sym is_verdicts)
            (subst (λ xs. VerdictsFit (record { setup = setup; sizes = sizes }) front xs at_start (given_frames c) n.verdicts.items)
            (sym own ∙ sym is_notes)
            (subst (λ (z : Sizes). VerdictsFit (record { setup = setup; sizes = z }) front replayed.own at_start (given_frames c) n.verdicts.items)
            further.sized
            (notes_still_fit still (tracker_with setup (sight o.desk)) front (sight n.desk).front starts replayed.own at_start (given_frames c)
            n.verdicts.items replayed.fit)));
        mark = subst (λ (ws : Roomed Verdict). (past_verdicts at_start notes ws.items).mark ≤ length front) (sym is_verdicts)
            (subst (λ xs. (past_verdicts at_start xs n.verdicts.items).mark ≤ length front) (sym own ∙ sym is_notes)
            (omega (arith, replayed.mark, long)));
        ordered = rw is_notes replayed.known.ordered;
      }

  -- and those of several
  threads_made : (tracker : List ℕ) (cs : List Capture) (os ns : List (Job D)) (vss : List (Roomed Verdict)) (lists : List (Roomed Note))
      → AllZip (IsSet sight) cs os → AreFurther sight tracker sizes os → AllRan sight setup cs os ns
      → AllByRecursion (λ (j : Job D). j.ended ≡ Ok tt) ns → AllByRecursion (λ (j : Job D). StartsWith front (sight j.desk).front) ns
      → vss ≡ map (λ (j : Job D). j.verdicts) ns → items_of lists ≡ map (λ (j : Job D). (sight j.desk).own) ns
      → AreThreads (record { setup = setup; sizes = sizes }) front (length front) (map given_frames cs) vss lists
  threads_made tracker [] [] [] [] [] set further ran ended starts verdicts notes = tt
  threads_made tracker [] [] [] [] (l ∷ lists) set further ran ended starts verdicts notes = absurd (cc notes)
  threads_made tracker [] [] [] (vs ∷ vss) lists set further ran ended starts verdicts notes = absurd (cc verdicts)
  threads_made tracker [] [] (n ∷ ns) vss lists set further ran ended starts verdicts notes = absurd ran
  threads_made tracker [] (o ∷ os) ns vss lists set further ran ended starts verdicts notes = absurd ran
  threads_made tracker (c ∷ cs) [] ns vss lists set further ran ended starts verdicts notes = absurd ran
  threads_made tracker (c ∷ cs) (o ∷ os) [] vss lists set further ran ended starts verdicts notes = absurd ran
  threads_made tracker (c ∷ cs) (o ∷ os) (n ∷ ns) [] lists set further ran ended starts verdicts notes = absurd (cc verdicts)
  threads_made tracker (c ∷ cs) (o ∷ os) (n ∷ ns) (vs ∷ vss) [] set further ran ended starts verdicts notes = absurd (cc notes)
  threads_made tracker (c ∷ cs) (o ∷ os) (n ∷ ns) (vs ∷ vss) (l ∷ lists) (s, set) (f, further) (r, ran) (e, ended) (st, starts) verdicts notes =
      let replayed : Replayed setup (given_frames c) (sight o.desk) (sight n.desk) n.verdicts.items =
      subst (λ x. OnOk x (Replayed setup (given_frames c) (sight o.desk) (sight n.desk) n.verdicts.items)) e r.replayed in (
        thread_made tracker c o n vs l.items s f replayed st (cc verdicts) (cc notes),
        threads_made tracker cs os ns vss lists set further ran ended starts (cc verdicts) (cc notes),
      )

-- there are as many threads as captures
pub ran_long : {D : Type 0} (sight : D → Sight) (setup : Setup) (cs : List Capture) (os ns : List (Job D)) → AllRan sight setup cs os ns → length ns ≡ length cs
ran_long sight setup [] [] [] ran = refl
ran_long sight setup [] [] (n ∷ ns) ran = absurd ran
ran_long sight setup [] (o ∷ os) ns ran = absurd ran
ran_long sight setup (c ∷ cs) [] ns ran = absurd ran
ran_long sight setup (c ∷ cs) (o ∷ os) [] ran = absurd ran
ran_long sight setup (c ∷ cs) (o ∷ os) (n ∷ ns) (r, ran) = omega (arith, ran_long sight setup cs os ns ran)

-- a whole list that was written over
pub written : {X : Type 0} (n : ℕ) (xs ys : List X) → length xs ≡ n → take n (xs ++ drop (length xs) ys) ≡ xs
written n xs ys long = ap (λ k. take k (xs ++ drop (length xs) ys)) (sym long) ∙ take-append_seam xs (drop (length xs) ys)

-- the desks of threads that ran can join the one that they were split off from
pub further_now : {D : Type 0} (sight : D → Sight) (setup : Setup) (captures : List Capture) (commands : List Command) (moment : ℕ) (old split ran : Sight)
    (jobs done written : List (Job D)) (none all : List Answer) → HasSplit sight captures old split jobs → AllRan sight setup captures jobs done
    → Answered commands moment 0 split ran none all → written ≡ done → AreFurther sight ran.tracker ran.sizes written
further_now sight setup captures commands moment old split ran jobs done over none all has_split have_run answered same =
    rw (
      same,
      answered.went.pass.tracker ∙ ap (λ (s : Sight). s.tracker) has_split.kept,
      answered.went.pass.sizes ∙ ap (λ (s : Sight). s.sizes) has_split.kept,
    )
    (ran_further sight old.tracker old.sizes setup captures jobs done has_split.further have_run)

module _ {D G : Type 0} (sight : D → Sight) (still : VerdictsStillFit) (answers_still : AnswersStillFit) (shared : Shared G) (captures : List Capture)
    (commands : List Command) (old split ran new : Sight) (jobs done : List (Job D)) (joined : Joined) (none all : List Answer)
    (fresh : IsFresh old.tracker old.sizes old) (has_split : HasSplit sight captures old split jobs)
    (have_run : AllRan sight shared.setup.now captures jobs done) (answered : Answered commands shared.moment 0 split ran none all)
    (has_joined : HasJoined sight done ran new joined.lists.items joined.threads.items) where
  own_is : new.own ≡ answered.own
  own_is =
      ap (λ (s : Sight). s.own) has_joined.kept ∙ answered.went.own
      ∙ ap (λ xs. xs ++ answered.own) (ap (λ (s : Sight). s.own) has_split.kept ∙ fresh.own)

  seen : length ran.front ≤ length new.front
  seen = starts_long new.front ran.front has_joined.front

  answers_are : none ≡ [] → all ≡ answered.answers
  answers_are empty = answered.behind ∙ ap (λ xs. xs ++ answered.answers) empty

  kept_is : new ≡ record old {
    front = new.front;
    own = new.own;
    spare = new.spare;
    shares = 1;
    returned = length captures;
    gathered = all_notes joined.lists.items;
    taken = new.taken;
  }
  kept_is = λ i. record {
    front = new.front;
    own = new.own;
    held = (ap (λ (s : Sight). s.held) has_joined.kept ∙ answered.held ∙ sym fresh.held) i;
    owed = (ap (λ (s : Sight). s.owed) has_joined.kept ∙ answered.owed ∙ sym fresh.owed) i;
    spare = new.spare;
    tracker = (ap (λ (s : Sight). s.tracker) has_joined.kept ∙ answered.went.pass.tracker ∙ ap (λ (s : Sight). s.tracker) has_split.kept) i;
    sizes = (ap (λ (s : Sight). s.sizes) has_joined.kept ∙ answered.went.pass.sizes ∙ ap (λ (s : Sight). s.sizes) has_split.kept) i;
    shares = (ap (λ (s : Sight). s.shares) has_joined.kept ∙ answered.went.pass.shares ∙ ap (λ (s : Sight). s.shares) has_split.kept) i;
    returned = returned_is i;
    gathered = (ap (λ (s : Sight). s.gathered) has_joined.kept
        ∙ ap (λ xs. xs ++ all_notes joined.lists.items)
        (answered.went.pass.gathered ∙ ap (λ (s : Sight). s.gathered) has_split.kept ∙ fresh.gathered)) i;
    taken = new.taken;
  }
    where
      returned_is : new.returned ≡ length captures
      returned_is =
          omega (
            arith,
            ap (λ (s : Sight). s.returned) has_joined.kept,
            answered.went.pass.returned,
            ap (λ (s : Sight). s.returned) has_split.kept,
            fresh.returned,
            ran_long sight shared.setup.now captures jobs done have_run,
          )

  pub run_together : none ≡ [] → HasRun shared.setup.now shared.moment captures commands old new joined all
  run_together empty = record {
    kept = kept_is;
    known = has_joined.known;
    threads = threads_made sight still shared.setup.now old.sizes new.front old.tracker captures jobs done joined.threads.items joined.lists.items
        has_split.set has_split.further have_run has_joined.ended has_joined.fronts has_joined.verdicts has_joined.notes;
    few = omega (arith, ap length own_is, answered.few);
    fit = λ wait end before.
        subst (λ ys. AnswersFit (run_seen new shared.moment wait end) new.own at_start commands ys) (sym (answers_are empty))
        (subst (λ xs. AnswersFit (run_seen new shared.moment wait end) xs at_start commands answered.answers) (sym own_is)
        (answers_stay answers_still new.front ran.front has_joined.front shared.moment wait end answered.own at_start commands answered.answers
        (answered.fit wait end 0 0 (λ from within. absurd (omega (arith, before, within))) (omega arith))));
    mark = λ wait end before.
        let same = same_past answers_still new.front ran.front has_joined.front shared.moment wait end at_start answered.own answered.answers in
        let mark = answered.mark wait end 0 0 (λ from within. absurd (omega (arith, before, within))) (omega arith) in
        subst (λ ys. (past_answers (run_seen new shared.moment wait end) at_start new.own ys).mark ≤ length new.front) (sym (answers_are empty))
        (subst (λ xs. (past_answers (run_seen new shared.moment wait end) at_start xs answered.answers).mark ≤ length new.front) (sym own_is)
        (omega (arith, seen, mark, ap (λ (p : Progress). p.mark) same)));
  }

-- where the desks could be joined
pub run_so : {D G E : Type 0} (sight : D → Sight) (still : VerdictsStillFit) (answers_still : AnswersStillFit) (shared : Shared G) (captures : List Capture)
    (commands : List Command) (old split ran new : Sight) (jobs done over : List (Job D)) (none all : List Answer) (result : Result Joined E)
    → IsFresh old.tracker old.sizes old → HasSplit sight captures old split jobs → AllRan sight shared.setup.now captures jobs done
    → Answered commands shared.moment 0 split ran none all → over ≡ done → none ≡ []
    → IfOk result (λ joined. HasJoined sight over ran new joined.lists.items joined.threads.items)
    → IfOk result (λ joined. HasRun shared.setup.now shared.moment captures commands old new joined all)
run_so {D} sight still answers_still shared captures commands old split ran new jobs done over none all (Ok joined) fresh has_split have_run answered same empty
    has_joined =
    run_together sight still answers_still shared captures commands old split ran new jobs done joined none all fresh has_split have_run answered
    (subst (λ (js : List (Job D)). HasJoined sight js ran new joined.lists.items joined.threads.items) same has_joined) empty
run_so {D} sight still answers_still shared captures commands old split ran new jobs done over none all (Err e) fresh has_split have_run answered same empty
    has_joined = tt
