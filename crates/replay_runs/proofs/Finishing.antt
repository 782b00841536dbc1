-- What was done when the commands behind `wait` were performed too.
use Rattle.std.proofs.Common.{◌≡◌, ℕ, zero, suc, ◌+◌, ◌^◌, ◌<◌, ◌≤◌, List, [], ◌∷◌, ◌++◌, length, map, take, drop, min, refl, sym, ap, subst, ◌∙◌, arith, length-drop, length-take}
use Rattle.std.specs.Prelude.{All, Option}
use Rattle.std.specs.List.{sum_by}
use Rattle.std.proofs.lemmas.List.Sums.{sum_by-cons}
use Rattle.std.proofs.Math.Seq.{take-append_seam}
use Rattle.std.proofs.lemmas.List.{length-map, take-append-drop}
use Rattle.std.proofs.lemmas.List.Elements.{All-drop, All-same, All-take}
use Rattle.room_list.specs.Roomed.{Roomed}
use Rattle.conntrack_cmd.specs.declared.command.Command.{Command}
use Rattle.conntrack_cmd.specs.declared.read.Script.{Script}
use Rattle.conntrack_cmd.specs.Laws.{AnswersStillFit}
use Rattle.conntrack_cmd.specs.Moment.{moment_of}
use Rattle.history_book.specs.declared.answer.Answer.{Answer}
use Rattle.history_book.specs.declared.event.Event.{Event}
use Rattle.history_book.specs.declared.event.Note.{Note}
use Rattle.history_book.specs.declared.sizes.Sizes.{Sizes}
use Rattle.history_book.specs.declared.verdict.Verdict.{Verdict}
use Rattle.history_book.specs.Fresh.{IsFresh}
use Rattle.history_book.specs.Point.{StartsWith}
use Rattle.history_book.specs.Sight.{IsKnown, Sight}
use Rattle.history_book.specs.Sizes.{AreWithinLimits}
use Rattle.packet_path.specs.Laws.{VerdictsStillFit}
use Rattle.packet_path.specs.Packet.{Given}
use Rattle.packet_headers.specs.declared.frame.Capture.{Capture}
use Rattle.replay_runs.specs.declared.desks.Joined.{Joined}
use Rattle.replay_runs.specs.declared.shared.Shared.{Shared}
use Rattle.replay_runs.specs.declared.listened.Listened.{Listened}
use Rattle.replay_runs.specs.Internal.Answered.{Answered, CanPerform, past_answers}
use Rattle.replay_runs.specs.Internal.Jobs.{CanBeReplayed}
use Rattle.replay_runs.specs.Internal.Replayed.{given_frames}
use Rattle.replay_runs.specs.Heard.{AreHeard, made_before}
use Rattle.replay_runs.specs.Internal.Together.{HasRun, lists_with}
use Rattle.replay_runs.specs.Replaying.{work_of}
use Rattle.replay_runs.specs.Report.{AnswersFit, at_start, latest_of, past_command, Progress, ScriptRun, TrackerSetup}
use Rattle.replay_runs.specs.Run.{AreThreads, IsRun, items_of, run_seen}
use Rattle.replay_runs.proofs.Bounds.{given_few, latest_of_within}
use Rattle.replay_runs.proofs.Replays.{notes_still_fit}
use Rattle.replay_runs.proofs.Scripts.{answers_behind, answers_stay, first_past, from_first, index_past, one_answer_each, same_past}

-- what the threads made of a history is the same of one that goes on
threads_still : (still : VerdictsStillFit) (tracker : TrackerSetup) (longer log : List Event) (starts : StartsWith longer log) (end : ℕ)
    (gss : List (List Given)) (vss : List (Roomed Verdict)) (lists : List (Roomed Note))
    → AreThreads tracker log end gss vss lists → AreThreads tracker longer end gss vss lists
threads_still still tracker longer log starts end [] [] [] threads = tt
threads_still still tracker longer log starts end [] [] (l ∷ lists) threads = absurd threads
threads_still still tracker longer log starts end [] (w ∷ vss) lists threads = absurd threads
threads_still still tracker longer log starts end (gs ∷ gss) [] lists threads = absurd threads
threads_still still tracker longer log starts end (gs ∷ gss) (w ∷ vss) [] threads = absurd threads
threads_still still tracker longer log starts end (gs ∷ gss) (w ∷ vss) (l ∷ lists) (thread, threads) = (
  record {
    fit = notes_still_fit still tracker longer log starts l.items at_start gs w.items thread.fit;
    mark = thread.mark;
    ordered = thread.ordered;
  },
  threads_still still tracker longer log starts end gss vss lists threads,
)

-- the first items of a list, behind which others stand only where they are as many as are taken
take_until : {X : Type 0} (k : ℕ) (xs ys : List X) → length xs ≤ k → (length xs < k → ys ≡ []) → take k (xs ++ ys) ≡ xs
take_until zero [] ys le none = refl
take_until (suc k) [] ys le none = ap (take (suc k)) (none (omega arith))
take_until zero (x ∷ xs) ys le none = absurd (omega (arith, le))
take_until (suc k) (x ∷ xs) ys le none = ap (λ zs. x ∷ zs) (take_until k xs ys (omega (arith, le)) (λ less. none (omega (arith, less))))

empty : {X : Type 0} (xs : List X) → length xs ≡ 0 → xs ≡ []
empty [] none = refl
empty (x ∷ xs) none = absurd (omega (arith, none))

-- the answers to commands made all of these events
sum_made : (run : ScriptRun) (mine : List Note) (now : Progress) (cs : List Command) (answers : List Answer) → AnswersFit run mine now cs answers
    → sum_by (λ (a : Answer). a.made) answers ≡ length mine
sum_made run mine now [] [] fit = sym (ap length fit)
sum_made run mine now [] (b ∷ answers) fit = absurd fit
sum_made run mine now (d ∷ cs) [] fit = absurd fit
sum_made run mine now (d ∷ cs) (b ∷ answers) (f, fs) =
    sum_by-cons (λ (a : Answer). a.made) b answers
    ∙ ap (λ (n : ℕ). b.made + n) (sum_made run (drop b.made mine) (past_command run now mine b) cs answers fs)
    ∙ omega (arith, length-drop b.made mine, f.within)

module _ {G : Type 0} (still : VerdictsStillFit) (answers_still : AnswersStillFit) (shared : Shared G) (captures : List Capture) (script : Script)
    (old mid new : Sight) (joined : Joined) (before behind : List Command) (firsts : List Answer) (all : Roomed Answer) (n : ℕ)
    (fresh : IsFresh old.tracker old.sizes old) (run : HasRun shared.setup.now shared.moment captures before old mid joined firsts)
    (answered : Answered behind shared.moment (length mid.own) mid new firsts all.items)
    (count : n ≡ min (length script.commands.items) script.wait) (front : before ≡ take n script.commands.items)
    (back : behind ≡ drop n script.commands.items) where
  before_wait : length before ≤ script.wait
  before_wait = omega (arith, count, ap length front, length-take n script.commands.items)

  whole : before ++ behind ≡ script.commands.items
  whole = ap (λ cs. cs ++ behind) front ∙ ap (λ cs. take n script.commands.items ++ cs) back ∙ take-append-drop n script.commands.items

  module _ (end : ℕ) where
    past : Progress
    past = past_answers (run_seen new shared.moment script.wait end) at_start mid.own firsts

    first_fit : AnswersFit (run_seen new shared.moment script.wait end) mid.own at_start before firsts
    first_fit =
        answers_stay answers_still new.front mid.front answered.went.front shared.moment script.wait end mid.own at_start before firsts
        (run.fit script.wait end before_wait)

    past_mark : past.mark ≤ length mid.front
    unfolding past
    past_mark =
        omega (
          arith,
          run.mark script.wait end before_wait,
          ap (λ (p : Progress). p.mark)
              (same_past answers_still new.front mid.front answered.went.front shared.moment script.wait end at_start mid.own firsts),
        )

    past_is : from_first (length mid.own) (length before) past.mark ≡ past
    unfolding past
    past_is = λ i. record {
      first = first_is i;
      index = index_is i;
      mark = past.mark;
    }
      where
        first_is : length mid.own ≡ past.first
        first_is =
            omega (arith, first_past (run_seen new shared.moment script.wait end) mid.own at_start before firsts first_fit)

        index_is : length before ≡ past.index
        index_is =
            omega (
              arith,
              index_past (run_seen new shared.moment script.wait end) mid.own at_start firsts,
              one_answer_each (run_seen new shared.moment script.wait end) mid.own at_start before firsts first_fit,
            )

    all_fit : end ≤ length mid.front → AnswersFit (run_seen new shared.moment script.wait end) new.own at_start script.commands.items all.items
    unfolding past
    all_fit within =
        subst (λ xs. AnswersFit (run_seen new shared.moment script.wait end) xs at_start script.commands.items all.items) (sym answered.went.own)
        (subst (λ ys. AnswersFit (run_seen new shared.moment script.wait end) (mid.own ++ answered.own) at_start script.commands.items ys)
        (sym answered.behind)
        (subst (λ cs. AnswersFit (run_seen new shared.moment script.wait end) (mid.own ++ answered.own) at_start cs (firsts ++ answered.answers)) whole
        (answers_behind (run_seen new shared.moment script.wait end) mid.own answered.own at_start before behind firsts answered.answers first_fit
        (subst (λ (p : Progress). AnswersFit (run_seen new shared.moment script.wait end) answered.own p behind answered.answers) past_is
        (answered.fit script.wait end (length before) past.mark (λ from below. within) past_mark)))))

  -- the events that the script had made when all joined are those of its commands before `wait`
  first_made : take (made_before script.wait all.items) new.own ≡ mid.own
  first_made =
      let one : length firsts ≡ length before =
      one_answer_each (run_seen mid shared.moment script.wait 0) mid.own at_start before firsts (run.fit script.wait 0 before_wait) in
      let behind_one : length answered.answers ≡ length behind =
      one_answer_each (run_seen new shared.moment 0 0) answered.own (from_first (length mid.own) 0 0) behind answered.answers
      (answered.fit 0 0 0 0 (λ from below. omega arith) (omega arith)) in
      let are : take script.wait all.items ≡ firsts =
      ap (take script.wait) answered.behind
      ∙ take_until script.wait firsts answered.answers (omega (arith, one, before_wait)) (λ less. empty answered.answers (omega (
        arith,
        behind_one,
        one,
        less,
        count,
        ap length front,
        length-take n script.commands.items,
        ap length back,
        length-drop n script.commands.items,
      ))) in
      let long : made_before script.wait all.items ≡ length mid.own =
      ap (λ (given : List Answer). sum_by (λ (a : Answer). a.made) given) are
      ∙ sum_made (run_seen mid shared.moment script.wait 0) mid.own at_start before firsts (run.fit script.wait 0 before_wait) in
      ap (λ (k : ℕ). take k new.own) long ∙ ap (take (length mid.own)) answered.went.own ∙ take-append_seam mid.own answered.own

  -- all of the work was done
  pub run_done : (heard : Option Listened) → AreHeard (lists_with joined mid.own) heard → shared.moment ≡ latest_of 0 (map given_frames captures) → old.sizes.passes ≡ length captures + 1
      → length captures ≤ 63 → All CanBeReplayed captures → length script.commands.items ≤ 256
      → IsRun (record { setup = shared.setup.now; sizes = old.sizes }) (work_of captures script) old.tracker
      (record { desk = new; joined = joined; answers = all; heard = heard })
  run_done heard told moment passes threads can short = record {
    few = record {
      captures = omega (arith, threads, length-map captures given_frames);
      packets = given_few captures can;
      commands = omega (arith, short);
    };
    tracked = answered.went.pass.tracker ∙ ap (λ (s : Sight). s.tracker) run.kept;
    sized = answered.went.pass.sizes ∙ ap (λ (s : Sight). s.sizes) run.kept;
    empty = record { held = answered.held; owed = answered.owed };
    whole = omega (
      arith,
      passes,
      answered.went.pass.shares,
      answered.went.pass.returned,
      ap (λ (s : Sight). s.shares) run.kept,
      ap (λ (s : Sight). s.returned) run.kept,
    );
    known = answered.known;
    gathered = answered.went.pass.gathered ∙ ap (λ (s : Sight). s.gathered) run.kept;
    end = length mid.front;
    threads = threads_still still (record { setup = shared.setup.now; sizes = old.sizes }) new.front mid.front answered.went.front
        (length mid.front) (map given_frames captures) joined.threads.items joined.lists.items run.threads;
    fit = λ e within.
        subst (λ (m : ℕ). AnswersFit (run_seen new m script.wait e) new.own at_start script.commands.items all.items) moment (all_fit e within);
    heard = subst (λ (own : List Note). AreHeard (items_of joined.lists.items ++ own ∷ []) heard) (sym first_made) told;
  }

-- what every desk of a tracker within the limits has room for
small_sizes : (sizes : Sizes) → AreWithinLimits sizes → sizes.entries + sizes.expectations ≤ 66560
small_sizes sizes limits = omega (arith, limits.entries, limits.expectations)

-- the first desk can perform the commands before `wait`
pub first_can : (captures : List Capture) (commands before : List Command) (moment n : ℕ) (old : Sight) → AreWithinLimits old.sizes
    → IsFresh old.tracker old.sizes old → IsKnown old → moment ≡ latest_of 0 (map given_frames captures) → All CanBeReplayed captures
    → length commands ≤ 256 → All (λ c. moment_of c ≤ 10 ^ 16) commands → before ≡ take n commands → CanPerform before moment 0 old
first_can captures commands before moment n old limits fresh known is can short named front = record {
  timely = omega (arith, is, latest_of_within captures 0 (omega arith) can);
  named = All-same (λ c. moment_of c ≤ 10 ^ 16) before (take n commands) front (All-take (λ c. moment_of c ≤ 10 ^ 16) n commands named);
  small = small_sizes old.sizes limits;
  made = omega arith;
  few = omega (arith, ap length fresh.own, short, ap length front, length-take n commands);
  empty = record { held = fresh.held; owed = fresh.owed };
  known = known;
}

module _ {G : Type 0} (shared : Shared G) (captures : List Capture) (commands before behind : List Command) (n : ℕ) (old mid : Sight)
    (joined : Joined) (firsts : Roomed Answer) (run : HasRun shared.setup.now shared.moment captures before old mid joined firsts.items)
    (can : CanPerform before shared.moment 0 old) (short : length commands ≤ 256) (front : before ≡ take n commands)
    (back : behind ≡ drop n commands) where
  -- and the others when all desks have joined it
  pub then_can : (made : ℕ) → made ≡ length mid.own → All (λ c. moment_of c ≤ 10 ^ 16) commands → CanPerform behind shared.moment made mid
  then_can made own named = record {
    timely = can.timely;
    named = All-same (λ c. moment_of c ≤ 10 ^ 16) behind (drop n commands) back (All-drop (λ c. moment_of c ≤ 10 ^ 16) n commands named);
    small = subst (λ (z : Sizes). z.entries + z.expectations ≤ 66560) (sym (ap (λ (s : Sight). s.sizes) run.kept)) can.small;
    made = omega (arith, own);
    few = omega (
      arith,
      short,
      run.few,
      ap length front,
      ap length back,
      length-take n commands,
      length-drop n commands,
    );
    empty = record {
      held = ap (λ (s : Sight). s.held) run.kept ∙ can.empty.held;
      owed = ap (λ (s : Sight). s.owed) run.kept ∙ can.empty.owed;
    };
    known = run.known;
  }

  -- there is room for their answers
  pub then_room : length commands ≤ firsts.room → length firsts.items + length behind ≤ firsts.room
  then_room room =
      omega (
        arith,
        room,
        ap length front,
        ap length back,
        length-take n commands,
        length-drop n commands,
        one_answer_each (run_seen mid shared.moment (length before) 0) mid.own at_start before firsts.items
            (run.fit (length before) 0 (omega arith)),
      )
