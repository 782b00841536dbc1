-- The work up to `wait`, with the ends of a line that is there or not.
use Rattle.std.proofs.Common.{◌≡◌, ℕ, ◌+◌, ◌≤◌, List, [], ◌∷◌, ◌++◌, length, map, refl, sym, ap, subst, ◌∙◌, arith}
use Rattle.std.specs.Prelude.{MatchOption, Ok, Option}
use Rattle.std.specs.List.{AllByRecursion, AllZip}
use Rattle.std.specs.Option.{option_to_list}
use Rattle.std.proofs.lemmas.Slice.Zip.{AllZip-long}
use Rattle.packet_headers.specs.declared.frame.Capture.{Capture}
use Rattle.conntrack_cmd.specs.declared.command.Command.{Command}
use Rattle.event_listen.specs.Line.{EarSight, SendingSight}
use Rattle.history_book.specs.declared.event.Note.{Note}
use Rattle.history_book.specs.declared.sizes.Sizes.{Sizes}
use Rattle.history_book.specs.Fresh.{IsFresh}
use Rattle.history_book.specs.Sight.{Sight}
use Rattle.nat_setup.specs.Rule.{IsLawfulRule}
use Rattle.replay_runs.specs.declared.desks.Joined.{Joined}
use Rattle.replay_runs.specs.declared.jobs.Job.{Job}
use Rattle.replay_runs.specs.declared.script_run.ScriptThread.{ScriptThread}
use Rattle.replay_runs.specs.declared.shared.Shared.{Shared}
use Rattle.replay_runs.specs.Internal.Answered.{CanPerform}
use Rattle.replay_runs.specs.Internal.Beside.{CanRun}
use Rattle.replay_runs.specs.Internal.Jobs.{HasJoined, HasSplit, IsSet}
use Rattle.replay_runs.specs.Internal.Telling.{AreLaidFor, AreTold, Between, CanFinish, ends_in, HandsOut, HasTold, Hears, line_now, queue_of, Told}
use Rattle.replay_runs.specs.Internal.Together.{lists_with}
use Rattle.replay_runs.proofs.Along.{told_nothing}
use Rattle.replay_runs.proofs.Ends.{all_ends, all_ready, all_told, script_has}

-- a desk that handed shares over can still perform what it could
split_can : {D : Type 0} (sight : D → Sight) (captures : List Capture) (commands : List Command) (moment : ℕ) (old split : Sight) (jobs : List (Job D))
    → CanPerform commands moment 0 old → HasSplit sight captures old split jobs → CanPerform commands moment 0 split
split_can sight captures commands moment old split jobs can has_split = record {
  timely = can.timely;
  named = can.named;
  small = subst (λ (z : Sizes). z.entries + z.expectations ≤ 66560) (sym (ap (λ (s : Sight). s.sizes) has_split.kept)) can.small;
  made = omega arith;
  few = omega (arith, ap (λ (s : Sight). length s.own) has_split.kept, can.few);
  empty = record {
    held = ap (λ (s : Sight). s.held) has_split.kept ∙ can.empty.held;
    owed = ap (λ (s : Sight). s.owed) has_split.kept ∙ can.empty.owed;
  };
  known = has_split.known;
}

module _ {D G : Type 0} (sight : D → Sight) (shared : Shared G) (captures : List Capture) (old split : Sight) (jobs slice : List (Job D))
    (ears : Option (List EarSight)) (all left rest : List SendingSight) (taken : Option SendingSight) (has_split : HasSplit sight captures old split jobs)
    (sliced : slice ≡ jobs) (hands : HandsOut all jobs left) (takes : MatchOption taken ((left ≡ []) × (rest ≡ [])) (λ s. left ≡ s ∷ rest))
    (laid : AreLaidFor (length captures + 1) (line_now shared.line) ears all) where
  laid_for : AreLaidFor (length jobs + 1) (line_now shared.line) ears all
  laid_for =
      subst (λ (n : ℕ). AreLaidFor (n + 1) (line_now shared.line) ears all) (sym (AllZip-long (IsSet sight) captures jobs has_split.set)) laid

  -- all threads can run
  pub can_run : (commands : List Command) (thread : ScriptThread) → IsFresh old.tracker old.sizes old
      → AllByRecursion IsLawfulRule shared.setup.now.rules.items → length captures ≤ 63 → CanPerform commands shared.moment 0 old → thread.sending ≡ taken
      → length thread.answers.items + length commands ≤ thread.answers.room
      → CanRun sight shared captures commands (record { jobs = slice; desk = split; thread = thread })
  can_run commands thread fresh lawful few can is room = record {
    lawful = lawful;
    few = few;
    set = subst (λ (js : List (Job D)). AllZip (IsSet sight) captures js) (sym sliced) has_split.set;
    ready = rw sliced (all_ready sight captures jobs ears all left rest taken has_split.set hands takes (line_now shared.line) laid_for);
    can = split_can sight captures commands shared.moment old split jobs can has_split;
    room = room;
    told = told_nothing split.own (ap (λ (s : Sight). s.own) has_split.kept ∙ fresh.own) (line_now shared.line) thread.sending
        (rw is (script_has sight captures jobs ears all left rest taken has_split.set hands takes (line_now shared.line) laid_for).new);
  }

  -- when all have ended, their ends are all there, and have told of what they made
  pub all_gathered : (ran new : Sight) (done over : List (Job D)) (heard : Option (List EarSight)) (middle gathered : List SendingSight)
      (given put : Option SendingSight) (joined : Joined) → AllZip (Told sight (line_now shared.line)) slice done → over ≡ done
      → HasJoined sight over ran new joined.lists.items joined.threads.items → Between (HasTold ran.own) (line_now shared.line) given
      → queue_of given ≡ queue_of taken → Hears (line_now shared.line) heard → middle ≡ rest ++ ends_in over
      → gathered ≡ middle ++ option_to_list put → put ≡ given
      → CanFinish (line_now shared.line) heard gathered × AreTold (lists_with joined new.own) (line_now shared.line) gathered
  all_gathered ran new done over heard middle gathered given put joined told same has_joined last queue hears between is gave =
      let told' : AllZip (Told sight (line_now shared.line)) jobs done =
      subst (λ (js : List (Job D)). AllZip (Told sight (line_now shared.line)) js done) sliced told in
      let ended : AllByRecursion (λ (j : Job D). j.ended ≡ Ok tt) done =
      subst (λ (js : List (Job D)). AllByRecursion (λ (j : Job D). j.ended ≡ Ok tt) js) same has_joined.ended in
      let order : gathered ≡ (rest ++ ends_in done) ++ option_to_list given =
      is ∙ ap (λ (o : Option SendingSight). middle ++ option_to_list o) gave
      ∙ ap (λ (xs : List SendingSight). xs ++ option_to_list given) (between ∙ ap (λ (js : List (Job D)). rest ++ ends_in js) same) in
      let lists : lists_with joined new.own ≡ map (λ (j : Job D). (sight j.desk).own) done ++ ran.own ∷ [] =
      ap (λ (xss : List (List Note)). xss ++ new.own ∷ []) (has_joined.notes ∙ ap (λ (js : List (Job D)). map (λ (j : Job D). (sight j.desk).own) js) same)
      ∙ ap (λ (own : List Note). map (λ (j : Job D). (sight j.desk).own) done ++ own ∷ []) (ap (λ (s : Sight). s.own) has_joined.kept) in (
        all_ends sight captures jobs done ears heard all left rest gathered taken given ran.own has_split.set hands takes ended queue order
            (line_now shared.line) laid_for told' last hears,
        all_told sight captures jobs done ears heard all left rest gathered taken given ran.own has_split.set hands takes ended queue order
            (line_now shared.line) laid_for told' last (lists_with joined new.own) lists,
      )
