-- What handing over shares to further desks has done so far.
use Rattle.std.proofs.Common.{◌≡◌, ℕ, ◌+◌, ◌<◌, ◌≤◌, List, [], ◌∷◌, ◌++◌, length, take, get_or, refl, sym, ap, subst, ◌∙◌, arith}
use Rattle.std.specs.List.{AllZip}
use Rattle.std.specs.Prelude.{All, Ok, Option}
use Rattle.std.proofs.lemmas.List.{take_more}
use Rattle.std.proofs.lemmas.List.Elements.{All-get_or}
use Rattle.std.proofs.lemmas.Slice.Zip.{all_zipped_more}
use Rattle.std.proofs.Math.Seq.{take-length}
use Rattle.event_listen.specs.Line.{SendingSight}
use Rattle.room_list.specs.Roomed.{Roomed}
use Rattle.history_book.specs.declared.verdict.Verdict.{Verdict}
use Rattle.history_book.specs.Sight.{IsKnown, Sight}
use Rattle.history_book.specs.Split.{CanSplit, Splits}
use Rattle.packet_headers.specs.declared.frame.Capture.{Capture}
use Rattle.replay_runs.specs.declared.jobs.Job.{Job}
use Rattle.replay_runs.specs.Internal.Jobs.{AreFurther, CanBeReplayed, HasSplit, IsFurther, IsSet}
use Rattle.replay_runs.proofs.Each.{each_append}

-- so many of the captures have a thread
pub record IsSplitting {D : Type 0} (sight : D → Sight) (captures : List Capture) (count : ℕ) (old now : Sight) (jobs : List (Job D)) : Type 0 where
  pub kept : now ≡ record old { front = now.front; shares = now.shares }
  pub shares : now.shares + count ≡ old.shares
  pub known : IsKnown now
  pub set : AllZip (IsSet sight) (take count captures) jobs
  pub further : AreFurther sight old.tracker old.sizes jobs

-- none has one yet
pub splitting_start : {D : Type 0} (sight : D → Sight) (captures : List Capture) (old : Sight) (jobs : List (Job D)) → IsKnown old → jobs ≡ []
    → IsSplitting sight captures 0 old old jobs
splitting_start sight captures old jobs known none = record {
  kept = refl;
  shares = omega arith;
  known = known;
  set = subst (λ js. AllZip (IsSet sight) [] js) (sym none) tt;
  further = subst (λ js. AreFurther sight old.tracker old.sizes js) (sym none) tt;
}

-- there is a share for one more
pub splitting_can : {D : Type 0} (sight : D → Sight) (captures : List Capture) (count : ℕ) (old now : Sight) (jobs : List (Job D))
    → IsSplitting sight captures count old now jobs → count < length captures → old.shares ≡ length captures + 1 → CanSplit 1 now
splitting_can sight captures count old now jobs so_far below all = record { some = omega arith; rest = omega (arith, so_far.shares, below, all) }

-- what a desk that was split off is
further_set : (tracker : List ℕ) (old mid now further : Sight) → mid ≡ record old { front = mid.front; shares = mid.shares }
    → Splits 1 mid now further → IsFurther old.tracker old.sizes further
further_set tracker old mid now further kept splits = record {
  tracked = ap (λ (s : Sight). s.tracker) splits.is ∙ ap (λ (s : Sight). s.tracker) kept;
  sized = ap (λ (s : Sight). s.sizes) splits.is ∙ ap (λ (s : Sight). s.sizes) kept;
  shares = ap (λ (s : Sight). s.shares) splits.is;
  returned = ap (λ (s : Sight). s.returned) splits.is;
  gathered = ap (λ (s : Sight). s.gathered) splits.is;
  empty = record { held = ap (λ (s : Sight). s.held) splits.is; owed = ap (λ (s : Sight). s.owed) splits.is };
}

-- one more has a thread
pub splitting_next : {D : Type 0} (sight : D → Sight) (captures : List Capture) (count : ℕ) (old mid now : Sight) (further : D)
    (jobs more : List (Job D)) (capture : Capture) (verdicts : Roomed Verdict) (sending : Option SendingSight) → IsSplitting sight captures count old mid jobs
    → Splits 1 mid now (sight further) → IsKnown now → IsKnown (sight further) → count < length captures → capture ≡ get_or captures count capture → All CanBeReplayed captures → verdicts.items ≡ []
    → length capture.frames.items ≤ verdicts.room
    → more ≡ jobs ++ record { desk = further; verdicts = verdicts; sending = sending; ended = Ok tt } ∷ []
    → IsSplitting sight captures (count + 1) old now more
splitting_next {D} sight captures count old mid now further jobs more capture verdicts sending so_far splits known further_known below is can none room pushed =
    let job : Job D = record { desk = further; verdicts = verdicts; sending = sending; ended = Ok tt } in
    let set : IsSet sight capture job = record {
      can = subst CanBeReplayed (sym is) (All-get_or CanBeReplayed captures count capture below can);
      room = room;
      none = none;
      own = ap (λ (s : Sight). s.own) splits.is;
      empty = record { held = ap (λ (s : Sight). s.held) splits.is; owed = ap (λ (s : Sight). s.owed) splits.is };
      known = further_known;
    } in
    let taken : take (count + 1) captures ≡ take count captures ++ capture ∷ [] =
    take_more captures count capture below ∙ ap (λ c. take count captures ++ c ∷ []) (sym is) in
    record {
      kept = splits.kept ∙ ap (λ (s : Sight). record s { front = now.front; shares = now.shares }) so_far.kept;
      shares = omega (arith, so_far.shares, splits.shared);
      known = known;
      set = rw (taken, pushed) (all_zipped_more (IsSet sight) (take count captures) jobs capture job so_far.set set);
      further = subst (λ js. AreFurther sight old.tracker old.sizes js) (sym pushed)
          (each_append (λ (j : Job D). IsFurther old.tracker old.sizes (sight j.desk)) jobs (job ∷ []) so_far.further
          (further_set old.tracker old mid now (sight further) so_far.kept splits, tt));
    }

-- each has one
pub splitting_all : {D : Type 0} (sight : D → Sight) (captures : List Capture) (count : ℕ) (old now : Sight) (jobs : List (Job D))
    → IsSplitting sight captures count old now jobs → count ≡ length captures → old.shares ≡ length captures + 1 → HasSplit sight captures old now jobs
splitting_all sight captures count old now jobs done all shares =
    let one : now.shares ≡ 1 = omega (arith, done.shares, all, shares) in
    record {
      kept = done.kept ∙ ap (λ (n : ℕ). record old { front = now.front; shares = n }) one;
      known = done.known;
      set = subst (λ cs. AllZip (IsSet sight) cs jobs) (ap (λ n. take n captures) all ∙ take-length captures) done.set;
      further = done.further;
    }
