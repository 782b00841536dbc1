-- The threads of captures.
use Rattle.std.specs.Prelude.{◌≡◌, ℕ, ◌+◌, ◌≤◌, List, [], ◌∷◌, ◌++◌, length, map, Ok, OnErr, OnOk}
use Rattle.std.specs.List.{AllByRecursion, AllZip}
use Rattle.room_list.specs.Roomed.{Roomed}
use Rattle.history_book.specs.declared.event.Note.{Note}
use Rattle.history_book.specs.declared.sizes.Sizes.{Sizes}
use Rattle.history_book.specs.declared.verdict.Verdict.{Verdict}
use Rattle.history_book.specs.Merge.{all_notes}
use Rattle.history_book.specs.Places.{HoldsNothing}
use Rattle.history_book.specs.Point.{StartsWith}
use Rattle.history_book.specs.Sight.{IsKnown, Sight}
use Rattle.packet_headers.specs.Capture.{AreInside, AreTimely}
use Rattle.packet_path.specs.declared.setup.Setup.{Setup}
use Rattle.packet_headers.specs.declared.frame.Capture.{Capture}
use Rattle.replay_runs.specs.declared.jobs.Job.{Job}
use Rattle.replay_runs.specs.Run.{items_of}
use Rattle.replay_runs.specs.Internal.Replayed.{given_frames, Replayed}
use Rattle.replay_runs.specs.Internal.Stopped.{Stopped}

-- a capture can be replayed: its frames lie in its bytes, are timely and not too many
pub record CanBeReplayed (capture : Capture) : Type 0 where
  pub inside : AreInside capture.bytes.items capture.frames.items
  pub timely : AreTimely capture.frames.items
  pub few : length capture.frames.items ≤ 4194304

-- the thread of a capture has not begun: its desk made no event and keeps no place, and there is room for the verdicts
pub record IsSet {D : Type 0} (sight : D → Sight) (capture : Capture) (job : Job D) : Type 0 where
  pub can : CanBeReplayed capture
  pub room : length capture.frames.items ≤ job.verdicts.room
  pub none : job.verdicts.items ≡ []
  pub own : (sight job.desk).own ≡ []
  pub empty : HoldsNothing (sight job.desk)
  pub known : IsKnown (sight job.desk)

-- the thread of a capture ended: the capture was replayed, or memory was wanting
pub record Ran {D : Type 0} (sight : D → Sight) (setup : Setup) (capture : Capture) (old new : Job D) : Type 0 where
  pub replayed : OnOk new.ended (Replayed setup (given_frames capture) (sight old.desk) (sight new.desk) new.verdicts.items)
  pub stopped : OnErr new.ended (Stopped (sight old.desk) (sight new.desk))

-- the same of the threads of several captures
abbrev pub AllRan : {D : Type 0} (sight : D → Sight) (setup : Setup) → List Capture → (old new : List (Job D)) → Type 0
AllRan sight setup [] [] [] = Unit {0}
AllRan sight setup [] [] (n ∷ ns) = ⊥
AllRan sight setup [] (o ∷ os) ns = ⊥
AllRan sight setup (c ∷ cs) [] ns = ⊥
AllRan sight setup (c ∷ cs) (o ∷ os) [] = ⊥
AllRan sight setup (c ∷ cs) (o ∷ os) (n ∷ ns) = Ran sight setup c o n × AllRan sight setup cs os ns

-- a further desk of a tracker of these sizes: it has one share, no other joined it, and it keeps no place
pub record IsFurther (tracker : List ℕ) (sizes : Sizes) (s : Sight) : Type 0 where
  pub tracked : s.tracker ≡ tracker
  pub sized : s.sizes ≡ sizes
  pub shares : s.shares ≡ 1
  pub returned : s.returned ≡ 0
  pub gathered : s.gathered ≡ []
  pub empty : HoldsNothing s

-- the desks of the jobs are further ones
abbrev pub AreFurther : {D : Type 0} (sight : D → Sight) → List ℕ → Sizes → List (Job D) → Type 0
AreFurther {D} sight tracker sizes jobs = AllByRecursion (λ (j : Job D). IsFurther tracker sizes (sight j.desk)) jobs

-- a desk has handed a share over to the desk of each of these threads, and has one left
pub record HasSplit {D : Type 0} (sight : D → Sight) (captures : List Capture) (old new : Sight) (jobs : List (Job D)) : Type 0 where
  pub kept : new ≡ record old { front = new.front; shares = 1 }
  pub known : IsKnown new
  pub set : AllZip (IsSet sight) captures jobs
  pub further : AreFurther sight old.tracker old.sizes jobs

-- The desk of each thread, none of which wanted memory, has joined a desk: that has seen what they had seen. There is a
-- list of each one's own events, and its verdicts.
pub record HasJoined {D : Type 0} (sight : D → Sight) (jobs : List (Job D)) (old new : Sight) (lists : List (Roomed Note)) (threads : List (Roomed Verdict)) : Type 0 where
  pub ended : AllByRecursion (λ (j : Job D). j.ended ≡ Ok tt) jobs
  pub fronts : AllByRecursion (λ (j : Job D). StartsWith new.front (sight j.desk).front) jobs
  pub front : StartsWith new.front old.front
  pub notes : items_of lists ≡ map (λ (j : Job D). (sight j.desk).own) jobs
  pub verdicts : threads ≡ map (λ (j : Job D). j.verdicts) jobs
  pub kept : new ≡ record old {
    front = new.front;
    returned = old.returned + length jobs;
    gathered = old.gathered ++ all_notes lists;
  }
  pub known : IsKnown new
