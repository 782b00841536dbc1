-- A line to a listener among the threads of a run, where one is asked for.
use Rattle.std.specs.Prelude.{◌≡◌, ℕ, ◌≤◌, Option, None, Some, option_map, List, [], ◌∷◌, ◌++◌, length, min, All, OnOk}
use Rattle.std.specs.List.{AllByRecursion, AllZip, flat_map}
use Rattle.std.specs.Option.{option_to_list}
use Rattle.std.specs.Borrow.{Bor}
use Rattle.atomic_table.specs.Seated.{TableId}
use Rattle.event_listen.specs.Line.{AreSendingsOf, EarSight, HasSentNothing, IsHearingOf, IsSendingOf, LineSight, SendingSight}
use Rattle.event_listen.specs.Pump.{BeginsWith}
use Rattle.history_book.specs.declared.event.Note.{Note}
use Rattle.history_book.specs.Sight.{Sight}
use Rattle.replay_runs.specs.declared.jobs.Job.{Job}

-- a line that is lent
abbrev pub line_now : Option (Bor LineSight) → Option LineSight
line_now = option_map (λ (l : Bor LineSight). l.now)

-- which queue a thread's end sends to
abbrev pub queue_of : Option SendingSight → Option TableId
queue_of = option_map (λ (s : SendingSight). s.queue)

-- a thread has an end exactly where there is a line, and this holds of the two
abbrev pub Between : (LineSight → SendingSight → Type 0) → Option LineSight → Option SendingSight → Type 0
Between P None None = Unit {0}
Between P None (Some end) = ⊥
Between P (Some line) None = ⊥
Between P (Some line) (Some end) = P line end

-- an end of the line, which has sent nothing
pub record IsNew (line : LineSight) (end : SendingSight) : Type 0 where
  pub of : IsSendingOf line end
  pub none : end.sent ≡ []

-- an end of the line, which has sent the first of these events
pub record IsAlong (own : List Note) (line : LineSight) (end : SendingSight) : Type 0 where
  pub of : IsSendingOf line end
  pub first : BeginsWith own end.sent

-- besides it has sent all of them, or as many as its queue holds
pub record HasTold (own : List Note) (line : LineSight) (end : SendingSight) : Type 0 where
  pub of : IsSendingOf line end
  pub first : BeginsWith own end.sent
  pub enough : min line.capacity (length own) ≤ length end.sent

-- the thread of a capture has made no event, and its end has sent none
pub record IsReady {D : Type 0} (sight : D → Sight) (line : Option LineSight) (job : Job D) : Type 0 where
  pub own : (sight job.desk).own ≡ []
  pub new : Between IsNew line job.sending

-- the thread kept its end, by which it told of its events unless memory was wanting
pub record Told {D : Type 0} (sight : D → Sight) (line : Option LineSight) (old new : Job D) : Type 0 where
  pub told : OnOk new.ended (Between (HasTold (sight new.desk).own) line new.sending)
  pub queue : queue_of new.sending ≡ queue_of old.sending

-- the ends that these threads have
abbrev pub ends_in : {D : Type 0} → List (Job D) → List SendingSight
ends_in {D} jobs = flat_map (λ (j : Job D). option_to_list j.sending) jobs

-- of these ends each of the threads was given the next, as long as there were any; these are left
pub record HandsOut {D : Type 0} (all : List SendingSight) (jobs : List (Job D)) (left : List SendingSight) : Type 0 where
  pub order : ends_in jobs ++ left ≡ all
  pub each : AllByRecursion (λ (j : Job D). j.sending ≡ None → left ≡ []) jobs

-- a new line of so many senders, each with a queue for 1,024 notes, and its ends
pub record AreLaid (threads : ℕ) (line : LineSight) (ears : List EarSight) (ends : List SendingSight) : Type 0 where
  pub capacity : line.capacity ≡ 1024
  pub hearing : IsHearingOf line ears
  pub sendings : AreSendingsOf line ends
  pub unsent : All HasSentNothing ends
  pub many : length ends ≡ threads

-- there is such a line, or none and no end
abbrev pub AreLaidFor : ℕ → Option LineSight → Option (List EarSight) → List SendingSight → Type 0
AreLaidFor threads None None sendings = sendings ≡ []
AreLaidFor threads None (Some ears) sendings = ⊥
AreLaidFor threads (Some line) None sendings = ⊥
AreLaidFor threads (Some line) (Some ears) sendings = AreLaid threads line ears sendings

-- a listener's end hears each queue of the line, where there is one
abbrev pub Hears : Option LineSight → Option (List EarSight) → Type 0
Hears None None = Unit {0}
Hears None (Some ears) = ⊥
Hears (Some line) None = ⊥
Hears (Some line) (Some ears) = IsHearingOf line ears

-- the ends are all of the line's
pub record AreEnds (line : LineSight) (ears : List EarSight) (ends : List SendingSight) : Type 0 where
  pub hearing : IsHearingOf line ears
  pub sendings : AreSendingsOf line ends

abbrev pub CanFinish : Option LineSight → Option (List EarSight) → List SendingSight → Type 0
CanFinish None None sendings = Unit {0}
CanFinish None (Some ears) sendings = ⊥
CanFinish (Some line) None sendings = ⊥
CanFinish (Some line) (Some ears) sendings = AreEnds line ears sendings

-- threads that made these events have told of them, each by its end
pub record HaveTold (made : List (List Note)) (line : LineSight) (sendings : List SendingSight) : Type 0 where
  pub capacity : line.capacity ≡ 1024
  pub each : AllZip (λ own end. HasTold own line end) made sendings

abbrev pub AreTold : List (List Note) → Option LineSight → List SendingSight → Type 0
AreTold made None sendings = Unit {0}
AreTold made (Some line) sendings = HaveTold made line sendings
