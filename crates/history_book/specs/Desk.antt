-- What the calls of a desk on entries and places answer. Old and new are what the desk knows before the call and after it.
use Rattle.std.specs.Prelude.{◌≡◌, ℕ, ◌+◌, ◌-◌, ◌<◌, ◌≤◌, Bool, true, false, ◌&&◌, ◌||◌, not, Option, Some, None, ◌∷◌, length}
use Rattle.tuple_core.specs.declared.Direction.{Direction}
use Rattle.tuple_core.specs.declared.Segment.{Segment}
use Rattle.tuple_core.specs.declared.Tuple.{Tuple}
use Rattle.history_book.specs.declared.event.Event.TheVariants.{Confirm, Touch, Destroy}
use Rattle.history_book.specs.declared.event.Why.{Why}
use Rattle.history_book.specs.declared.outcome.ConfirmOutcome.{ConfirmOutcome}
use Rattle.history_book.specs.declared.outcome.ConfirmOutcome.TheVariants as confirm
use Rattle.history_book.specs.declared.outcome.FindOutcome.{FindOutcome}
use Rattle.history_book.specs.declared.outcome.FindOutcome.TheVariants as find
use Rattle.history_book.specs.declared.outcome.HoldOutcome.{HoldOutcome}
use Rattle.history_book.specs.declared.outcome.HoldOutcome.TheVariants as hold
use Rattle.history_book.specs.declared.outcome.KillOutcome.{KillOutcome}
use Rattle.history_book.specs.declared.outcome.KillOutcome.TheVariants as kill
use Rattle.history_book.specs.declared.outcome.LiveCount.{LiveCount}
use Rattle.history_book.specs.declared.outcome.PeekOutcome.{PeekOutcome}
use Rattle.history_book.specs.declared.outcome.PeekOutcome.TheVariants as peek
use Rattle.history_book.specs.declared.outcome.ReleaseOutcome.{ReleaseOutcome}
use Rattle.history_book.specs.declared.outcome.ReleaseOutcome.TheVariants as release
use Rattle.history_book.specs.declared.outcome.TakeOutcome.{TakeOutcome}
use Rattle.history_book.specs.declared.outcome.TakeOutcome.TheVariants as take
use Rattle.history_book.specs.declared.outcome.TouchOutcome.{TouchOutcome}
use Rattle.history_book.specs.declared.outcome.TouchOutcome.TheVariants as touch
use Rattle.history_book.specs.declared.record.Flow.{Flow}
use Rattle.history_book.specs.declared.record.Record.{Record}
use Rattle.history_book.specs.Entry.{record_for}
use Rattle.history_book.specs.Held.{held_for, held_id, is_held, is_owed, paid, without}
use Rattle.history_book.specs.History.{after}
use Rattle.history_book.specs.Legality.{is_reason}
use Rattle.history_book.specs.Point.{At}
use Rattle.history_book.specs.Record.{has_original, has_reply}
use Rattle.history_book.specs.Sight.{risen, Sight}
use Rattle.history_book.specs.WentOn.{Looked, MadeEvent, Saw}
use Rattle.history_book.specs.Sizes.{fewest_of_full}
use Rattle.history_book.specs.State.{Found, State, is_unused, live_under, record_of, winner}
use Rattle.proto_rules.specs.declared.Outcome.{Outcome}
use Rattle.proto_rules.specs.declared.Outcome.TheVariants as outcome
use Rattle.proto_rules.specs.declared.Part.{Part}
use Rattle.proto_rules.specs.Step.{step_of}

-- the references and the owed places are as before
pub record SamePlaces (old new : Sight) : Type 0 where
  pub held : new.held ≡ old.held
  pub owed : new.owed ≡ old.owed

-- one reference more, to this place, for an entry or for none; the newest stands first
pub record HoldsOneMore (old new : Sight) (place : ℕ) (id : Option ℕ) : Type 0 where
  pub held : new.held ≡ record { place = place; id = id } ∷ old.held
  pub owed : new.owed ≡ old.owed

-- room for so many further own events; nothing else changed
pub record IsReady (k : ℕ) (old new : Sight) : Type 0 where
  pub room : k ≤ new.spare
  pub kept : old.spare ≤ new.spare
  pub same : new ≡ record old { spare = new.spare }

-- the entry of the id is live in the place, and the tuple names it in the direction
pub record IsLiveUnder (t : Tuple) (place id : ℕ) (direction : Direction) (s : State) : Type 0 where
  pub subject : Record
  pub live : live_under t s ≡ Some (record { subject = subject; direction = direction })
  pub named : subject.id ≡ id
  pub placed : subject.place ≡ place

abbrev pub FindSays : Tuple → Sight → Sight → FindOutcome → Type 0
FindSays t old new (find.Found place id direction at) =
    Looked old new at (IsLiveUnder t place id direction) × HoldsOneMore old new place (Some id)
FindSays t old new (find.Absent at) =
    Looked old new at (λ s. live_under t s ≡ None) × SamePlaces old new

abbrev pub CountSays : Sight → Sight → LiveCount → Type 0
CountSays old new count =
    Looked old new count.at (λ s. count.live ≡ length s.records) × SamePlaces old new

-- a place of the pool that this desk neither held nor owed, and now holds for no entry; where this pass is
-- the only one no entry has it. No other call takes a place, and this one takes no further one: so the desk
-- counts one more than before
pub record Takes (old new : Sight) (place : ℕ) : Type 0 where
  pub saw : Saw old (record new { taken = old.taken })
  pub taken : new.taken ≡ risen old.taken
  pub below : place < old.sizes.entries
  pub unheld : is_held place old.held ≡ false
  pub unowed : is_owed place old.owed ≡ false
  pub holds : HoldsOneMore old new place None
  pub alone : old.sizes.passes ≡ 1 → is_unused place (after new.front (length new.front)) ≡ true

-- a live entry has the place, or this desk holds it or owes it
abbrev pub is_in_use : ℕ → Sight → Bool
is_in_use place s = not (is_unused place (after s.front (length s.front))) || is_held place s.held || is_owed place s.owed

-- at least as many entries were live as there are places, but those that this desk held or owed and those that
-- each other pass may keep; a pass that is the only one found each place in use
pub record FindsFull (old new : Sight) (at : ℕ) : Type 0 where
  pub looked : Looked old new at
      (λ s. fewest_of_full old.sizes - (length old.held + length old.owed) ≤ length s.records)
  pub same : SamePlaces old new
  pub alone : old.sizes.passes ≡ 1 → (place : ℕ) → place < old.sizes.entries → is_in_use place new ≡ true

abbrev pub TakeSays : Sight → Sight → TakeOutcome → Type 0
TakeSays old new (take.Taken place) = Takes old new place
TakeSays old new (take.Full at) = FindsFull old new at

-- the entry of the id has one of the flow's tuples in the direction, and both of them or not
pub record IsWinner (flow : Flow) (id : ℕ) (direction : Direction) (both : Bool) (s : State) : Type 0 where
  pub found : Found
  pub wins : winner flow.original flow.reply s ≡ Some found
  pub named : found.subject.id ≡ id
  pub directed : found.direction ≡ direction
  pub same : both ≡ (has_original flow.original found.subject && has_reply flow.reply found.subject)

-- the entry of the id stands in the flow's way, while the place that was taken for the flow is no entry's
pub record IsClash (place : ℕ) (flow : Flow) (id : ℕ) (direction : Direction) (both : Bool) (s : State) : Type 0 where
  pub winner : IsWinner flow id direction both s
  pub unused : is_unused place s ≡ true

-- the flow is an entry, and the place that was taken is held for it
pub record Confirms (place : ℕ) (flow : Flow) (old new : Sight) (id : ℕ) : Type 0 where
  pub made : MadeEvent old new id (Confirm (record_for flow id place))
  pub held : new.held ≡ held_for place id old.held
  pub owed : new.owed ≡ old.owed

abbrev pub ConfirmSays : ℕ → Flow → Sight → Sight → ConfirmOutcome → Type 0
ConfirmSays place flow old new (confirm.Confirmed id) = Confirms place flow old new id
ConfirmSays place flow old new (confirm.Clash id direction both at) =
    Looked old new at (IsClash place flow id direction both) × SamePlaces old new

-- the entry of the id is this record
abbrev pub IsRecord : ℕ → Record → State → Type 0
IsRecord id r s = record_of id s ≡ Some r

-- the step gives this outcome for the entry of the id
pub record StepGives (id : ℕ) (direction : Direction) (segment : Segment) (moment : ℕ) (outcome : Outcome) (s : State) : Type 0 where
  pub subject : Record
  pub is : record_of id s ≡ Some subject
  pub step : step_of subject.part direction segment moment ≡ outcome

-- the entry of the id accepted the packet, and was this record before
pub record Touches (id : ℕ) (direction : Direction) (segment : Segment) (moment : ℕ) (old new : Sight)
    (number : ℕ) (before : Record) : Type 0 where
  pub after : Part
  pub made : MadeEvent old new number (Touch id direction segment moment after)
  pub found : At new.front number (IsRecord id before)
  pub step : step_of before.part direction segment moment ≡ outcome.Accept after
  pub same : SamePlaces old new

-- a packet made no event: the step gives this outcome for the entry of the id
abbrev pub Leaves : ℕ → Direction → Segment → ℕ → Outcome → Sight → Sight → ℕ → Type 0
Leaves id direction segment moment outcome old new at =
    Looked old new at (StepGives id direction segment moment outcome) × SamePlaces old new

-- the entry of the id was not live
abbrev pub IsGoneAt : ℕ → Sight → Sight → ℕ → Type 0
IsGoneAt id old new at = Looked old new at (λ s. record_of id s ≡ None) × SamePlaces old new

abbrev pub TouchSays : ℕ → Direction → Segment → ℕ → Sight → Sight → TouchOutcome → Type 0
TouchSays place direction segment moment old new (touch.Touched number before) =
    Touches (held_id place old.held) direction segment moment old new number before
TouchSays place direction segment moment old new (touch.Ignored at) =
    Leaves (held_id place old.held) direction segment moment outcome.Ignore old new at
TouchSays place direction segment moment old new (touch.Invalid at) =
    Leaves (held_id place old.held) direction segment moment outcome.Invalid old new at
TouchSays place direction segment moment old new (touch.Reopen at) =
    Leaves (held_id place old.held) direction segment moment outcome.Reopen old new at
TouchSays place direction segment moment old new (touch.Reset at) =
    Leaves (held_id place old.held) direction segment moment outcome.Reset old new at
TouchSays place direction segment moment old new (touch.Expired at) =
    Leaves (held_id place old.held) direction segment moment outcome.Expired old new at
TouchSays place direction segment moment old new (touch.Gone at) = IsGoneAt (held_id place old.held) old new at

abbrev pub PeekSays : ℕ → Sight → Sight → PeekOutcome → Type 0
PeekSays place old new (peek.Seen subject at) =
    Looked old new at (IsRecord (held_id place old.held) subject) × SamePlaces old new
PeekSays place old new (peek.Gone at) = IsGoneAt (held_id place old.held) old new at

-- the entry of the id was destroyed, and was this record
pub record Destroys (id : ℕ) (why : Why) (old new : Sight) (number : ℕ) (subject : Record) : Type 0 where
  pub made : MadeEvent old new number (Destroy id why)
  pub found : At new.front number (IsRecord id subject)
  pub reason : is_reason why subject ≡ true
  pub same : SamePlaces old new

abbrev pub KillSays : ℕ → Why → Sight → Sight → KillOutcome → Type 0
KillSays place why old new (kill.Killed number subject) =
    Destroys (held_id place old.held) why old new number subject
KillSays place why old new (kill.Gone at) = IsGoneAt (held_id place old.held) old new at
KillSays place why old new (kill.Not subject at) =
    Looked old new at (IsRecord (held_id place old.held) subject) × (is_reason why subject ≡ false) × SamePlaces old new

-- the entry of the id is live in the place
pub record IsLiveIn (place id : ℕ) (s : State) : Type 0 where
  pub subject : Record
  pub is : record_of id s ≡ Some subject
  pub placed : subject.place ≡ place

abbrev pub HoldSays : ℕ → Sight → Sight → HoldOutcome → Type 0
HoldSays place old new (hold.Held id at) =
    Looked old new at (IsLiveIn place id) × HoldsOneMore old new place (Some id)
HoldSays place old new (hold.Empty at) = Looked old new at (λ s. is_unused place s ≡ true) × SamePlaces old new

-- a reference to the place was given up, and others are left; where this pass is the only one they are its
-- own, or that of the live entry
pub record KeepsPlace (place : ℕ) (old new : Sight) : Type 0 where
  pub saw : Saw old new
  pub held : new.held ≡ without place old.held
  pub owed : new.owed ≡ old.owed
  pub alone : old.sizes.passes ≡ 1 → is_in_use place new ≡ true

-- the last reference to the place was given up, and the place is owed
pub record OwesPlace (place : ℕ) (old new : Sight) : Type 0 where
  pub saw : Saw old new
  pub held : new.held ≡ without place old.held
  pub owed : new.owed ≡ place ∷ old.owed
  pub unheld : is_held place new.held ≡ false
  pub alone : old.sizes.passes ≡ 1 → is_unused place (after new.front (length new.front)) ≡ true

abbrev pub ReleaseSays : ℕ → Sight → Sight → ReleaseOutcome → Type 0
ReleaseSays place old new release.Kept = KeepsPlace place old new
ReleaseSays place old new release.Last = OwesPlace place old new

-- the place is not owed any more; where this pass is the only one it is free
pub record RecycleSays (place : ℕ) (old new : Sight) : Type 0 where
  pub saw : Saw old new
  pub held : new.held ≡ old.held
  pub owed : new.owed ≡ paid place old.owed
  pub alone : old.sizes.passes ≡ 1 → is_in_use place new ≡ false
