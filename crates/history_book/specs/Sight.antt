-- What a desk knows of the tracker.
use Rattle.std.specs.Prelude.{◌≡◌, ◌≢◌, ℕ, ◌+◌, ◌-◌, ◌*◌, ◌<◌, ◌≤◌, ◌^◌, true, false, Option, Some, None, List, [], ◌∷◌, length, slice_get, min, All, AllPairs, IsSome}
use Rattle.history_book.specs.declared.desk.Hold.{Hold}
use Rattle.history_book.specs.declared.event.Event.{Event}
use Rattle.history_book.specs.declared.event.Event.TheVariants.{Confirm}
use Rattle.history_book.specs.declared.event.Note.{Note}
use Rattle.history_book.specs.declared.record.Record.{Record}
use Rattle.history_book.specs.declared.sizes.Sizes.{Sizes}
use Rattle.history_book.specs.Held.{is_owed}
use Rattle.history_book.specs.History.{is_legal}

-- The front is the first events of the one history, as far as the desk has seen it; then its own events
-- with their numbers, the references that it keeps and the places that it owes, the newest first, and for
-- how many further own events it has room. The desk is one pass of a tracker, which is told from others by
-- some numbers (by none where no desk joins another) and has these sizes. It has shares of the tracker's
-- passes, which it may hand over to further desks; of the desks that joined it, it has the shares that they
-- returned, and the events that they made. Last it counts how many times it took a place.
pub record Sight : Type 0 where
  pub front : List Event
  pub own : List Note
  pub held : List Hold
  pub owed : List ℕ
  pub spare : ℕ
  pub tracker : List ℕ
  pub sizes : Sizes
  pub shares : ℕ
  pub returned : ℕ
  pub gathered : List Note
  pub taken : ℕ

-- a count of 64 bits after one more: it stands still at its end
abbrev pub risen : ℕ → ℕ
risen n = min (n + 1) (2 ^ 64 - 1)

-- these events with their numbers, which rise from n by one
abbrev pub notes_from : ℕ → List Event → List Note
notes_from n [] = []
notes_from n (e ∷ es) = record { number = n; event = e } ∷ notes_from (n + 1) es

-- each note is the event of the history at its number
abbrev pub AreEventsOf : List Event → List Note → Type 0
AreEventsOf log notes = All (λ n. slice_get log n.number ≡ Some n.event) notes

-- the entry of the id was confirmed in the place
pub record WasConfirmedIn (front : List Event) (place id : ℕ) : Type 0 where
  pub subject : Record
  pub event : slice_get front id ≡ Some (Confirm subject)
  pub placed : subject.place ≡ place

-- an entry for which a place is held was confirmed in it
abbrev pub IsForEntryOf : List Event → ℕ → Option ℕ → Type 0
IsForEntryOf front place None = Unit {0}
IsForEntryOf front place (Some id) = WasConfirmedIn front place id

-- a reference is to a place of the pool
abbrev pub IsHoldOf : Sight → Hold → Type 0
IsHoldOf s h = (h.place < s.sizes.entries) × IsForEntryOf s.front h.place h.id

-- two references to one place are to one entry
pub record IsForOne (g h : Hold) : Type 0 where
  pub same : g.place ≡ h.place → g.id ≡ h.id
  pub entry : g.place ≡ h.place → IsSome g.id

-- The front is a legal history; the own events are events of it, in the order of their numbers. Held and
-- owed places are four at most; no place is both, and none is owed twice. Own events and spare are 2^30 at
-- most. A desk has a share at least, and with those that were returned to it no more than there are passes;
-- what it gathered are events of the front, at most 2^30 for each returned share. A pass that is the only
-- one has made every event itself, so that each of its answers is of the present state.
pub record IsKnown (s : Sight) : Type 0 where
  pub legal : is_legal s.sizes s.front ≡ true
  pub few : length s.front < 2 ^ 40
  pub own : AreEventsOf s.front s.own
  pub ordered : AllPairs (λ m n. m.number < n.number) s.own
  pub held : All (IsHoldOf s) s.held
  pub agreed : AllPairs IsForOne s.held
  pub owed : All (λ p. p < s.sizes.entries) s.owed
  pub unowed : All (λ h. is_owed h.place s.owed ≡ false) s.held
  pub once : AllPairs (λ p q. p ≢ q) s.owed
  pub places : length s.held + length s.owed ≤ 4
  pub spared : length s.own + s.spare ≤ 2 ^ 30
  pub shared : 1 ≤ s.shares
  pub passes : s.shares + s.returned ≤ s.sizes.passes
  pub gathered : AreEventsOf s.front s.gathered
  pub gathered_few : length s.gathered ≤ 2 ^ 30 * s.returned
  pub alone : s.sizes.passes ≡ 1 → s.own ≡ notes_from 0 s.front
