-- Room for the flow of a packet: where the table is full, an entry that may go is dropped for it, and the flow may have
-- its place.
use Rattle.std.specs.Prelude.{◌≡◌, ℕ, ◌<◌, ◌≤◌, Bool, Option, Some, None, List, [], ◌∷◌, length}
use Rattle.history_book.specs.declared.event.Event.{Event}
use Rattle.history_book.specs.declared.event.Event.TheVariants.{Destroy}
use Rattle.history_book.specs.declared.event.Note.{Note}
use Rattle.history_book.specs.declared.event.Why.TheVariants.{Dropped}
use Rattle.history_book.specs.declared.record.Record.{Record}
use Rattle.history_book.specs.declared.sizes.Sizes.{Sizes}
use Rattle.history_book.specs.History.{after}
use Rattle.history_book.specs.Legality.{is_reason}
use Rattle.history_book.specs.Notes.{Happened}
use Rattle.history_book.specs.Point.{At}
use Rattle.history_book.specs.Sizes.{fewest_of_full}
use Rattle.history_book.specs.State.{record_of}
use Rattle.pool_visits.specs.Visit.{LivedThroughout}
use Rattle.packet_path.specs.Packet.{FlowPacket}

-- a drop: the number of the event, and the entry as it was found
pub record Dropping : Type 0 where
  pub number : ℕ
  pub subject : Record

-- the packet's drop, as an event
abbrev pub drop_by : FlowPacket → Dropping → Note
drop_by packet d = record { number = d.number; event = Destroy d.subject.id (Dropped packet.moment) }

-- the events of a drop, where one was made
abbrev pub drops_by : FlowPacket → Option Dropping → List Note
drops_by packet None = []
drops_by packet (Some d) = drop_by packet d ∷ []

-- the entry may be dropped for the packet: it is expired at the packet's moment, or may go in a full table
abbrev pub may_go : FlowPacket → Record → Bool
may_go packet = is_reason (Dropped packet.moment)

-- at this point as many entries were live as a full table has
abbrev pub IsFullAt : Sizes → List Event → ℕ → Type 0
IsFullAt sizes log p = At log p (λ s. fewest_of_full sizes ≤ length s.records)

-- no entry that passes the test stood at a lower place than this throughout, from the one point to the other
abbrev pub NoneBefore : List Event → (Record → Bool) → ℕ → ℕ → ℕ → Type 0
NoneBefore log test place from to =
    (id : ℕ) (r : Record) → record_of id (after log to) ≡ Some r → r.place < place → LivedThroughout log test from to id → ⊥

-- the table was full at the first point, and from there on the packet dropped this entry, before the last; none that
-- could go at a lower place was passed over
pub record MakesRoom (sizes : Sizes) (log : List Event) (packet : FlowPacket) (from : ℕ) (d : Dropping) (upto : ℕ) : Type 0 where
  pub full : IsFullAt sizes log from
  pub happened : Happened log from (drop_by packet d)
  pub before : d.number < upto
  pub found : At log d.number (λ s. record_of d.subject.id s ≡ Some d.subject)
  pub first : NoneBefore log (may_go packet) d.subject.place from d.number

-- between these points a place was had for the packet's flow: a free one, or after a drop
abbrev pub HasRoom : Sizes → List Event → FlowPacket → ℕ → Option Dropping → ℕ → Type 0
HasRoom sizes log packet from None upto = from ≤ upto
HasRoom sizes log packet from (Some d) upto = MakesRoom sizes log packet from d upto

-- the table was full at the first point, and no entry that could go was live throughout from it to the last
pub record FindsNoneToDrop (sizes : Sizes) (log : List Event) (packet : FlowPacket) (from at : ℕ) : Type 0 where
  pub full : IsFullAt sizes log from
  pub order : from ≤ at
  pub within : at ≤ length log
  pub none : (id : ℕ) → LivedThroughout log (may_go packet) from at id → ⊥

-- the packet dropped an entry, and the table was full again at the last point
pub record DropsInVain (sizes : Sizes) (log : List Event) (packet : FlowPacket) (from : ℕ) (d : Dropping) (at : ℕ) : Type 0 where
  pub room : MakesRoom sizes log packet from d at
  pub full : IsFullAt sizes log at

-- between these points no place was had for the packet's flow
abbrev pub StaysFull : Sizes → List Event → FlowPacket → ℕ → Option Dropping → ℕ → Type 0
StaysFull sizes log packet from None at = FindsNoneToDrop sizes log packet from at
StaysFull sizes log packet from (Some d) at = DropsInVain sizes log packet from d at
