-- A packet that the entry of its flow accepted, or that reset it.
use Rattle.std.specs.Prelude.{◌≡◌, ℕ, ◌+◌, ◌⊎◌, Some, List, [], ◌∷◌}
use Rattle.proto_rules.specs.declared.Part.{Part}
use Rattle.history_book.specs.declared.event.Event.{Event}
use Rattle.history_book.specs.declared.event.Event.TheVariants.{Destroy, Touch}
use Rattle.history_book.specs.declared.event.Note.{Note}
use Rattle.history_book.specs.declared.event.Why.TheVariants.{Reset}
use Rattle.history_book.specs.declared.verdict.Ftp.{Ftp}
use Rattle.history_book.specs.declared.verdict.Ftp.TheVariants.{Nothing}
use Rattle.history_book.specs.declared.verdict.Label.{Label}
use Rattle.history_book.specs.Label.{label_of}
use Rattle.history_book.specs.Notes.{Happened}
use Rattle.history_book.specs.Point.{At}
use Rattle.history_book.specs.State.{Found, live_under}
use Rattle.history_book.specs.declared.sizes.Sizes.{Sizes}
use Rattle.packet_path.specs.FtpPart.{FtpFits}
use Rattle.packet_path.specs.Packet.{FlowPacket}

-- the Touch of the entry that was found, by this packet
abbrev pub touch_by : FlowPacket → Found → Part → Event
touch_by packet found after = Touch found.subject.id found.direction packet.segment packet.moment after

-- the Destroy of the entry that was found, which this packet reset
abbrev pub reset_by : FlowPacket → Found → Event
reset_by packet found = Destroy found.subject.id (Reset packet.segment packet.moment)

-- the entry accepted the packet by this event, and then this came of the payload
pub record IsAccepted (sizes : Sizes) (log : List Event) (packet : FlowPacket) (found : Found) (note : Note)
    (further : List Note) (ftp : Ftp) : Type 0 where
  pub after : Part
  pub event : note.event ≡ touch_by packet found after
  pub payload : FtpFits sizes log packet found note.number further ftp

-- the packet reset the entry by this event, and its payload is not read
pub record IsReset (packet : FlowPacket) (found : Found) (note : Note) (further : List Note) (ftp : Ftp) : Type 0 where
  pub event : note.event ≡ reset_by packet found
  pub none : further ≡ []
  pub payload : ftp ≡ Nothing

-- one of the two
abbrev pub IsPassing : Sizes → List Event → FlowPacket → Found → Note → List Note → Ftp → Type 0
IsPassing sizes log packet found note further ftp =
    IsAccepted sizes log packet found note further ftp ⊎ IsReset packet found note further ftp

-- what a verdict says of a packet that passed: the label, the entry, the point, and what came of the payload
pub record Passing : Type 0 where
  pub label : Label
  pub id : ℕ
  pub at : ℕ
  pub ftp : Ftp

-- Its first further event is such a one, just before the point, and any other is what came of the payload; the entry
-- is the one that is live under the packet's tuple there, and the label is that of the record before.
pub record Passes (sizes : Sizes) (log : List Event) (k : ℕ) (packet : FlowPacket) (rest : List Note)
    (said : Passing) : Type 0 where
  pub note : Note
  pub found : Found
  pub further : List Note
  pub own : rest ≡ note ∷ further
  pub happened : Happened log k note
  pub passing : IsPassing sizes log packet found note further said.ftp
  pub live : At log note.number (λ s. live_under packet.tuple s ≡ Some found)
  pub named : found.subject.id ≡ said.id
  pub labelled : said.label ≡ label_of found.subject found.direction
  pub point : said.at ≡ note.number + 1
