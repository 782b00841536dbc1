-- What comes of the payload of a packet that an entry accepted (RFC 959, RFC 2428).
use Rattle.std.specs.Prelude.{◌≡◌, ◌⊎◌, ℕ, ◌+◌, ◌<◌, Bool, true, false, ◌&&◌, Option, Some, None, List, [], ◌∷◌}
use Rattle.expect_table.specs.declared.expectation.Want.{Want}
use Rattle.expect_table.specs.declared.table.AddOutcome.{AddOutcome}
use Rattle.expect_table.specs.declared.table.AddOutcome.TheVariants as add
use Rattle.ftp_helper.specs.declared.payload.NamedEnd.{NamedEnd}
use Rattle.ftp_helper.specs.Payload.{NamesEnd}
use Rattle.ftp_helper.specs.Want.{want_of}
use Rattle.tuple_core.specs.declared.Proto.TheVariants as proto
use Rattle.history_book.specs.declared.event.Event.{Event}
use Rattle.history_book.specs.declared.event.Event.TheVariants.{Expect}
use Rattle.history_book.specs.declared.event.Note.{Note}
use Rattle.history_book.specs.declared.sizes.Sizes.{Sizes}
use Rattle.history_book.specs.declared.verdict.Ftp.{Ftp}
use Rattle.history_book.specs.declared.verdict.Ftp.TheVariants as ftp
use Rattle.history_book.specs.declared.verdict.Label.{Label}
use Rattle.history_book.specs.declared.verdict.Label.TheVariants.{New, Related, Established, EstablishedReply}
use Rattle.history_book.specs.DeskExpectations.{AddGives, expectation_at}
use Rattle.history_book.specs.Label.{label_of}
use Rattle.history_book.specs.Legality.{same_proto}
use Rattle.history_book.specs.Notes.{Happened}
use Rattle.history_book.specs.Point.{At}
use Rattle.history_book.specs.State.{Found, record_of}
use Rattle.packet_path.specs.Packet.{FlowPacket}

-- the packet is an answer, or one was seen before it
abbrev pub is_established : Label → Bool
is_established New = false
is_established Related = false
is_established Established = true
is_established EstablishedReply = true

-- the payload is read: the packet is of TCP, the entry, as the packet found it, has the helper, and the packet is an
-- answer, or one was seen before it
abbrev pub is_read : FlowPacket → Found → Bool
is_read packet found =
    same_proto packet.tuple.proto proto.Tcp && found.subject.helper && is_established (label_of found.subject found.direction)

-- no payload is read, or it names no end
abbrev pub NamesNone : FlowPacket → Found → Type 0
NamesNone packet found =
    (is_read packet found ≡ false) ⊎ ((end : NamedEnd) → NamesEnd found.direction packet.payload end → ⊥)

-- the payload is read and names an end, for which this is wanted; a foreign end is named, and nothing is wanted for it
pub record Asks (packet : FlowPacket) (found : Found) (want : Option Want) : Type 0 where
  pub read : is_read packet found ≡ true
  pub end : NamedEnd
  pub names : NamesEnd found.direction packet.payload end
  pub wants : want_of found.direction found.subject.original found.subject.reply end ≡ want

-- the entry's Expect, in its zone, as event n
abbrev pub expect_by : FlowPacket → Found → ℕ → Want → Option ℕ → Note
expect_by packet found n want replaced =
    record { number = n; event = Expect (expectation_at n found.subject.id found.subject.original.zone want packet.moment) replaced packet.moment }

-- the entry expects what its payload asks for: the one further event is its Expect, past this one
pub record ExpectsEnd (log : List Event) (packet : FlowPacket) (found : Found) (touched : ℕ) (further : List Note)
    (id : ℕ) : Type 0 where
  pub want : Want
  pub asked : Asks packet found (Some want)
  pub replaced : Option ℕ
  pub own : further ≡ expect_by packet found id want replaced ∷ []
  pub happened : Happened log (touched + 1) (expect_by packet found id want replaced)

-- no further event; at this point, past the event, the entry was live, and adding what its payload asks for gave this
pub record RefusesEnd (sizes : Sizes) (log : List Event) (packet : FlowPacket) (found : Found) (touched : ℕ)
    (further : List Note) (outcome : AddOutcome) (at : ℕ) : Type 0 where
  pub want : Want
  pub asked : Asks packet found (Some want)
  pub own : further ≡ []
  pub later : touched < at
  pub gives : At log at (AddGives sizes.expectations at found.subject.id found.subject.original.zone want packet.moment outcome)

-- no further event; the payload asks for something, and at this point, past the event, the entry was not live
pub record LosesMaster (log : List Event) (packet : FlowPacket) (found : Found) (touched : ℕ) (further : List Note)
    (at : ℕ) : Type 0 where
  pub want : Want
  pub asked : Asks packet found (Some want)
  pub own : further ≡ []
  pub later : touched < at
  pub gone : At log at (λ s. record_of found.subject.id s ≡ None)

-- What came of the payload of a packet of which the Touch was this event, and the further events that it made. Room
-- for expectations is that of the sizes.
abbrev pub FtpFits : Sizes → List Event → FlowPacket → Found → ℕ → List Note → Ftp → Type 0
FtpFits sizes log packet found touched further ftp.Nothing = (further ≡ []) × NamesNone packet found
FtpFits sizes log packet found touched further ftp.Address = (further ≡ []) × Asks packet found None
FtpFits sizes log packet found touched further (ftp.Expected id) = ExpectsEnd log packet found touched further id
FtpFits sizes log packet found touched further (ftp.Clash id at) =
    RefusesEnd sizes log packet found touched further (add.Clash id) at
FtpFits sizes log packet found touched further (ftp.Full at) =
    RefusesEnd sizes log packet found touched further add.Full at
FtpFits sizes log packet found touched further (ftp.Gone at) = LosesMaster log packet found touched further at
