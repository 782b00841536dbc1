-- What the tracker is given of a frame.
use Rattle.std.specs.Prelude.{◌≡◌, ℕ, Bool, true, false, List, [], drop, take}
use Rattle.packet_headers.specs.declared.frame.Frame.{Frame}
use Rattle.packet_headers.specs.declared.packet.Packet.{Packet}
use Rattle.packet_headers.specs.declared.packet.Packet.TheVariants as packet
use Rattle.packet_headers.specs.declared.frame.Span.{Span}
use Rattle.packet_headers.specs.declared.packet.Untracked.{Untracked}
use Rattle.packet_headers.specs.declared.packet.Untracked.TheVariants as untracked
use Rattle.packet_headers.specs.Classify.{packet_of}
use Rattle.packet_path.specs.declared.packet.FlowView.{FlowView}
use Rattle.tuple_core.specs.Tuple.{in_zone}
use Rattle.tuple_core.specs.declared.Segment.{Segment}
use Rattle.tuple_core.specs.declared.Tuple.{Tuple}
use Rattle.history_book.specs.declared.verdict.UntrackedWhy.{UntrackedWhy}
use Rattle.history_book.specs.declared.verdict.UntrackedWhy.TheVariants as why

-- what its headers say, the time of its capture record in microseconds, and the payload
pub record Given : Type 0 where
  pub packet : Packet
  pub moment : ℕ
  pub payload : List ℕ

-- the bytes of a file in a span
abbrev pub bytes_in : List ℕ → Span → List ℕ
bytes_in bytes span = drop span.start (take span.end bytes)

-- the payload of a packet of a flow, as far as it was captured; of no other is one read
abbrev pub payload_of : List ℕ → Packet → List ℕ
payload_of bytes (packet.Untracked why) = []
payload_of bytes packet.Invalid = []
payload_of bytes (packet.Flow tuple segment span) = bytes_in bytes span
payload_of bytes (packet.Error inner outer) = []

-- what is given of a packet of a file with these bytes
abbrev pub given_by : List ℕ → Packet → ℕ → Given
given_by bytes packet moment = record { packet = packet; moment = moment; payload = payload_of bytes packet }

-- the packet in a zone: the tuple of its flow, and the one in an error, are of that zone
abbrev pub packet_in : ℕ → Packet → Packet
packet_in zone (packet.Untracked why) = packet.Untracked why
packet_in zone packet.Invalid = packet.Invalid
packet_in zone (packet.Flow tuple segment span) = packet.Flow (in_zone zone tuple) segment span
packet_in zone (packet.Error inner outer) = packet.Error (in_zone zone inner) outer

-- of a frame of a file with these bytes, in the zone of its capture
unfoldable pub given_of : ℕ → List ℕ → Frame → Given
given_of zone bytes frame = given_by bytes (packet_in zone (packet_of bytes frame)) frame.moment

-- a packet of a flow: its tuple, its segment, its moment in microseconds, and its payload as far as it was captured
pub record FlowPacket : Type 0 where
  pub tuple : Tuple
  pub segment : Segment
  pub moment : ℕ
  pub payload : List ℕ

-- the packet that the code reads, which has its payload on loan
abbrev pub flow_packet : FlowView → FlowPacket
flow_packet view = record { tuple = view.tuple; segment = view.segment; moment = view.moment; payload = view.payload.now }

-- by its headers a frame has a packet of a flow
abbrev pub is_flow : Packet → Bool
is_flow (packet.Untracked why) = false
is_flow packet.Invalid = false
is_flow (packet.Flow tuple segment span) = true
is_flow (packet.Error inner outer) = false

-- the frame is this packet of a flow
pub record IsFlow (given : Given) (p : FlowPacket) : Type 0 where
  pub span : Span
  pub headers : given.packet ≡ packet.Flow p.tuple p.segment span
  pub moment : p.moment ≡ given.moment
  pub payload : p.payload ≡ given.payload

-- the headers' reason why a frame is not tracked
abbrev pub cause_of : UntrackedWhy → Untracked
cause_of why.Link = untracked.Link
cause_of why.Fragment = untracked.Fragment
cause_of why.Protocol = untracked.Protocol
