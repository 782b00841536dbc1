-- What holds of every packet that the headers of a frame give.
use Rattle.std.specs.Prelude.{◌≡◌, ℕ, Bool, true, List, ⊤}
use Rattle.tuple_core.specs.declared.Proto.{Proto}
use Rattle.tuple_core.specs.declared.Proto.TheVariants as proto
use Rattle.tuple_core.specs.declared.Segment.{Segment}
use Rattle.tuple_core.specs.declared.Segment.TheVariants.{Tcp, Udp, Icmp}
use Rattle.tuple_core.specs.Tuple.{is_valid}
use Rattle.packet_headers.specs.declared.packet.Packet.{Packet}
use Rattle.packet_headers.specs.declared.packet.Packet.TheVariants.{Untracked, Invalid, Flow, Error}
use Rattle.packet_headers.specs.Span.{IsSpanIn}

-- the protocol that a segment is of
abbrev pub protocol_of : Segment → Proto
protocol_of (Tcp kind) = proto.Tcp
protocol_of Udp = proto.Udp
protocol_of (Icmp type) = proto.Icmp

-- the tuple of a flow, and the inner one of an error, is valid
abbrev pub has_valid_tuple : Packet → Bool
has_valid_tuple (Untracked why) = true
has_valid_tuple Invalid = true
has_valid_tuple (Flow tuple segment payload) = is_valid tuple
has_valid_tuple (Error inner destination) = is_valid inner

-- the segment of a flow is of its tuple's protocol
abbrev pub HasItsProtocol : Packet → Type 0
HasItsProtocol (Untracked why) = ⊤
HasItsProtocol Invalid = ⊤
HasItsProtocol (Flow tuple segment payload) = tuple.proto ≡ protocol_of segment
HasItsProtocol (Error inner destination) = ⊤

-- the payload of a flow lies in the bytes
abbrev pub HasPayloadIn : List ℕ → Packet → Type 0
HasPayloadIn bytes (Untracked why) = ⊤
HasPayloadIn bytes Invalid = ⊤
HasPayloadIn bytes (Flow tuple segment payload) = IsSpanIn bytes payload
HasPayloadIn bytes (Error inner destination) = ⊤

abbrev pub IsSound : List ℕ → Packet → Type 0
IsSound bytes packet = (has_valid_tuple packet ≡ true) × HasItsProtocol packet × HasPayloadIn bytes packet
