-- The header of a UDP datagram (RFC 768). `at` is the place of its first byte.
use Rattle.std.specs.Prelude.{ℕ, ◌+◌, Bool, ◌&&◌, nat_le, if◌then◌else◌, List}
use Rattle.tuple_core.specs.declared.Proto.TheVariants as proto
use Rattle.tuple_core.specs.declared.Segment.TheVariants as segment
use Rattle.packet_headers.specs.declared.classify.ipv4.Ipv4Payload.{Ipv4Payload}
use Rattle.packet_headers.specs.declared.packet.Packet.{Packet}
use Rattle.packet_headers.specs.declared.packet.Packet.TheVariants.{Invalid, Flow}
use Rattle.packet_headers.specs.ByteOrder.{big_u16_at}
use Rattle.packet_headers.specs.Span.{empty_span}
use Rattle.packet_headers.specs.Ports.{ports_tuple}

-- the bytes of the datagram, header and data
abbrev pub udp_length : List ℕ → ℕ → ℕ
udp_length bytes at = big_u16_at bytes (at + 4)

-- the packet has room for a UDP header, which was captured up to its length; the length counts the
-- header, and no more bytes than the packet has
abbrev pub has_udp_header : List ℕ → Ipv4Payload → Bool
has_udp_header bytes payload =
    nat_le 8 payload.length && nat_le 6 payload.captured
    && nat_le 8 (udp_length bytes payload.start) && nat_le (udp_length bytes payload.start) payload.length

unfoldable pub udp_packet : List ℕ → Ipv4Payload → Packet
udp_packet bytes payload =
    (if has_udp_header bytes payload
    then Flow (ports_tuple proto.Udp payload.addresses bytes payload.start) segment.Udp empty_span
    else Invalid)
