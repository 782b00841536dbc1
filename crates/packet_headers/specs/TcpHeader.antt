-- The header of a TCP segment (RFC 9293, section 3.1). `at` is the place of its first byte.
use Rattle.std.specs.Prelude.{ℕ, ◌+◌, ◌*◌, ◌/◌, Bool, ◌&&◌, nat_le, if◌then◌else◌, List, slice_index}
use Rattle.tuple_core.specs.declared.Proto.TheVariants as proto
use Rattle.tuple_core.specs.declared.Segment.TheVariants as segment
use Rattle.packet_headers.specs.declared.classify.ipv4.Ipv4Payload.{Ipv4Payload}
use Rattle.packet_headers.specs.declared.frame.Span.{Span}
use Rattle.packet_headers.specs.declared.packet.Packet.{Packet}
use Rattle.packet_headers.specs.declared.packet.Packet.TheVariants.{Invalid, Flow}
use Rattle.packet_headers.specs.Ports.{ports_tuple}
use Rattle.packet_headers.specs.Span.{empty_span, span_of}
use Rattle.packet_headers.specs.TcpFlags.{is_valid_flag_set, kind}

-- the bytes before the segment's data: it states their 32-bit words
abbrev pub data_offset : List ℕ → ℕ → ℕ
data_offset bytes at = 4 * (slice_index bytes (at + 12) / 16)

-- the byte of the control bits
abbrev pub flags_at : List ℕ → ℕ → ℕ
flags_at bytes at = slice_index bytes (at + 13)

-- the packet has room for a TCP header, which was captured up to its control bits; the header has at
-- least its fixed part, and no more bytes than the packet has; the control bits go together
abbrev pub has_tcp_header : List ℕ → Ipv4Payload → Bool
has_tcp_header bytes payload =
    nat_le 20 payload.length && nat_le 14 payload.captured
    && nat_le 20 (data_offset bytes payload.start) && nat_le (data_offset bytes payload.start) payload.length
    && is_valid_flag_set (flags_at bytes payload.start)

-- the segment's data as far as it was captured; empty where the header itself was cut
abbrev pub tcp_payload : List ℕ → Ipv4Payload → Span
tcp_payload bytes payload =
    (if nat_le (data_offset bytes payload.start) payload.captured
    then span_of (payload.start + data_offset bytes payload.start) (payload.start + payload.captured)
    else empty_span)

unfoldable pub tcp_packet : List ℕ → Ipv4Payload → Packet
tcp_packet bytes payload =
    (if has_tcp_header bytes payload
    then Flow (ports_tuple proto.Tcp payload.addresses bytes payload.start)
    (segment.Tcp (kind (flags_at bytes payload.start))) (tcp_payload bytes payload)
    else Invalid)
