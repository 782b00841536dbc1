-- A packet of ICMP (RFC 792).
use Rattle.std.specs.Prelude.{ℕ, if◌then◌else◌, List, Option, Some, None}
use Rattle.tuple_core.specs.declared.Segment.TheVariants as segment
use Rattle.tuple_core.specs.declared.Tuple.{Tuple}
use Rattle.packet_headers.specs.declared.classify.ipv4.Ipv4Payload.{Ipv4Payload}
use Rattle.packet_headers.specs.declared.packet.Packet.{Packet}
use Rattle.packet_headers.specs.declared.packet.Packet.TheVariants.{Invalid, Flow}
use Rattle.packet_headers.specs.Span.{empty_span}
use Rattle.packet_headers.specs.IcmpHeader.{icmp_type, is_error_type, has_icmp_header, query_tuple}
use Rattle.packet_headers.specs.IcmpError.{icmp_error}

-- a message that asks or answers is of a flow, and an error is about one; every other is wrong
abbrev pub message_of : Option Tuple → List ℕ → Ipv4Payload → Packet
message_of (Some tuple) bytes payload = Flow tuple (segment.Icmp (icmp_type bytes payload.start)) empty_span
message_of None bytes payload = (if is_error_type (icmp_type bytes payload.start) then icmp_error bytes payload else Invalid)

unfoldable pub icmp_packet : List ℕ → Ipv4Payload → Packet
icmp_packet bytes payload =
    (if has_icmp_header payload
    then message_of (query_tuple payload.addresses bytes payload.start) bytes payload
    else Invalid)
