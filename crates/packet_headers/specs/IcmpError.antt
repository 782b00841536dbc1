-- The packet that an ICMP error is about (RFC 792): the message repeats, behind its own eight bytes,
-- that packet's IPv4 header and at least the first eight bytes of what it carried.
use Rattle.std.specs.Prelude.{ℕ, ◌+◌, Bool, ◌&&◌, nat_le, ◌==◌, if◌then◌else◌, List, Option, Some, None}
use Rattle.tuple_core.specs.declared.Proto.{Proto}
use Rattle.tuple_core.specs.declared.Proto.TheVariants.{Icmp, Tcp, Udp}
use Rattle.tuple_core.specs.declared.Tuple.{Tuple}
use Rattle.packet_headers.specs.declared.classify.ipv4.Ipv4Payload.{Ipv4Payload}
use Rattle.packet_headers.specs.declared.packet.Packet.{Packet}
use Rattle.packet_headers.specs.declared.packet.Packet.TheVariants.{Invalid, Error}
use Rattle.packet_headers.specs.Ipv4Header.{version, header_length, fragment_offset, protocol, tracked_protocol, addresses_of}
use Rattle.packet_headers.specs.Ports.{ports_tuple}
use Rattle.packet_headers.specs.IcmpHeader.{query_tuple}

-- where the inner IPv4 header begins
abbrev pub inner_start : Ipv4Payload → ℕ
inner_start payload = payload.start + 8

-- where the header behind the inner IPv4 header begins
abbrev pub inner_payload_start : List ℕ → Ipv4Payload → ℕ
inner_payload_start bytes payload = inner_start payload + header_length bytes (inner_start payload)

-- the inner header's fixed part is there and was captured, it is of version 4, has at least that part,
-- eight bytes stand behind it, and it is of no later fragment
abbrev pub has_inner_header : List ℕ → Ipv4Payload → Bool
has_inner_header bytes payload =
    nat_le 28 payload.length && nat_le 28 payload.captured
    && version bytes (inner_start payload) == 4 && nat_le 20 (header_length bytes (inner_start payload))
    && nat_le (16 + header_length bytes (inner_start payload)) payload.length
    && fragment_offset bytes (inner_start payload) == 0

-- so many bytes behind the inner IPv4 header were captured
abbrev pub has_inner_bytes : List ℕ → Ipv4Payload → ℕ → Bool
has_inner_bytes bytes payload count =
    nat_le (8 + header_length bytes (inner_start payload) + count) payload.captured

-- the inner packet's ports were captured
abbrev pub inner_ports : Proto → List ℕ → Ipv4Payload → Option Tuple
inner_ports proto bytes payload =
    (if has_inner_bytes bytes payload 4
    then Some (ports_tuple proto (addresses_of bytes (inner_start payload)) bytes (inner_payload_start bytes payload))
    else None)

-- the inner message was captured up to its identifier, and asks or answers
abbrev pub inner_query : List ℕ → Ipv4Payload → Option Tuple
inner_query bytes payload =
    (if has_inner_bytes bytes payload 6
    then query_tuple (addresses_of bytes (inner_start payload)) bytes (inner_payload_start bytes payload)
    else None)

-- the inner packet's flow, by its protocol
abbrev pub inner_flow : Option Proto → List ℕ → Ipv4Payload → Option Tuple
inner_flow None bytes payload = None
inner_flow (Some Icmp) bytes payload = inner_query bytes payload
inner_flow (Some Tcp) bytes payload = inner_ports Tcp bytes payload
inner_flow (Some Udp) bytes payload = inner_ports Udp bytes payload

unfoldable pub inner_tuple : List ℕ → Ipv4Payload → Option Tuple
inner_tuple bytes payload =
    (if has_inner_header bytes payload
    then inner_flow (tracked_protocol (protocol bytes (inner_start payload))) bytes payload
    else None)

-- an error about the inner packet's flow, sent to this address
abbrev pub error_about : Option Tuple → ℕ → Packet
error_about None destination = Invalid
error_about (Some inner) destination = Error inner destination

abbrev pub icmp_error : List ℕ → Ipv4Payload → Packet
icmp_error bytes payload = error_about (inner_tuple bytes payload) payload.addresses.destination
