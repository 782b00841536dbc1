-- What the headers behind an IPv4 header say does not change with their place.
use Rattle.std.proofs.Common.{◌≡◌, ℕ, ◌+◌, ◌*◌, ◌/◌, ◌%◌, ◌^◌, ◌<◌, ◌≤◌, Bool, true, false, cond, ◌&&◌, Option, Some, None, List, refl, sym, ◌∙◌, arith}
use Rattle.std.proofs.lemmas.Bool.Decides.{nat_tests}
use Rattle.std.specs.Prelude.{◌==◌, nat_le, slice_index}
use Rattle.tuple_core.specs.declared.Proto.{Proto}
use Rattle.tuple_core.specs.declared.Proto.TheVariants.{Icmp, Tcp, Udp}
use Rattle.tuple_core.specs.declared.Segment.TheVariants as segment
use Rattle.tuple_core.specs.declared.Tuple.{Tuple}
use Rattle.tuple_core.specs.Tuple.{icmp_tuple, is_query_type}
use Rattle.packet_headers.specs.declared.classify.ipv4.Addresses.{Addresses}
use Rattle.packet_headers.specs.declared.classify.ipv4.Ipv4Payload.{Ipv4Payload}
use Rattle.packet_headers.specs.declared.packet.Packet.TheVariants.{Invalid, Flow}
use Rattle.packet_headers.specs.ClassifyLaws.{moved, moved_span}
use Rattle.packet_headers.specs.IcmpError.{error_about, has_inner_bytes, has_inner_header, icmp_error, inner_flow, inner_payload_start, inner_ports, inner_query, inner_start, inner_tuple}
use Rattle.packet_headers.specs.IcmpHeader.{icmp_type, is_error_type, query_tuple}
use Rattle.packet_headers.specs.IcmpPacket.{icmp_packet, message_of}
use Rattle.packet_headers.specs.Ipv4Header.{addresses_of, fragment_offset, header_length, protocol, tracked_protocol, version}
use Rattle.packet_headers.specs.Ports.{ports_tuple}
use Rattle.packet_headers.specs.Span.{empty_span, span_of}
use Rattle.packet_headers.specs.TcpFlags.{is_valid_flag_set, kind}
use Rattle.packet_headers.specs.TcpHeader.{data_offset, flags_at, has_tcp_header, tcp_packet, tcp_payload}
use Rattle.packet_headers.specs.UdpHeader.{has_udp_header, udp_length, udp_packet}
use Rattle.packet_headers.proofs.SameBytes.{Same, same_behind, u16_same, u32_same, chosen, guarded, first_holds}

-- the bytes at one place and at another are the same header
pub header_same : (bytes other : List ℕ) (at place count : ℕ) → Same bytes other at place count → 0 < count
    → header_length bytes at ≡ header_length other place
header_same bytes other at place count same fits =
    let first = same.each at place 0 (omega arith) (omega arith) fits in
    λ i. 4 * (first i % 16)

-- the addresses of a header
pub addresses_same : (bytes other : List ℕ) (at place count : ℕ) → Same bytes other at place count → 20 ≤ count
    → addresses_of bytes at ≡ addresses_of other place
addresses_same bytes other at place count same fits =
    let source = u32_same bytes other at place count same 12 (omega arith) in
    let destination = u32_same bytes other at place count same 16 (omega arith) in
    λ i. record { source = source i; destination = destination i }

-- the ports
ports_same : (proto : Proto) (addresses : Addresses) (bytes other : List ℕ) (at place count : ℕ) → Same bytes other at place count → 4 ≤ count
    → ports_tuple proto addresses bytes at ≡ ports_tuple proto addresses other place
ports_same proto addresses bytes other at place count same fits =
    let near = same.each at place 0 (omega arith) (omega arith) (omega arith) in
    let next = same.each (at + 1) (place + 1) 1 refl refl (omega arith) in
    let b = u16_same bytes other at place count same 2 (omega arith) in
    λ i. record { proto = proto; zone = 0; src = addresses.source; dst = addresses.destination; a = 256 * near i + next i; b = b i }

-- the tuple of a message that asks or answers
query_same : (addresses : Addresses) (bytes other : List ℕ) (at place count : ℕ) → Same bytes other at place count → 6 ≤ count
    → query_tuple addresses bytes at ≡ query_tuple addresses other place
query_same addresses bytes other at place count same fits =
    let type = same.each at place 0 (omega arith) (omega arith) (omega arith) in
    let code = same.each (at + 1) (place + 1) 1 refl refl (omega arith) in
    let identifier = u16_same bytes other at place count same 4 (omega arith) in
    λ i. cond (is_query_type (type i))
    (Some (icmp_tuple addresses.source addresses.destination (type i) (code i) (identifier i))) None

-- the tests of a header of UDP, behind that for room
abbrev udp_tests : List ℕ → Ipv4Payload → Bool → Bool
udp_tests bytes payload room = room && nat_le 8 (udp_length bytes payload.start) && nat_le (udp_length bytes payload.start) payload.length

-- those of a header of TCP
abbrev tcp_tests : List ℕ → Ipv4Payload → Bool → Bool
tcp_tests bytes payload room =
    room && nat_le 20 (data_offset bytes payload.start) && nat_le (data_offset bytes payload.start) payload.length
    && is_valid_flag_set (flags_at bytes payload.start)

-- those of the header that an error repeats
abbrev inner_tests : List ℕ → Ipv4Payload → Bool → Bool
inner_tests bytes payload room =
    room && version bytes (inner_start payload) == 4 && nat_le 20 (header_length bytes (inner_start payload))
    && nat_le (16 + header_length bytes (inner_start payload)) payload.length && fragment_offset bytes (inner_start payload) == 0

-- two payloads that differ in nothing but their place
pub record Twins (bytes other : List ℕ) (shift : ℕ) (p q : Ipv4Payload) : Type 0 where
  pub addresses : p.addresses ≡ q.addresses
  pub length : p.length ≡ q.length
  pub captured : p.captured ≡ q.captured
  pub start : p.start ≡ q.start + shift
  pub behind : 0 < q.start
  pub same : Same bytes other p.start q.start p.captured

module _ (bytes other : List ℕ) (shift : ℕ) (p q : Ipv4Payload) (twins : Twins bytes other shift p q) where
  -- a byte of the payload that was captured
  byte_same : (k : ℕ) → k < p.captured → slice_index bytes (p.start + k) ≡ slice_index other (q.start + k)
  byte_same k fits = twins.same.each (p.start + k) (q.start + k) k refl refl fits

  -- the first of them
  first_same : 0 < p.captured → slice_index bytes p.start ≡ slice_index other q.start
  first_same fits = twins.same.each p.start q.start 0 (omega arith) (omega arith) fits

  -- the ports with their addresses
  ports : (proto : Proto) → 4 ≤ p.captured → ports_tuple proto p.addresses bytes p.start ≡ ports_tuple proto q.addresses other q.start
  ports proto fits =
      ports_same proto p.addresses bytes other p.start q.start p.captured twins.same fits
      ∙ (λ i. ports_tuple proto (twins.addresses i) other q.start)

  -- the length of a datagram
  udp_length_same : 6 ≤ p.captured → udp_length bytes p.start ≡ udp_length other q.start
  udp_length_same fits = u16_same bytes other p.start q.start p.captured twins.same 4 (omega (arith, fits))

  -- the packet has so much room, of which so much was captured
  abbrev room : ℕ → ℕ → Ipv4Payload → Bool
  room most least payload = nat_le most payload.length && nat_le least payload.captured

  -- room is the same on both sides
  room_same : (most least : ℕ) → room most least p ≡ room most least q
  room_same most least = λ i. nat_le most (twins.length i) && nat_le least (twins.captured i)

  -- what room says of the captured bytes
  enough : (most least : ℕ) → room most least p ≡ true → least ≤ p.captured
  enough most least h = grind (arith, nat_tests)

  -- a header of UDP is right on both sides
  has_udp_same : has_udp_header bytes p ≡ has_udp_header other q
  has_udp_same =
      guarded (udp_tests bytes p)
      (udp_tests other q)
      (room 8 6 p) (room 8 6 q) (room_same 8 6) refl
      (λ h. let e = udp_length_same (enough 8 6 h) in λ i. nat_le 8 (e i) && nat_le (e i) (twins.length i))

  -- a right one was captured up to its length
  has_udp_room : has_udp_header bytes p ≡ true → 6 ≤ p.captured
  has_udp_room h =
      enough 8 6 (first_holds (udp_tests bytes p)
      (room 8 6 p) refl h)

  -- a datagram
  pub udp_same : udp_packet bytes p ≡ moved shift (udp_packet other q)
  unfolding udp_packet
  udp_same =
      chosen (moved shift) (has_udp_header bytes p) (has_udp_header other q)
      (Flow (ports_tuple Udp p.addresses bytes p.start) segment.Udp empty_span) Invalid
      (Flow (ports_tuple Udp q.addresses other q.start) segment.Udp empty_span) Invalid
      has_udp_same
      (λ h. let e = ports Udp (omega (arith, has_udp_room h)) in λ i. Flow (e i) segment.Udp empty_span)
      (λ h. refl)

  -- the length of a header of TCP
  data_offset_same : 14 ≤ p.captured → data_offset bytes p.start ≡ data_offset other q.start
  data_offset_same fits = let e = byte_same 12 (omega (arith, fits)) in λ i. 4 * (e i / 16)

  -- its control bits
  flags_same : 14 ≤ p.captured → flags_at bytes p.start ≡ flags_at other q.start
  flags_same fits = byte_same 13 (omega (arith, fits))

  -- a header of TCP is right on both sides
  has_tcp_same : has_tcp_header bytes p ≡ has_tcp_header other q
  has_tcp_same =
      guarded (tcp_tests bytes p)
      (tcp_tests other q)
      (room 20 14 p) (room 20 14 q) (room_same 20 14) refl
      (λ h. let e = data_offset_same (enough 20 14 h) in let f = flags_same (enough 20 14 h) in
      λ i. nat_le 20 (e i) && nat_le (e i) (twins.length i) && is_valid_flag_set (f i))

  -- a right one was captured up to its control bits
  has_tcp_room : has_tcp_header bytes p ≡ true → 14 ≤ p.captured
  has_tcp_room h =
      enough 20 14 (first_holds (tcp_tests bytes p) (room 20 14 p) refl h)

  -- a span that ends behind the first byte moves
  told : (start end : ℕ) → 0 < end → moved_span shift (span_of start end) ≡ span_of (start + shift) (end + shift)
  told start end h =
      let some : (end == 0) ≡ false = grind (arith, nat_tests) in
      λ i. cond (some i) (span_of start end) (span_of (start + shift) (end + shift))

  -- the payload of a segment moves
  tcp_payload_same : 14 ≤ p.captured → tcp_payload bytes p ≡ moved_span shift (tcp_payload other q)
  tcp_payload_same fits =
      let e = data_offset_same fits in
      let from : p.start + data_offset bytes p.start ≡ q.start + data_offset other q.start + shift = omega (arith, e, twins.start) in
      let to : p.start + p.captured ≡ q.start + q.captured + shift = omega (arith, twins.captured, twins.start) in
      chosen (moved_span shift) (nat_le (data_offset bytes p.start) p.captured) (nat_le (data_offset other q.start) q.captured)
      (span_of (p.start + data_offset bytes p.start) (p.start + p.captured)) empty_span
      (span_of (q.start + data_offset other q.start) (q.start + q.captured)) empty_span
      (λ i. nat_le (e i) (twins.captured i))
      (λ h. (λ i. span_of (from i) (to i))
      ∙ sym (told (q.start + data_offset other q.start) (q.start + q.captured) (omega (arith, twins.behind))))
      (λ h. refl)

  -- a segment
  pub tcp_same : tcp_packet bytes p ≡ moved shift (tcp_packet other q)
  unfolding tcp_packet
  tcp_same =
      chosen (moved shift) (has_tcp_header bytes p) (has_tcp_header other q)
      (Flow (ports_tuple Tcp p.addresses bytes p.start) (segment.Tcp (kind (flags_at bytes p.start))) (tcp_payload bytes p)) Invalid
      (Flow (ports_tuple Tcp q.addresses other q.start) (segment.Tcp (kind (flags_at other q.start))) (tcp_payload other q)) Invalid
      has_tcp_same
      (λ h. let e = ports Tcp (omega (arith, has_tcp_room h)) in let f = flags_same (has_tcp_room h) in
      let s = tcp_payload_same (has_tcp_room h) in λ i. Flow (e i) (segment.Tcp (kind (f i))) (s i))
      (λ h. refl)

  -- the header that an error repeats
  inner_same : 28 ≤ p.captured → Same bytes other (inner_start p) (inner_start q) 20
  inner_same fits =
      same_behind bytes other p.start q.start p.captured twins.same (inner_start p) (inner_start q) 8 20 refl refl (omega (arith, fits))

  -- its length
  inner_length_same : 28 ≤ p.captured → header_length bytes (inner_start p) ≡ header_length other (inner_start q)
  inner_length_same fits = header_same bytes other (inner_start p) (inner_start q) 20 (inner_same fits) (omega arith)

  -- the repeated header is right on both sides
  has_inner_same : has_inner_header bytes p ≡ has_inner_header other q
  has_inner_same =
      guarded (inner_tests bytes p)
      (inner_tests other q)
      (room 28 28 p) (room 28 28 q) (room_same 28 28) refl
      (λ h. let fits = enough 28 28 h in
      let first = byte_same 8 (omega (arith, fits)) in
      let e = inner_length_same fits in
      let f = u16_same bytes other (inner_start p) (inner_start q) 20 (inner_same fits) 6 (omega arith) in
      λ i. (first i / 16) == 4 && nat_le 20 (e i) && nat_le (16 + e i) (twins.length i) && (f i % 2 ^ 13) == 0)

  -- the fixed part of a right one was captured
  has_inner_room : has_inner_header bytes p ≡ true → 28 ≤ p.captured
  has_inner_room h =
      enough 28 28 (first_holds (inner_tests bytes p)
      (room 28 28 p) refl h)

  -- so many bytes behind that header
  inner_bytes_same : 28 ≤ p.captured → (count : ℕ) → has_inner_bytes bytes p count ≡ has_inner_bytes other q count
  inner_bytes_same fits count = let e = inner_length_same fits in λ i. nat_le (8 + e i + count) (twins.captured i)

  -- these bytes are the same
  behind_inner : 28 ≤ p.captured → (count : ℕ) → has_inner_bytes bytes p count ≡ true
      → Same bytes other (inner_payload_start bytes p) (inner_payload_start other q) count
  behind_inner fits count h =
      let room : 8 + header_length bytes (inner_start p) + count ≤ p.captured = grind (arith, nat_tests) in
      same_behind bytes other p.start q.start p.captured twins.same (inner_payload_start bytes p) (inner_payload_start other q)
      (8 + header_length bytes (inner_start p)) count (omega arith) (omega (arith, inner_length_same fits)) room

  -- the inner addresses
  inner_addresses_same : 28 ≤ p.captured → addresses_of bytes (inner_start p) ≡ addresses_of other (inner_start q)
  inner_addresses_same fits = addresses_same bytes other (inner_start p) (inner_start q) 20 (inner_same fits) (omega arith)

  -- the inner tuple, where it has ports
  inner_ports_same : 28 ≤ p.captured → (proto : Proto) → inner_ports proto bytes p ≡ inner_ports proto other q
  inner_ports_same fits proto =
      chosen (λ (x : Option Tuple). x) (has_inner_bytes bytes p 4) (has_inner_bytes other q 4)
      (Some (ports_tuple proto (addresses_of bytes (inner_start p)) bytes (inner_payload_start bytes p))) None
      (Some (ports_tuple proto (addresses_of other (inner_start q)) other (inner_payload_start other q))) None
      (inner_bytes_same fits 4)
      (λ h. let e = ports_same proto (addresses_of bytes (inner_start p)) bytes other (inner_payload_start bytes p)
      (inner_payload_start other q) 4 (behind_inner fits 4 h) (omega arith) in
      let f = inner_addresses_same fits in
      (λ i. Some (e i)) ∙ (λ i. Some (ports_tuple proto (f i) other (inner_payload_start other q))))
      (λ h. refl)

  -- the inner tuple, where it asks or answers
  inner_query_same : 28 ≤ p.captured → inner_query bytes p ≡ inner_query other q
  inner_query_same fits =
      chosen (λ (x : Option Tuple). x) (has_inner_bytes bytes p 6) (has_inner_bytes other q 6)
      (query_tuple (addresses_of bytes (inner_start p)) bytes (inner_payload_start bytes p)) None
      (query_tuple (addresses_of other (inner_start q)) other (inner_payload_start other q)) None
      (inner_bytes_same fits 6)
      (λ h. let f = inner_addresses_same fits in
      query_same (addresses_of bytes (inner_start p)) bytes other (inner_payload_start bytes p) (inner_payload_start other q)
      6 (behind_inner fits 6 h) (omega arith)
      ∙ (λ i. query_tuple (f i) other (inner_payload_start other q)))
      (λ h. refl)

  -- the inner tuple, whatever the protocol
  inner_flow_same : 28 ≤ p.captured → (proto : Option Proto) → inner_flow proto bytes p ≡ inner_flow proto other q
  inner_flow_same fits None = refl
  inner_flow_same fits (Some Icmp) = inner_query_same fits
  inner_flow_same fits (Some Tcp) = inner_ports_same fits Tcp
  inner_flow_same fits (Some Udp) = inner_ports_same fits Udp

  -- the inner tuple, if there is one
  inner_tuple_same : inner_tuple bytes p ≡ inner_tuple other q
  unfolding inner_tuple
  inner_tuple_same =
      chosen (λ (x : Option Tuple). x) (has_inner_header bytes p) (has_inner_header other q)
      (inner_flow (tracked_protocol (protocol bytes (inner_start p))) bytes p) None
      (inner_flow (tracked_protocol (protocol other (inner_start q))) other q) None
      has_inner_same
      (λ h. let fits = has_inner_room h in
      let e = (inner_same fits).each (inner_start p + 9) (inner_start q + 9) 9 refl refl (omega arith) in
      (λ i. inner_flow (tracked_protocol (e i)) bytes p) ∙ inner_flow_same fits (tracked_protocol (protocol other (inner_start q))))
      (λ h. refl)

  -- an error names no place
  error_same : (inner : Option Tuple) (destination : ℕ) → error_about inner destination ≡ moved shift (error_about inner destination)
  error_same None destination = refl
  error_same (Some inner) destination = refl

  -- an error
  icmp_error_same : icmp_error bytes p ≡ moved shift (icmp_error other q)
  icmp_error_same =
      let e = inner_tuple_same in
      (λ i. error_about (e i) (twins.addresses i).destination) ∙ error_same (inner_tuple other q) q.addresses.destination

  -- a message, with its tuple or without one
  message_same : 6 ≤ p.captured → (query : Option Tuple) → message_of query bytes p ≡ moved shift (message_of query other q)
  message_same fits (Some tuple) =
      let e = first_same (omega (arith, fits)) in λ i. Flow tuple (segment.Icmp (e i)) empty_span
  message_same fits None =
      let e = first_same (omega (arith, fits)) in
      chosen (moved shift) (is_error_type (icmp_type bytes p.start)) (is_error_type (icmp_type other q.start))
      (icmp_error bytes p) Invalid (icmp_error other q) Invalid
      (λ i. is_error_type (e i)) (λ h. icmp_error_same) (λ h. refl)

  -- a packet of ICMP
  pub icmp_same : icmp_packet bytes p ≡ moved shift (icmp_packet other q)
  unfolding icmp_packet
  icmp_same =
      chosen (moved shift) (room 8 6 p) (room 8 6 q)
      (message_of (query_tuple p.addresses bytes p.start) bytes p) Invalid
      (message_of (query_tuple q.addresses other q.start) other q) Invalid
      (room_same 8 6)
      (λ h. let fits = enough 8 6 h in
      let e = query_same p.addresses bytes other p.start q.start p.captured twins.same fits in
      (λ i. message_of (e i) bytes p) ∙ (λ i. message_of (query_tuple (twins.addresses i) other q.start) bytes p)
      ∙ message_same fits (query_tuple q.addresses other q.start))
      (λ h. refl)
