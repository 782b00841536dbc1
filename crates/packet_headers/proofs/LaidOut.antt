-- Packets that are laid out from a tuple, read by their headers.
use Rattle.std.proofs.Common.{◌≡◌, ℕ, ◌+◌, ◌-◌, ◌*◌, ◌/◌, ◌%◌, ◌^◌, ◌<◌, ◌≤◌, Bool, true, false, min, cond, not, ◌&&◌, List, [], ◌∷◌, ◌++◌, length, refl, sym, ap, ◌∙◌, subst, arith, append_assoc, length-append}
use Rattle.std.proofs.lemmas.Bool.Decides.{nat_tests}
use Rattle.std.proofs.lemmas.List.{get_or-append-add}
use Rattle.std.proofs.Math.ListN.{get_or-append}
use Rattle.std.specs.Prelude.{◌==◌, nat_le, nat_lt, slice_index}
use Rattle.tuple_core.specs.declared.Proto.{Proto}
use Rattle.tuple_core.specs.declared.Proto.TheVariants.{Icmp, Tcp, Udp}
use Rattle.tuple_core.specs.declared.Segment.TheVariants as segment
use Rattle.tuple_core.specs.declared.Tuple.{Tuple}
use Rattle.tuple_core.specs.Tuple.{has_flow, in_zone, is_in_range, is_query_type, is_valid}
use Rattle.packet_headers.specs.declared.frame.Frame.{Frame}
use Rattle.packet_headers.specs.declared.frame.Link.{Link}
use Rattle.packet_headers.specs.declared.frame.Link.TheVariants.{Ethernet, Raw}
use Rattle.packet_headers.specs.declared.packet.Packet.{Packet}
use Rattle.packet_headers.specs.declared.packet.Packet.TheVariants.{Error, Flow, Invalid, Untracked}
use Rattle.packet_headers.specs.declared.packet.Untracked.TheVariants as untracked
use Rattle.packet_headers.specs.ByteOrder.{big_u16_at}
use Rattle.packet_headers.specs.Classify.{ethernet_frame, ip_packet, packet_behind, packet_of, packet_of_protocol, packet_of_version}
use Rattle.packet_headers.specs.Ipv4Header.{addresses_of, header_length, is_fragment, protocol, total_length, tracked_protocol, version}
use Rattle.packet_headers.specs.ClassifyLaws.{captured_bytes, moved}
use Rattle.packet_headers.specs.LayoutLaws.{Carries, IsLinkHeader, ErrorLayoutsAreErrors, IcmpLayoutsAreFlows, TcpLayoutsAreFlows, UdpLayoutsAreFlows}
use Rattle.packet_headers.specs.Span.{empty_span, span_of}
use Rattle.packet_headers.specs.TcpFlags.{is_valid_flag_set, kind}
use Rattle.packet_headers.specs.TcpHeader.{tcp_packet}
use Rattle.packet_headers.specs.UdpHeader.{udp_packet}
use Rattle.packet_headers.specs.IcmpPacket.{icmp_packet}
use Rattle.packet_headers.specs.IcmpHeader.{is_error_type}
use Rattle.packet_headers.specs.IcmpError.{inner_tuple}
use Rattle.packet_headers.specs.PacketLayout.{error_layout, icmp_layout, ipv4_header, repeated, tcp_layout, udp_layout}
use Rattle.packet_headers.proofs.SameBytes.{Same, same_part, u16_same}
use Rattle.packet_headers.proofs.SamePackets.{ip_same}

-- a tuple of zone 0 by its other fields
abbrev tuple : Proto → (src dst a b : ℕ) → Tuple
tuple proto src dst a b = record { proto = proto; zone = 0; src = src; dst = dst; a = a; b = b }

-- the number that two bytes of a number give
abbrev two : ℕ → ℕ
two n = 256 * (n / 256 % 256) + n % 256

-- and four
abbrev four : ℕ → ℕ
four n = 65536 * (256 * (n / 16777216 % 256) + n / 65536 % 256) + (256 * (n / 256 % 256) + n % 256)

-- a number is that of its bytes
u16_read : (n : ℕ) → n < 2 ^ 16 → two n ≡ n
u16_read n h = omega arith

-- and so with four
u32_read : (n : ℕ) → n < 2 ^ 32 → four n ≡ n
u32_read n h = omega arith

-- the second of two tests that hold
both_hold : (first second : Bool) → (first && second) ≡ true → second ≡ true
both_hold true second h = h
both_hold false second h = cc

-- the numbers of a valid tuple
record InRange (src dst a b : ℕ) : Type 0 where
  source : src < 2 ^ 32
  destination : dst < 2 ^ 32
  first : a < 2 ^ 16
  second : b < 2 ^ 16

-- each number of a valid tuple is in its range
in_range : (t : Tuple) → is_valid t ≡ true → InRange t.src t.dst t.a t.b
in_range t h = record {
  source = grind (arith, nat_tests);
  destination = grind (arith, nat_tests);
  first = grind (arith, nat_tests);
  second = grind (arith, nat_tests);
}

-- a valid tuple makes a flow
makes_flow : (t : Tuple) → is_valid t ≡ true → has_flow t.proto t.b ≡ true
makes_flow t h = both_hold (is_in_range t) (has_flow t.proto t.b) h

-- the tuple whose ports are those of its bytes
ports_read : (proto : Proto) (src dst a b : ℕ) → InRange src dst a b
    → tuple proto (four src) (four dst) (two a) (two b) ≡ tuple proto src dst a b
ports_read proto src dst a b range =
    let e = u32_read src range.source in
    let f = u32_read dst range.destination in
    let g = u16_read a range.first in
    let h = u16_read b range.second in
    λ i. tuple proto (e i) (f i) (g i) (h i)

-- the tuple whose type, code and identifier are those of its bytes
query_read : (src dst a b : ℕ) → InRange src dst a b
    → tuple Icmp (four src) (four dst) (two a) (b / 256 * 256 + b % 256) ≡ tuple Icmp src dst a b
query_read src dst a b range =
    let e = u32_read src range.source in
    let f = u32_read dst range.destination in
    let g = u16_read a range.first in
    let h : b / 256 * 256 + b % 256 ≡ b = omega arith in
    λ i. tuple Icmp (e i) (f i) (g i) (h i)

-- a packet of UDP with no link header
udp_read : (link : Link) (src dst a b : ℕ) → InRange src dst a b
    → ip_packet link (udp_layout (tuple Udp src dst a b)) 0 28
    ≡ Flow (tuple Udp src dst a b) segment.Udp empty_span
unfolding ip_packet udp_packet
udp_read link src dst a b range =
    let e = ports_read Udp src dst a b range in
    λ i. Flow (e i) segment.Udp empty_span

-- a segment of TCP
tcp_read : (link : Link) (src dst a b flags : ℕ) → InRange src dst a b → is_valid_flag_set flags ≡ true
    → ip_packet link (tcp_layout (tuple Tcp src dst a b) flags) 0 40
    ≡ Flow (tuple Tcp src dst a b) (segment.Tcp (kind flags)) (span_of 40 40)
unfolding ip_packet tcp_packet
tcp_read link src dst a b flags range valid =
    let e = ports_read Tcp src dst a b range in
    rw valid (λ i. Flow (e i) (segment.Tcp (kind flags)) (span_of 40 40))

-- a message that asks or answers
icmp_read : (link : Link) (src dst a b : ℕ) → InRange src dst a b → is_query_type (b / 256) ≡ true
    → ip_packet link (icmp_layout (tuple Icmp src dst a b)) 0 28
    ≡ Flow (tuple Icmp src dst a b) (segment.Icmp (b / 256)) empty_span
unfolding ip_packet icmp_packet
icmp_read link src dst a b range valid =
    let e = query_read src dst a b range in
    rw valid (λ i. Flow (e i) (segment.Icmp (b / 256)) empty_span)

-- behind the header of its link stands the packet that a frame carries
behind_front : (bytes : List ℕ) (frame : Frame) (packet : List ℕ) (carries : Carries bytes frame packet)
    → Same bytes packet (frame.start + length carries.front) 0 (length packet)
behind_front bytes frame packet carries = record {
  each = λ i j k from to below.
      let there : j ≡ k = omega (arith, to) in
      let whole = subst (λ (xs : List ℕ). Same bytes xs frame.start 0 frame.captured) carries.content (same_part bytes frame.start frame.captured) in
      let found = whole.each i (length carries.front + k) (length carries.front + k) (omega (arith, from)) (omega arith)
      (omega (arith, below, carries.whole)) in
      found ∙ get_or-append-add carries.front (packet ++ carries.padding) k 0 ∙ get_or-append packet carries.padding 0 k below
      ∙ (λ n. slice_index packet (sym there n));
}

-- the type of an Ethernet frame that carries a packet
type_read : (bytes : List ℕ) (frame : Frame) (packet addresses : List ℕ) → length addresses ≡ 12
    → captured_bytes bytes frame ≡ addresses ++ (0x08 ∷ 0x00 ∷ packet) → 14 ≤ frame.captured
    → big_u16_at bytes (frame.start + 12) ≡ 0x0800
type_read bytes frame packet addresses twelve content fits =
    let rest : List ℕ = 0x08 ∷ 0x00 ∷ packet in
    let whole = subst (λ (xs : List ℕ). Same bytes xs frame.start 0 frame.captured) content (same_part bytes frame.start frame.captured) in
    let high = whole.each (frame.start + 12) (length addresses + 0) 12 refl (omega (arith, twelve)) (omega (arith, fits))
    ∙ get_or-append-add addresses rest 0 0 in
    let low = whole.each (frame.start + 12 + 1) (length addresses + 1) 13 (omega arith) (omega (arith, twelve)) (omega (arith, fits))
    ∙ get_or-append-add addresses rest 1 0 in
    λ i. 256 * high i + low i

-- an Ethernet frame with the type of IPv4 is the packet behind its header
ethernet_read : (bytes : List ℕ) (at captured : ℕ) → 14 ≤ captured → big_u16_at bytes (at + 12) ≡ 0x0800
    → ethernet_frame bytes at captured ≡ ip_packet Ethernet bytes (at + 14) (captured - 14)
unfolding ethernet_frame
ethernet_read bytes at captured fits typed =
    let room : nat_lt captured 14 ≡ false = grind (arith, nat_tests) in
    λ i. cond (room i) Invalid (cond (not (typed i == 0x0800)) (Untracked untracked.Link) (ip_packet Ethernet bytes (at + 14) (captured - 14)))

-- bytes behind an IPv4 packet are not looked at
trimmed : (link : Link) (bytes : List ℕ) (at captured count : ℕ) → total_length bytes at ≡ count → 20 ≤ count → count ≤ captured
    → ip_packet link bytes at captured ≡ ip_packet link bytes at count
unfolding ip_packet
trimmed link bytes at captured count total few more =
    let z : (captured == 0) ≡ false = grind (arith, nat_tests) in
    let y : (count == 0) ≡ false = grind (arith, nat_tests) in
    let t : nat_le 20 captured ≡ true = grind (arith, nat_tests) in
    let u : nat_le 20 count ≡ true = grind (arith, nat_tests) in
    let m : min (total_length bytes at - header_length bytes at) (captured - header_length bytes at)
    ≡ min (total_length bytes at - header_length bytes at) (count - header_length bytes at) = omega (arith, total) in
    let zero = z ∙ sym y in
    let room = t ∙ sym u in
    λ i. cond (zero i) Invalid
    (cond (not (version bytes at == 4)) (packet_of_version link (version bytes at))
    (cond (not (room i && nat_le 20 (header_length bytes at) && nat_le (header_length bytes at) (total_length bytes at))) Invalid
    (cond (is_fragment bytes at) (Untracked untracked.Fragment)
    (packet_of_protocol (tracked_protocol (protocol bytes at)) bytes (record {
      addresses = addresses_of bytes at;
      start = at + header_length bytes at;
      length = total_length bytes at - header_length bytes at;
      captured = m i;
    })))))

module _ (bytes : List ℕ) (frame : Frame) (packet : List ℕ) (few : 20 ≤ length packet) (total : total_length packet 0 ≡ length packet)
    (carries : Carries bytes frame packet) where
  abbrev place : ℕ
  place = frame.start + length carries.front

  abbrev rest : ℕ
  rest = length packet + length carries.padding

  -- the packet stands behind the front as it does alone
  there : (link : Link) → ip_packet link bytes place rest ≡ moved place (ip_packet link packet 0 (length packet))
  there link =
      let same = behind_front bytes frame packet carries in
      trimmed link bytes place rest (length packet)
      (u16_same bytes packet place 0 (length packet) same 2 (omega (arith, few)) ∙ total) few (omega arith)
      ∙ ip_same bytes packet place 0 (length packet) place same (omega arith) link

  -- for each link
  carried_by : (link : Link) → IsLinkHeader link carries.front
      → packet_behind link bytes frame.start frame.captured ≡ moved place (ip_packet link packet 0 (length packet))
  carried_by Raw none =
      let short : length carries.front ≡ 0 = ap length none in
      let p : frame.start ≡ place = omega (arith, short) in
      let q : frame.captured ≡ rest = omega (arith, short, carries.whole) in
      (λ i. ip_packet Raw bytes (p i) (q i)) ∙ there Raw
  carried_by Ethernet (addresses, twelve, typed) =
      let long : length carries.front ≡ 14 = ap length typed ∙ length-append addresses (0x08 ∷ 0x00 ∷ []) ∙ omega (arith, twelve) in
      let content = carries.content ∙ (λ i. typed i ++ (packet ++ carries.padding)) ∙ append_assoc addresses (0x08 ∷ 0x00 ∷ []) (packet ++ carries.padding) in
      let fits : 14 ≤ frame.captured = omega (arith, long, carries.whole) in
      let p : frame.start + 14 ≡ place = omega (arith, long) in
      let q : frame.captured - 14 ≡ rest = omega (arith, long, carries.whole) in
      ethernet_read bytes frame.start frame.captured fits (type_read bytes frame (packet ++ carries.padding) addresses twelve content fits)
      ∙ (λ i. ip_packet Ethernet bytes (p i) (q i)) ∙ there Ethernet

  -- a frame is classified as the packet that it carries
  carried : packet_of bytes frame ≡ moved place (ip_packet frame.link packet 0 (length packet))
  unfolding packet_of
  carried = carried_by frame.link carries.header

-- in zone 0 a tuple is made of its other fields
of_fields : (t : Tuple) (proto : Proto) → t.proto ≡ proto → tuple proto t.src t.dst t.a t.b ≡ in_zone 0 t
of_fields t proto is = λ i. tuple (sym is i) t.src t.dst t.a t.b

-- a frame that carries a packet of UDP
pub udp_laid_out : UdpLayoutsAreFlows
udp_laid_out bytes frame t is valid carries =
    subst (λ (u : Tuple). (c : Carries bytes frame (udp_layout u)) → packet_of bytes frame ≡ Flow u segment.Udp empty_span)
    (of_fields t Udp is)
    (λ c. carried bytes frame (udp_layout (tuple Udp t.src t.dst t.a t.b)) (omega arith) refl c
    ∙ ap (λ (p : Packet). moved (frame.start + length c.front) p) (udp_read frame.link t.src t.dst t.a t.b (in_range t valid)))
    carries

-- a frame that carries a segment of TCP
pub tcp_laid_out : TcpLayoutsAreFlows
tcp_laid_out bytes frame t flags is valid set carries =
    subst (λ (u : Tuple). (c : Carries bytes frame (tcp_layout u flags)) → packet_of bytes frame
    ≡ Flow u (segment.Tcp (kind flags)) (span_of (frame.start + length c.front + 40) (frame.start + length c.front + 40)))
    (of_fields t Tcp is)
    (λ c.
    let end : 40 + (frame.start + length c.front) ≡ frame.start + length c.front + 40 = omega arith in
    carried bytes frame (tcp_layout (tuple Tcp t.src t.dst t.a t.b) flags) (omega arith) refl c
    ∙ ap (λ (p : Packet). moved (frame.start + length c.front) p) (tcp_read frame.link t.src t.dst t.a t.b flags (in_range t valid) set)
    ∙ (λ i. Flow (tuple Tcp t.src t.dst t.a t.b) (segment.Tcp (kind flags)) (span_of (end i) (end i))))
    carries

-- a frame that carries a message that asks or answers
pub icmp_laid_out : IcmpLayoutsAreFlows
icmp_laid_out bytes frame t is valid carries =
    subst (λ (u : Tuple). (c : Carries bytes frame (icmp_layout u)) → packet_of bytes frame ≡ Flow u (segment.Icmp (u.b / 256)) empty_span)
    (of_fields t Icmp is)
    (λ c. carried bytes frame (icmp_layout (tuple Icmp t.src t.dst t.a t.b)) (omega arith) refl c
    ∙ ap (λ (p : Packet). moved (frame.start + length c.front) p)
    (icmp_read frame.link t.src t.dst t.a t.b (in_range t valid)
    (subst (λ (p : Proto). has_flow p t.b ≡ true) is (makes_flow t valid))))
    carries

-- an error neither asks nor answers
no_query : (type : ℕ) → is_error_type type ≡ true → is_query_type type ≡ false
no_query type h = grind (arith, nat_tests)

-- an error about a packet of UDP
of_udp : (link : Link) (source destination type code src dst a b : ℕ)
    → destination < 2 ^ 32 → is_error_type type ≡ true → InRange src dst a b
    → ip_packet link (error_layout source destination type code (tuple Udp src dst a b)) 0 56
    ≡ Error (tuple Udp src dst a b) destination
unfolding ip_packet icmp_packet inner_tuple
of_udp link source destination type code src dst a b below wrong range =
    let d = u32_read destination below in
    let e = ports_read Udp src dst a b range in
    rw (no_query type wrong, wrong) (λ i. Error (e i) (d i))

-- an error about a segment of TCP
of_tcp : (link : Link) (source destination type code src dst a b : ℕ)
    → destination < 2 ^ 32 → is_error_type type ≡ true → InRange src dst a b
    → ip_packet link (error_layout source destination type code (tuple Tcp src dst a b)) 0 56
    ≡ Error (tuple Tcp src dst a b) destination
unfolding ip_packet icmp_packet inner_tuple
of_tcp link source destination type code src dst a b below wrong range =
    let d = u32_read destination below in
    let e = ports_read Tcp src dst a b range in
    rw (no_query type wrong, wrong) (λ i. Error (e i) (d i))

-- an error about a message that asks or answers
of_icmp : (link : Link) (source destination type code src dst a b : ℕ)
    → destination < 2 ^ 32 → is_error_type type ≡ true → InRange src dst a b → is_query_type (b / 256) ≡ true
    → ip_packet link (error_layout source destination type code (tuple Icmp src dst a b)) 0 56
    ≡ Error (tuple Icmp src dst a b) destination
unfolding ip_packet icmp_packet inner_tuple
of_icmp link source destination type code src dst a b below wrong range asked =
    let d = u32_read destination below in
    let e = query_read src dst a b range in
    rw (no_query type wrong, wrong, asked) (λ i. Error (e i) (d i))

-- an error about a packet of any protocol
error_read : (link : Link) (source destination type code src dst a b : ℕ) (proto : Proto)
    → destination < 2 ^ 32 → is_error_type type ≡ true → InRange src dst a b → has_flow proto b ≡ true
    → ip_packet link (error_layout source destination type code (tuple proto src dst a b)) 0 56
    ≡ Error (tuple proto src dst a b) destination
error_read link source destination type code src dst a b Icmp below wrong range asked =
    of_icmp link source destination type code src dst a b below wrong range asked
error_read link source destination type code src dst a b Tcp below wrong range asked =
    of_tcp link source destination type code src dst a b below wrong range
error_read link source destination type code src dst a b Udp below wrong range asked =
    of_udp link source destination type code src dst a b below wrong range

-- an error has 56 bytes, whatever it repeats
error_length : (source destination type code src dst a b : ℕ) (proto : Proto)
    → length (error_layout source destination type code (tuple proto src dst a b)) ≡ 56
error_length source destination type code src dst a b Icmp = refl
error_length source destination type code src dst a b Tcp = refl
error_length source destination type code src dst a b Udp = refl

-- what is repeated of a packet does not name the zone
repeats_alike : (proto : Proto) (t : Tuple) → repeated proto t ≡ repeated proto (in_zone 0 t)
repeats_alike Icmp t = refl
repeats_alike Tcp t = refl
repeats_alike Udp t = refl

-- a frame that carries an error
pub error_laid_out : ErrorLayoutsAreErrors
error_laid_out bytes frame source destination type code t below wrong valid carries =
    let u : Tuple = tuple t.proto t.src t.dst t.a t.b in
    let same : error_layout source destination type code t ≡ error_layout source destination type code u =
    ap (λ (rest : List ℕ). ipv4_header 56 1 source destination ++ (type ∷ code ∷ 0 ∷ 0 ∷ 0 ∷ 0 ∷ 0 ∷ 0 ∷ []) ++ rest) (repeats_alike t.proto t) in
    let carries_u = subst (λ (packet : List ℕ). Carries bytes frame packet) same carries in
    let long = error_length source destination type code t.src t.dst t.a t.b t.proto in
    carried bytes frame (error_layout source destination type code u) (omega (arith, long)) (sym long) carries_u
    ∙ (λ i. moved (frame.start + length carries_u.front) (ip_packet frame.link (error_layout source destination type code u) 0 (long i)))
    ∙ ap (λ (p : Packet). moved (frame.start + length carries_u.front) p)
    (error_read frame.link source destination type code t.src t.dst t.a t.b t.proto below wrong (in_range t valid) (makes_flow t valid))
