-- Where a frame is a packet of a flow of TCP, the numbers of its header were captured.
use Rattle.std.proofs.Common.{◌≡◌, ℕ, ◌+◌, ◌-◌, ◌<◌, ◌≤◌, min, Bool, true, false, cond, not, ◌&&◌, Option, Some, None, List, length, refl, arith}
use Rattle.std.proofs.lemmas.Bool.{and_parts}
use Rattle.std.proofs.lemmas.Bool.Decides.{nat_tests}
use Rattle.std.specs.Prelude.{◌==◌, nat_lt, nat_le}
use Rattle.tuple_core.specs.declared.Kind.{Kind}
use Rattle.tuple_core.specs.declared.Proto.{Proto}
use Rattle.tuple_core.specs.declared.Proto.TheVariants.{Icmp, Tcp, Udp}
use Rattle.tuple_core.specs.declared.Segment.TheVariants as segment
use Rattle.tuple_core.specs.declared.Tuple.{Tuple}
use Rattle.packet_headers.specs.declared.classify.ipv4.Ipv4Payload.{Ipv4Payload}
use Rattle.packet_headers.specs.declared.frame.Frame.{Frame}
use Rattle.packet_headers.specs.declared.frame.Link.{Link}
use Rattle.packet_headers.specs.declared.frame.Link.TheVariants.{Ethernet, Raw}
use Rattle.packet_headers.specs.declared.frame.Span.{Span}
use Rattle.packet_headers.specs.declared.packet.Packet.{Packet}
use Rattle.packet_headers.specs.declared.packet.Packet.TheVariants.{Untracked, Invalid, Flow}
use Rattle.packet_headers.specs.declared.packet.Untracked.TheVariants as untracked
use Rattle.packet_headers.specs.ByteOrder.{big_u16_at}
use Rattle.packet_headers.specs.Classify.{ethernet_frame, ip_packet, packet_of, packet_of_protocol, packet_of_version}
use Rattle.packet_headers.specs.IcmpError.{error_about, inner_tuple}
use Rattle.packet_headers.specs.IcmpHeader.{has_icmp_header, icmp_type, is_error_type, query_tuple}
use Rattle.packet_headers.specs.IcmpPacket.{icmp_packet, message_of}
use Rattle.packet_headers.specs.Ipv4Header.{has_ipv4_header, header_length, ipv4_payload, is_fragment, protocol, tracked_protocol, version}
use Rattle.packet_headers.specs.TcpFlags.{is_valid_flag_set}
use Rattle.packet_headers.specs.TcpHeader.{data_offset, flags_at, has_tcp_header, tcp_packet}
use Rattle.packet_headers.specs.TcpNumbers.{ip_place, tcp_place}
use Rattle.packet_headers.specs.UdpHeader.{has_udp_header, udp_packet}

-- what a test chose, which was not its first
second : (test : Bool) (x y z : Packet) → cond test x y ≡ z → (x ≡ z → ⊥) → y ≡ z
second true x y z h never = absurd (never h)
second false x y z h never = h

module _ (t : Tuple) (k : Kind) (p : Span) where
  -- a packet of a flow of TCP
  abbrev it : Packet
  it = Flow t (segment.Tcp k) p

  no_version : (link : Link) (number : ℕ) → packet_of_version link number ≡ it → ⊥
  no_version Raw number h = either (number == 6) h
    where
      either : (test : Bool) → cond test (Untracked untracked.Link) Invalid ≡ it → ⊥
      either true e = cc
      either false e = cc
  no_version Ethernet number h = cc

  no_udp : (bytes : List ℕ) (payload : Ipv4Payload) → udp_packet bytes payload ≡ it → ⊥
  unfolding udp_packet
  no_udp bytes payload h = either (has_udp_header bytes payload) _ _ h
    where
      either : (test : Bool) (u : Tuple) (s : Span) → cond test (Flow u segment.Udp s) Invalid ≡ it → ⊥
      either true u s e = cc
      either false u s e = cc

  no_error : (inner : Option Tuple) (destination : ℕ) → error_about inner destination ≡ it → ⊥
  no_error None destination h = cc
  no_error (Some u) destination h = cc

  no_message : (query : Option Tuple) (bytes : List ℕ) (payload : Ipv4Payload) → message_of query bytes payload ≡ it → ⊥
  no_message (Some u) bytes payload h = cc
  no_message None bytes payload h =
      either (is_error_type (icmp_type bytes payload.start)) (inner_tuple bytes payload) payload.addresses.destination h
    where
      either : (test : Bool) (inner : Option Tuple) (destination : ℕ) → cond test (error_about inner destination) Invalid ≡ it → ⊥
      either true inner destination e = no_error inner destination e
      either false inner destination e = cc

  no_icmp : (bytes : List ℕ) (payload : Ipv4Payload) → icmp_packet bytes payload ≡ it → ⊥
  unfolding icmp_packet
  no_icmp bytes payload h = either (has_icmp_header payload) (query_tuple payload.addresses bytes payload.start) h
    where
      either : (test : Bool) (query : Option Tuple) → cond test (message_of query bytes payload) Invalid ≡ it → ⊥
      either true query e = no_message query bytes payload e
      either false query e = cc

  -- the header was captured up to its control bits
  captured_tests : (a b c d e : Bool) → a && b && c && d && e ≡ true → b ≡ true
  captured_tests a b c d e h =
      (and_parts a b (and_parts (a && b) c (and_parts (a && b && c) d (and_parts (a && b && c && d) e h).0).0).0).1

  tcp_captured : (bytes : List ℕ) (payload : Ipv4Payload) → tcp_packet bytes payload ≡ it → 14 ≤ payload.captured
  unfolding tcp_packet
  tcp_captured bytes payload h = fourteen (captured_tests _ _ _ _ _ (either (has_tcp_header bytes payload) _ h))
    where
      either : (test : Bool) (x : Packet) → cond test x Invalid ≡ it → test ≡ true
      either true x e = refl
      either false x e = absurd (cc)

      fourteen : nat_le 14 payload.captured ≡ true → 14 ≤ payload.captured
      fourteen e = grind (arith, nat_tests)

  protocol_captured : (proto : Option Proto) (bytes : List ℕ) (payload : Ipv4Payload) → packet_of_protocol proto bytes payload ≡ it → 14 ≤ payload.captured
  protocol_captured None bytes payload h = absurd (cc)
  protocol_captured (Some Icmp) bytes payload h = absurd (no_icmp bytes payload h)
  protocol_captured (Some Tcp) bytes payload h = tcp_captured bytes payload h
  protocol_captured (Some Udp) bytes payload h = absurd (no_udp bytes payload h)

  ip_captured : (link : Link) (bytes : List ℕ) (at captured : ℕ) → ip_packet link bytes at captured ≡ it → header_length bytes at + 14 ≤ captured
  unfolding ip_packet
  ip_captured link bytes at captured h =
      let a = second (captured == 0) Invalid _ it h (λ e. cc) in
      let b = second (not (version bytes at == 4)) (packet_of_version link (version bytes at)) _ it a (no_version link (version bytes at)) in
      let c = second (not (has_ipv4_header bytes at captured)) Invalid _ it b (λ e. cc) in
      let d = second (is_fragment bytes at) (Untracked untracked.Fragment) _ it c (λ e. cc) in
      let e = protocol_captured (tracked_protocol (protocol bytes at)) bytes (ipv4_payload bytes at captured) d in
      omega arith

  ethernet_captured : (bytes : List ℕ) (at captured : ℕ) → ethernet_frame bytes at captured ≡ it → 14 + header_length bytes (at + 14) + 14 ≤ captured
  unfolding ethernet_frame
  ethernet_captured bytes at captured h =
      let a = second (nat_lt captured 14) Invalid _ it h (λ e. cc) in
      let b = second (not (big_u16_at bytes (at + 12) == 0x0800)) (Untracked untracked.Link) _ it a (λ e. cc) in
      let c = ip_captured Ethernet bytes (at + 14) (captured - 14) b in
      omega arith

-- the numbers of a header stand in the bytes
pub record HasNumbers (bytes : List ℕ) (frame : Frame) : Type 0 where
  pub packet : ip_place frame < length bytes
  pub numbers : tcp_place bytes frame + 12 ≤ length bytes

pub has_numbers : (bytes : List ℕ) (frame : Frame) (t : Tuple) (k : Kind) (p : Span) → packet_of bytes frame ≡ Flow t (segment.Tcp k) p
    → frame.start + frame.captured ≤ length bytes → HasNumbers bytes frame
unfolding packet_of
has_numbers bytes frame t k p h inside = by_link frame.link refl
  where
    there : (at : ℕ) → ip_place frame ≡ at → at + header_length bytes at + 14 ≤ length bytes → HasNumbers bytes frame
    there at is fits = record {
      packet = rw is (omega arith);
      numbers = rw is (omega arith);
    }

    by_link : (link : Link) → frame.link ≡ link → HasNumbers bytes frame
    by_link Ethernet is =
        let c = ethernet_captured t k p bytes frame.start frame.captured (rw is at h) in
        there (frame.start + 14) (rw is refl) (omega arith)
    by_link Raw is =
        let c = ip_captured t k p Raw bytes frame.start frame.captured (rw is at h) in
        there frame.start (rw is (omega arith)) (omega arith)
