-- A packet that is laid out from a tuple is classified as a packet of that tuple's flow in zone 0, and an error
-- about it as an error about that flow. No header names a zone.
use Rattle.std.specs.Prelude.{◌≡◌, ℕ, ◌+◌, ◌/◌, ◌^◌, ◌<◌, true, List, [], ◌∷◌, ◌++◌, length}
use Rattle.tuple_core.specs.declared.Proto.TheVariants as proto
use Rattle.tuple_core.specs.declared.Segment.TheVariants as segment
use Rattle.tuple_core.specs.declared.Tuple.{Tuple}
use Rattle.tuple_core.specs.Tuple.{in_zone, is_valid}
use Rattle.packet_headers.specs.declared.frame.Frame.{Frame}
use Rattle.packet_headers.specs.declared.frame.Link.{Link}
use Rattle.packet_headers.specs.declared.frame.Link.TheVariants.{Ethernet, Raw}
use Rattle.packet_headers.specs.declared.packet.Packet.TheVariants.{Flow, Error}
use Rattle.packet_headers.specs.Span.{empty_span, span_of}
use Rattle.packet_headers.specs.IcmpHeader.{is_error_type}
use Rattle.packet_headers.specs.TcpFlags.{is_valid_flag_set, kind}
use Rattle.packet_headers.specs.Classify.{packet_of}
use Rattle.packet_headers.specs.ClassifyLaws.{captured_bytes}
use Rattle.packet_headers.specs.PacketLayout.{error_layout, icmp_layout, tcp_layout, udp_layout}

-- what stands before the IP packet of a frame: under Ethernet two addresses of six bytes each, whatever
-- they are, and the type of IPv4 (RFC 894)
abbrev pub IsLinkHeader : Link → List ℕ → Type 0
IsLinkHeader Ethernet front = (addresses : List ℕ) × (length addresses ≡ 12) × (front ≡ addresses ++ (0x08 ∷ 0x00 ∷ []))
IsLinkHeader Raw front = front ≡ []

-- the frame was captured, wherever it stands in the file: the header of its link, this packet, and any
-- bytes behind it, as those that fill up an Ethernet frame
pub record Carries (bytes : List ℕ) (frame : Frame) (packet : List ℕ) : Type 0 where
  pub front : List ℕ
  pub padding : List ℕ
  pub header : IsLinkHeader frame.link front
  pub content : captured_bytes bytes frame ≡ front ++ (packet ++ padding)
  pub whole : frame.captured ≡ length front + length packet + length padding

abbrev pub UdpLayoutsAreFlows : Type 0
UdpLayoutsAreFlows = (bytes : List ℕ) (frame : Frame) (t : Tuple)
    → t.proto ≡ proto.Udp → is_valid t ≡ true → Carries bytes frame (udp_layout t)
    → packet_of bytes frame ≡ Flow (in_zone 0 t) segment.Udp empty_span

-- the payload is empty, at the end of the packet's 40 bytes
abbrev pub TcpLayoutsAreFlows : Type 0
TcpLayoutsAreFlows = (bytes : List ℕ) (frame : Frame) (t : Tuple) (flags : ℕ)
    → t.proto ≡ proto.Tcp → is_valid t ≡ true → is_valid_flag_set flags ≡ true → (carries : Carries bytes frame (tcp_layout t flags))
    → packet_of bytes frame ≡ Flow (in_zone 0 t) (segment.Tcp (kind flags))
    (span_of (frame.start + length carries.front + 40) (frame.start + length carries.front + 40))

-- the tuple is of a query or an answer
abbrev pub IcmpLayoutsAreFlows : Type 0
IcmpLayoutsAreFlows = (bytes : List ℕ) (frame : Frame) (t : Tuple)
    → t.proto ≡ proto.Icmp → is_valid t ≡ true → Carries bytes frame (icmp_layout t)
    → packet_of bytes frame ≡ Flow (in_zone 0 t) (segment.Icmp (t.b / 256)) empty_span

-- the error is about a packet of UDP, of TCP, or of ICMP that asks or answers
abbrev pub ErrorLayoutsAreErrors : Type 0
ErrorLayoutsAreErrors = (bytes : List ℕ) (frame : Frame) (source destination type code : ℕ) (t : Tuple)
    → destination < 2 ^ 32 → is_error_type type ≡ true → is_valid t ≡ true
    → Carries bytes frame (error_layout source destination type code t)
    → packet_of bytes frame ≡ Error (in_zone 0 t) destination
