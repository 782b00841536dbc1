-- Made packets, read by their headers.
use Rattle.std.proofs.Common.{◌≡◌, ℕ, ◌+◌, ◌/◌, ◌^◌, ◌<◌, Bool, true, false, cond, List, [], length, refl, sym, ◌∙◌, subst, arith, ap}
use Rattle.std.proofs.lemmas.Bool.Decides.{nat_tests}
use Rattle.std.proofs.lemmas.List.{append-nil}
use Rattle.std.specs.Prelude.{◌==◌}
use Rattle.tuple_core.specs.declared.Direction.{Direction}
use Rattle.tuple_core.specs.declared.Direction.TheVariants.{Original, Reply}
use Rattle.tuple_core.specs.declared.Kind.TheVariants.{Syn, SynAck, Ack, Rst}
use Rattle.tuple_core.specs.declared.Proto.{Proto}
use Rattle.tuple_core.specs.declared.Proto.TheVariants.{Icmp, Tcp, Udp}
use Rattle.tuple_core.specs.declared.Segment.TheVariants as segment
use Rattle.tuple_core.specs.declared.Tuple.{Tuple}
use Rattle.tuple_core.specs.Tuple.{in_zone, is_valid}
use Rattle.packet_headers.specs.declared.frame.Frame.{Frame}
use Rattle.packet_headers.specs.declared.frame.Link.{Link}
use Rattle.packet_headers.specs.declared.frame.Link.TheVariants.{Raw}
use Rattle.packet_headers.specs.declared.packet.Packet.TheVariants.{Flow}
use Rattle.packet_headers.specs.Classify.{packet_of}
use Rattle.packet_headers.specs.ClassifyLaws.{captured_bytes}
use Rattle.packet_headers.specs.LayoutLaws.{Carries, IsLinkHeader, IcmpLayoutsAreFlows, TcpLayoutsAreFlows, UdpLayoutsAreFlows}
use Rattle.packet_headers.specs.PacketLayout.{icmp_layout, tcp_layout, udp_layout}
use Rattle.packet_headers.specs.Span.{empty_span, span_of}
use Rattle.packet_headers.specs.TcpFlags.{is_valid_flag_set, kind}
use Rattle.made_captures.specs.MadePacket.{client_number, client_of, control_bits, directed, first_tuple, flow_of, laid_out, made_direction, packet_proto, step_of}
use Rattle.made_captures.specs.MadeCapture.{made_capture}
use Rattle.made_captures.specs.MadeFrames.{echo_type, made_frame, made_kind, made_payload, made_segment}
use Rattle.made_captures.specs.Laws.{MadeFramesAreFlows}
use Rattle.made_captures.proofs.Reading.{made_has_packet}

-- a valid tuple of a protocol
record IsOf (t : Tuple) (proto : Proto) : Type 0 where
  proto_is : t.proto ≡ proto
  valid : is_valid t ≡ true

-- both directions of a flow have one
tuple_is : (proto : Proto) (direction : Direction) (client number : ℕ) → client < 2 ^ 32 → number < 2 ^ 16
    → IsOf (directed direction (first_tuple proto client number)) proto
tuple_is Udp Original client number h k = record { proto_is = refl; valid = grind (arith, nat_tests) }
tuple_is Udp Reply client number h k = record { proto_is = refl; valid = grind (arith, nat_tests) }
tuple_is Tcp Original client number h k = record { proto_is = refl; valid = grind (arith, nat_tests) }
tuple_is Tcp Reply client number h k = record { proto_is = refl; valid = grind (arith, nat_tests) }
tuple_is Icmp Original client number h k = record { proto_is = refl; valid = grind (arith, nat_tests) }
tuple_is Icmp Reply client number h k = record { proto_is = refl; valid = grind (arith, nat_tests) }

-- the type of an echo
echo_is : (direction : Direction) (client number : ℕ) → (directed direction (first_tuple Icmp client number)).b / 256 ≡ echo_type direction
echo_is Original client number = refl
echo_is Reply client number = refl

-- the control bits of a connection go together, and say the kind of the segment
bits_by : (first second third : Bool)
    → (is_valid_flag_set (cond first 0x02 (cond second 0x12 (cond third 0x10 0x04))) ≡ true)
    × (kind (cond first 0x02 (cond second 0x12 (cond third 0x10 0x04))) ≡ cond first Syn (cond second SynAck (cond third Ack Rst)))
unfolding is_valid_flag_set kind
bits_by true second third = (refl, refl)
bits_by false true third = (refl, refl)
bits_by false false true = (refl, refl)
bits_by false false false = (refl, refl)

bits_are : (step : ℕ) → (is_valid_flag_set (control_bits step) ≡ true) × (kind (control_bits step) ≡ made_kind step)
bits_are step = bits_by (step == 0) (step == 1) (step == 2)

-- a frame with nothing before its packet and nothing behind it carries that
abbrev bare : (bytes : List ℕ) (frame : Frame) (packet : List ℕ) → frame.link ≡ Raw → frame.captured ≡ length packet
    → captured_bytes bytes frame ≡ packet → Carries bytes frame packet
bare bytes frame packet raw long same = record {
  front = [];
  padding = [];
  header = subst (λ (link : Link). IsLinkHeader link []) (sym raw) refl;
  content = same ∙ sym (append-nil packet);
  whole = omega (arith, long);
}

-- a made tuple is in zone 0
zone_is : (proto : Proto) (direction : Direction) (client number : ℕ)
    → in_zone 0 (directed direction (first_tuple proto client number)) ≡ directed direction (first_tuple proto client number)
zone_is Udp Original client number = refl
zone_is Udp Reply client number = refl
zone_is Tcp Original client number = refl
zone_is Tcp Reply client number = refl
zone_is Icmp Original client number = refl
zone_is Icmp Reply client number = refl

module _ (udp : UdpLayoutsAreFlows) (tcp : TcpLayoutsAreFlows) (icmp : IcmpLayoutsAreFlows) where
  -- such a frame is of the tuple's flow
  carried_read : (bytes : List ℕ) (frame : Frame) (proto : Proto) (client number step : ℕ)
      → client < 2 ^ 32 → number < 2 ^ 16 → frame.link ≡ Raw
      → frame.captured ≡ length (laid_out proto (directed (made_direction proto step) (first_tuple proto client number)) step)
      → captured_bytes bytes frame ≡ laid_out proto (directed (made_direction proto step) (first_tuple proto client number)) step
      → packet_of bytes frame
      ≡ Flow (directed (made_direction proto step) (first_tuple proto client number)) (made_segment proto step) (made_payload proto frame.start)
  carried_read bytes frame Udp client number step h k raw long same =
      let t : Tuple = directed (made_direction Udp step) (first_tuple Udp client number) in
      let lawful = tuple_is Udp (made_direction Udp step) client number h k in
      udp bytes frame t lawful.proto_is lawful.valid (bare bytes frame (udp_layout t) raw long same)
      ∙ ap (λ (u : Tuple). Flow u segment.Udp empty_span) (zone_is Udp (made_direction Udp step) client number)
  carried_read bytes frame Tcp client number step h k raw long same =
      let t : Tuple = directed (made_direction Tcp step) (first_tuple Tcp client number) in
      let lawful = tuple_is Tcp (made_direction Tcp step) client number h k in
      let bits = bits_are step in
      let end : frame.start + 0 + 40 ≡ frame.start + 40 = omega arith in
      tcp bytes frame t (control_bits step) lawful.proto_is lawful.valid bits.0 (bare bytes frame (tcp_layout t (control_bits step)) raw long same)
      ∙ (λ i. Flow (zone_is Tcp (made_direction Tcp step) client number i) (segment.Tcp (bits.1 i)) (span_of (end i) (end i)))
  carried_read bytes frame Icmp client number step h k raw long same =
      let t : Tuple = directed (made_direction Icmp step) (first_tuple Icmp client number) in
      let lawful = tuple_is Icmp (made_direction Icmp step) client number h k in
      icmp bytes frame t lawful.proto_is lawful.valid (bare bytes frame (icmp_layout t) raw long same)
      ∙ (λ i. Flow (zone_is Icmp (made_direction Icmp step) client number i) (segment.Icmp (echo_is (made_direction Icmp step) client number i)) empty_span)

  -- and so is each frame of a made capture
  pub made_is_flow : MadeFramesAreFlows
  made_is_flow seed packets thread index few octet below =
      carried_read (made_capture seed packets thread) (made_frame seed thread index) (packet_proto seed index)
      (client_of thread (flow_of index)) (client_number seed) (step_of index)
      (omega arith) (omega arith) refl refl (made_has_packet seed packets thread index below)
