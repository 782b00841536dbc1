-- What is read of a made capture: its frames, and the flow that each is of.
use Rattle.std.specs.Prelude.{ℕ, ◌+◌, ◌*◌, ◌==◌, if◌then◌else◌, List, length, map}
use Rattle.std.specs.List.{range_with_len}
use Rattle.tuple_core.specs.declared.Direction.{Direction}
use Rattle.tuple_core.specs.declared.Direction.TheVariants.{Original, Reply}
use Rattle.tuple_core.specs.declared.Kind.{Kind}
use Rattle.tuple_core.specs.declared.Kind.TheVariants.{Syn, SynAck, Ack, Rst}
use Rattle.tuple_core.specs.declared.Proto.{Proto}
use Rattle.tuple_core.specs.declared.Proto.TheVariants.{Icmp, Tcp, Udp}
use Rattle.tuple_core.specs.declared.Segment.{Segment}
use Rattle.tuple_core.specs.declared.Segment.TheVariants as segment
use Rattle.packet_headers.specs.declared.frame.Frame.{Frame}
use Rattle.packet_headers.specs.declared.frame.Link.TheVariants.{Raw}
use Rattle.packet_headers.specs.declared.frame.Span.{Span}
use Rattle.packet_headers.specs.declared.packet.Packet.{Packet}
use Rattle.packet_headers.specs.declared.packet.Packet.TheVariants.{Flow}
use Rattle.packet_headers.specs.Span.{empty_span, span_of}
use Rattle.made_captures.specs.MadePacket.{made_direction, made_packet, made_tuple, packet_proto, step_of}
use Rattle.made_captures.specs.MadeCapture.{made_capture}

-- each millisecond one, from second 1000 on; its record stands behind a capture of the records before it
abbrev pub made_frame : (seed thread index : ℕ) → Frame
made_frame seed thread index = record {
  moment = 1000000000 + 1000 * index;
  start = length (made_capture seed index thread) + 16;
  captured = length (made_packet seed thread index);
  original = length (made_packet seed thread index);
  link = Raw;
}

abbrev pub made_frames : (seed packets thread : ℕ) → List Frame
made_frames seed packets thread = map (made_frame seed thread) (range_with_len 0 packets)

-- the segments of a connection
abbrev pub made_kind : ℕ → Kind
made_kind step =
    (if step == 0 then Syn else
    (if step == 1 then SynAck else
    (if step == 2 then Ack else Rst)))

-- an echo request, or its reply
abbrev pub echo_type : Direction → ℕ
echo_type Original = 8
echo_type Reply = 0

abbrev pub made_segment : Proto → ℕ → Segment
made_segment Udp step = segment.Udp
made_segment Tcp step = segment.Tcp (made_kind step)
made_segment Icmp step = segment.Icmp (echo_type (made_direction Icmp step))

-- no payload: of TCP behind the packet's 40 bytes
abbrev pub made_payload : Proto → ℕ → Span
made_payload Udp start = empty_span
made_payload Tcp start = span_of (start + 40) (start + 40)
made_payload Icmp start = empty_span

-- what the headers of the packet say, which begins at this byte
abbrev pub made_flow : (seed thread index start : ℕ) → Packet
made_flow seed thread index start =
    Flow (made_tuple seed thread index) (made_segment (packet_proto seed index) (step_of index))
    (made_payload (packet_proto seed index) start)
