-- What the headers of a frame say depends on its captured bytes alone, wherever they stand.
use Rattle.std.specs.Prelude.{◌≡◌, ℕ, ◌+◌, ◌==◌, if◌then◌else◌, List, take, drop}
use Rattle.packet_headers.specs.declared.frame.Frame.{Frame}
use Rattle.packet_headers.specs.declared.frame.Span.{Span}
use Rattle.packet_headers.specs.declared.packet.Packet.{Packet}
use Rattle.packet_headers.specs.declared.packet.Packet.TheVariants.{Untracked, Invalid, Flow, Error}
use Rattle.packet_headers.specs.Span.{span_of}
use Rattle.packet_headers.specs.Classify.{packet_of}

-- the bytes of the frame that the file has
abbrev pub captured_bytes : List ℕ → Frame → List ℕ
captured_bytes bytes frame = take frame.captured (drop frame.start bytes)

-- the frame in a file that has nothing but its bytes
abbrev pub alone : Frame → Frame
alone frame = record frame { start = 0 }

-- the span where so many bytes more stand before it; a span that tells no place stays as it is
abbrev pub moved_span : ℕ → Span → Span
moved_span shift span = (if span.end == 0 then span else span_of (span.start + shift) (span.end + shift))

-- what is said of the headers where so many bytes more stand before them
abbrev pub moved : ℕ → Packet → Packet
moved shift (Untracked why) = Untracked why
moved shift Invalid = Invalid
moved shift (Flow tuple segment payload) = Flow tuple segment (moved_span shift payload)
moved shift (Error inner destination) = Error inner destination

-- a frame is classified by its captured bytes, as if the file had no others
abbrev pub ReadsTheFrameAlone : Type 0
ReadsTheFrameAlone = (bytes : List ℕ) (frame : Frame)
    → packet_of bytes frame ≡ moved frame.start (packet_of (captured_bytes bytes frame) (alone frame))

-- frames of one link with equal captured bytes are one packet, each at its place in its file
abbrev pub EqualFramesAreEqualPackets : Type 0
EqualFramesAreEqualPackets = (bytes other : List ℕ) (frame twin : Frame)
    → frame.link ≡ twin.link → frame.captured ≡ twin.captured → captured_bytes bytes frame ≡ captured_bytes other twin
    → (packet : Packet) × (packet_of bytes frame ≡ moved frame.start packet) × (packet_of other twin ≡ moved twin.start packet)
