-- What holds of all made captures.
use Rattle.std.specs.Prelude.{◌≡◌, ◌<◌, ◌≤◌, ℕ, List}
use Rattle.packet_headers.specs.declared.capture.CaptureFault.{CaptureFault}
use Rattle.packet_headers.specs.declared.frame.Frame.{Frame}
use Rattle.packet_headers.specs.Capture.{HasFault, IsCapture}
use Rattle.packet_headers.specs.Classify.{packet_of}
use Rattle.packet_headers.specs.ClassifyLaws.{captured_bytes}
use Rattle.made_captures.specs.MadePacket.{client_of, made_packet}
use Rattle.made_captures.specs.MadeCapture.{made_capture}
use Rattle.made_captures.specs.MadeFrames.{made_flow, made_frame, made_frames}

-- a made capture is one of its frames
abbrev pub MadeCapturesHaveTheirFrames : Type 0
MadeCapturesHaveTheirFrames = (seed packets thread : ℕ) → packets ≤ 262144
    → IsCapture (made_capture seed packets thread) (made_frames seed packets thread)

-- and of no others
abbrev pub MadeCapturesHaveNoOtherFrames : Type 0
MadeCapturesHaveNoOtherFrames = (seed packets thread : ℕ) (frames : List Frame) → packets ≤ 262144
    → IsCapture (made_capture seed packets thread) frames → frames ≡ made_frames seed packets thread

abbrev pub MadeCapturesHaveNoFault : Type 0
MadeCapturesHaveNoFault = (seed packets thread : ℕ) (fault : CaptureFault) → packets ≤ 262144
    → HasFault (made_capture seed packets thread) fault → ⊥

-- the captured bytes of a frame are its packet
abbrev pub MadeFramesHaveTheirPackets : Type 0
MadeFramesHaveTheirPackets = (seed packets thread index : ℕ) → index < packets
    → captured_bytes (made_capture seed packets thread) (made_frame seed thread index) ≡ made_packet seed thread index

-- each frame is of its flow
abbrev pub MadeFramesAreFlows : Type 0
MadeFramesAreFlows = (seed packets thread index : ℕ) → packets ≤ 262144 → thread < 256 → index < packets
    → packet_of (made_capture seed packets thread) (made_frame seed thread index)
    ≡ made_flow seed thread index (made_frame seed thread index).start

-- no two flows have one client
abbrev pub MadeClientsAreApart : Type 0
MadeClientsAreApart = (thread flow other another : ℕ) → thread < 256 → flow < 65536 → other < 256 → another < 65536
    → client_of thread flow ≡ client_of other another → (thread ≡ other) × (flow ≡ another)
