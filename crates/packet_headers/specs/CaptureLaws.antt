-- What holds of all bytes as capture files.
use Rattle.std.specs.Prelude.{◌≡◌, ◌⊎◌, ℕ, List}
use Rattle.packet_headers.specs.declared.frame.Frame.{Frame}
use Rattle.packet_headers.specs.declared.capture.CaptureFault.{CaptureFault}
use Rattle.packet_headers.specs.Capture.{IsCapture, HasFault}

-- bytes are a capture file of one list of frames at most
abbrev pub CapturesAreUnique : Type 0
CapturesAreUnique = (bytes : List ℕ) (frames other : List Frame) → IsCapture bytes frames → IsCapture bytes other → frames ≡ other

-- bytes have one fault at most
abbrev pub FaultsAreUnique : Type 0
FaultsAreUnique = (bytes : List ℕ) (fault other : CaptureFault) → HasFault bytes fault → HasFault bytes other → fault ≡ other

-- a capture file has no fault
abbrev pub CapturesHaveNoFault : Type 0
CapturesHaveNoFault = (bytes : List ℕ) (frames : List Frame) (fault : CaptureFault) → IsCapture bytes frames → HasFault bytes fault → ⊥

-- each list of bytes is a capture file of some frames, or has a fault
abbrev pub BytesHaveFramesOrFault : Type 0
BytesHaveFramesOrFault = (bytes : List ℕ) → ((frames : List Frame) × IsCapture bytes frames) ⊎ ((fault : CaptureFault) × HasFault bytes fault)
