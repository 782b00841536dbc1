use Rattle.packet_headers.proofs.CaptureOrFault.{captured_or_told}
use Rattle.packet_headers.proofs.capture_laws.bytes_have_frames_or_fault.Goals as goal

pub returns : goal.returns
returns c = captured_or_told
