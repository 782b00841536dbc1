use Rattle.packet_headers.proofs.CaptureEnds.{one_capture}
use Rattle.packet_headers.proofs.capture_laws.captures_are_unique.Goals as goal

pub returns : goal.returns
returns c = one_capture
