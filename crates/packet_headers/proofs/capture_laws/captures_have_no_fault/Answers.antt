use Rattle.packet_headers.proofs.CaptureEnds.{none_told}
use Rattle.packet_headers.proofs.capture_laws.captures_have_no_fault.Goals as goal

pub returns : goal.returns
returns c = none_told
