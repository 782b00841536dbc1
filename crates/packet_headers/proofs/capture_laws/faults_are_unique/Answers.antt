use Rattle.packet_headers.proofs.CaptureEnds.{one_told}
use Rattle.packet_headers.proofs.capture_laws.faults_are_unique.Goals as goal

pub returns : goal.returns
returns c = one_told
