use Rattle.packet_headers.proofs.SamePackets.{frame_alone}
use Rattle.packet_headers.proofs.classify_laws.classify_reads_the_frame_alone.Goals as goal

pub returns : goal.returns
returns c = frame_alone
