use Rattle.packet_headers.proofs.SamePackets.{equal_frames}
use Rattle.packet_headers.proofs.classify_laws.equal_frames_are_equal_packets.Goals as goal

pub returns : goal.returns
returns c = equal_frames
