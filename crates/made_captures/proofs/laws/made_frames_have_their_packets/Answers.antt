use Rattle.made_captures.proofs.Reading.{made_has_packet}
use Rattle.made_captures.proofs.laws.made_frames_have_their_packets.Goals as goal

pub returns : goal.returns
returns c = made_has_packet
