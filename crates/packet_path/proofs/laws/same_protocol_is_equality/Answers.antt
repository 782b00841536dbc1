use Rattle.packet_path.proofs.Protocols.{same_protocol}
use Rattle.packet_path.proofs.laws.same_protocol_is_equality.Goals as goal

pub returns : goal.returns
returns c = same_protocol
