use Rattle.packet_headers.proofs.LaidOut.{udp_laid_out}
use Rattle.packet_headers.proofs.layout_laws.udp_layouts_are_flows.Goals as goal

pub returns : goal.returns
returns c = udp_laid_out
