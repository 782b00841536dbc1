use Rattle.packet_headers.proofs.LaidOut.{icmp_laid_out}
use Rattle.packet_headers.proofs.layout_laws.icmp_layouts_are_flows.Goals as goal

pub returns : goal.returns
returns c = icmp_laid_out
