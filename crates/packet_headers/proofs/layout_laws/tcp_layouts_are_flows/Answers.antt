use Rattle.packet_headers.proofs.LaidOut.{tcp_laid_out}
use Rattle.packet_headers.proofs.layout_laws.tcp_layouts_are_flows.Goals as goal

pub returns : goal.returns
returns c = tcp_laid_out
