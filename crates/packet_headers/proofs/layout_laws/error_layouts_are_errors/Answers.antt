use Rattle.packet_headers.proofs.LaidOut.{error_laid_out}
use Rattle.packet_headers.proofs.layout_laws.error_layouts_are_errors.Goals as goal

pub returns : goal.returns
returns c = error_laid_out
