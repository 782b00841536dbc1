use Rattle.ftp_rewrite.proofs.Moves.{back_undoes_forward}
use Rattle.ftp_rewrite.proofs.laws.back_undoes_forward.Goals as goal

pub returns : goal.returns
returns c = back_undoes_forward
