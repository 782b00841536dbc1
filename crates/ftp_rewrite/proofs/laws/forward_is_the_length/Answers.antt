use Rattle.ftp_rewrite.proofs.Moves.{forward_is_the_length}
use Rattle.ftp_rewrite.proofs.laws.forward_is_the_length.Goals as goal

pub returns : goal.returns
returns c = forward_is_the_length
