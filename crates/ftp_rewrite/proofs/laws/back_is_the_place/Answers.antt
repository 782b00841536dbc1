use Rattle.ftp_rewrite.proofs.Moves.{back_is_the_place}
use Rattle.ftp_rewrite.proofs.laws.back_is_the_place.Goals as goal

pub returns : goal.returns
returns c = back_is_the_place
