use Rattle.ftp_rewrite.proofs.Ordered.{edits_stay_in_order}
use Rattle.ftp_rewrite.proofs.laws.edits_stay_in_order.Goals as goal

pub returns : goal.returns
returns c = edits_stay_in_order
