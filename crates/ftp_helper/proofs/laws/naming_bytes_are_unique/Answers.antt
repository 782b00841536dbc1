use Rattle.ftp_helper.proofs.Naming.{one_span}
use Rattle.ftp_helper.proofs.laws.naming_bytes_are_unique.Goals as goal

pub returns : goal.returns
returns c = one_span
