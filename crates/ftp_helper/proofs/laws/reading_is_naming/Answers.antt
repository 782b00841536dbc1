use Rattle.ftp_helper.proofs.Naming.{reading_is_naming}
use Rattle.ftp_helper.proofs.laws.reading_is_naming.Goals as goal

pub returns : goal.returns
returns c = reading_is_naming
