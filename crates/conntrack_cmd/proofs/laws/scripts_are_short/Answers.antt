use Rattle.conntrack_cmd.proofs.LineLaws.{short}
use Rattle.conntrack_cmd.proofs.laws.scripts_are_short.Goals as goal

pub returns : goal.returns
returns c = short
