use Rattle.conntrack_cmd.proofs.LineLaws.{fault_first}
use Rattle.conntrack_cmd.proofs.laws.faults_are_first.Goals as goal

pub returns : goal.returns
returns c = fault_first
