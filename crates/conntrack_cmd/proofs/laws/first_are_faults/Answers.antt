use Rattle.conntrack_cmd.proofs.LineLaws.{first_fault}
use Rattle.conntrack_cmd.proofs.laws.first_are_faults.Goals as goal

pub returns : goal.returns
returns c = first_fault
