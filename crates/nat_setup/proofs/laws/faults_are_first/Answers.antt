use Rattle.nat_setup.proofs.FileLaws.{fault_first}
use Rattle.nat_setup.proofs.laws.faults_are_first.Goals as goal

pub returns : goal.returns
returns c = fault_first
