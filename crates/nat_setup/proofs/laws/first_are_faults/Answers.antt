use Rattle.nat_setup.proofs.FileLaws.{first_fault}
use Rattle.nat_setup.proofs.laws.first_are_faults.Goals as goal

pub returns : goal.returns
returns c = first_fault
