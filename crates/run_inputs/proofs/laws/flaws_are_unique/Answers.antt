use Rattle.run_inputs.proofs.Flaws.{one_flaw}
use Rattle.run_inputs.proofs.laws.flaws_are_unique.Goals as goal

pub returns : goal.returns
returns c = one_flaw c.faults_are_unique.ensures c.faults_are_unique-2.ensures c.faults_are_unique-3.ensures c.captures_have_no_fault.ensures
