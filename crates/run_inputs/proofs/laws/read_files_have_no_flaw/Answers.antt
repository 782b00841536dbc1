use Rattle.run_inputs.proofs.Flaws.{no_flaw}
use Rattle.run_inputs.proofs.laws.read_files_have_no_flaw.Goals as goal

pub returns : goal.returns
returns c = no_flaw c.files_have_no_fault.ensures c.scripts_have_no_fault.ensures c.captures_have_no_fault.ensures c.captures_are_unique.ensures
