use Rattle.run_inputs.proofs.Flaws.{read_or_flawed}
use Rattle.run_inputs.proofs.laws.files_are_read_or_flawed.Goals as goal

pub returns : goal.returns
returns c = read_or_flawed c.bytes_have_rules_or_fault.ensures c.bytes_have_script_or_fault.ensures c.bytes_have_frames_or_fault.ensures
