use Rattle.run_inputs.proofs.Scans.{inputs_are_found}
use Rattle.run_inputs.proofs.laws.inputs_are_found.Goals as goal

pub returns : goal.returns
returns c = inputs_are_found c.files_are_read_or_flawed.ensures c.words_want_no_memory.ensures
