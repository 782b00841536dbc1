use Rattle.run_inputs.proofs.Findings.{words_say_one}
use Rattle.run_inputs.proofs.laws.words_say_one.Goals as goal

pub returns : goal.returns
returns c = record { all = words_say_one }
