use Rattle.run_inputs.proofs.Flaws.{one_content}
use Rattle.run_inputs.proofs.laws.contents_are_unique.Goals as goal

pub returns : goal.returns
returns c = one_content c.rules_are_unique.ensures c.scripts_are_unique.ensures c.captures_are_unique.ensures
