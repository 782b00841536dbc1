use Rattle.run_inputs.proofs.Findings.{given_is_told}
use Rattle.run_inputs.proofs.laws.given_is_told.Goals as goal

pub returns : goal.returns
returns c = record { all = given_is_told c.read_files_have_no_flaw.ensures c.contents_are_unique.ensures c.flaws_are_unique.ensures }
