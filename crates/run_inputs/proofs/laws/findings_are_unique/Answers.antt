use Rattle.run_inputs.proofs.Scans.{findings_are_unique}
use Rattle.run_inputs.proofs.laws.findings_are_unique.Goals as goal

pub returns : goal.returns
returns c = findings_are_unique c.read_files_have_no_flaw.ensures c.contents_are_unique.ensures c.flaws_are_unique.ensures
