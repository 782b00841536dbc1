use Rattle.nat_setup.specs.RuleFile.{file_of}
use Rattle.nat_setup.proofs.FileLaws.{either}
use Rattle.nat_setup.proofs.laws.bytes_have_rules_or_fault.Goals as goal

pub returns : goal.returns
returns c = λ bytes. either (file_of bytes)
