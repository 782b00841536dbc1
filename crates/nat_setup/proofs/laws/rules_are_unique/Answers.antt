use Rattle.file_text.specs.ReadingLaws.{same_read}
use Rattle.nat_setup.specs.RuleFile.{file_of}
use Rattle.nat_setup.proofs.laws.rules_are_unique.Goals as goal

pub returns : goal.returns
returns c = λ bytes. same_read (file_of bytes)
