use Rattle.file_text.specs.Text.{lines_of}
use Rattle.nat_setup.proofs.FileLaws.{say}
use Rattle.nat_setup.proofs.laws.files_say_their_rules.Goals as goal

pub returns : goal.returns
returns c = λ bytes rules read. say 1 0 (lines_of bytes) rules read
