use Rattle.std.proofs.Common.{arith}
use Rattle.file_text.specs.Text.{lines_of}
use Rattle.nat_setup.proofs.FileLaws.{make}
use Rattle.nat_setup.proofs.laws.lines_make_files.Goals as goal

pub returns : goal.returns
returns c = λ bytes rules said few. make 1 0 (lines_of bytes) rules said (omega arith)
