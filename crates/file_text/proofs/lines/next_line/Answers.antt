use Rattle.std.proofs.Common.{rules, arith}
use Rattle.file_text.proofs.Parts.{only_line}
use Rattle.file_text.proofs.lines.next_line.Goals as goal

pub returns-in-None-clause-lines : goal.returns-in-None-clause-lines
returns-in-None-clause-lines c =
    only_line c.args.bytes.now c.split_at.result.1.now (search rules) c.requires (omega arith)
