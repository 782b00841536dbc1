use Rattle.std.proofs.Common.{arith}
use Rattle.std.proofs.lemmas.Fmt.{length-decimal-le}
use Rattle.report_text.proofs.number.U16Number.put.Goals as goal

pub put_middle-requires-clause-room : goal.put_middle-requires-clause-room
put_middle-requires-clause-room c = omega (arith, c.requires, length-decimal-le 5 c.args.self (omega arith) (omega arith) (omega arith))

pub returns-clause-short : goal.returns-clause-short
returns-clause-short c = length-decimal-le 5 c.args.self (omega arith) (omega arith) (omega arith)
