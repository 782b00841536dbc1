use Rattle.std.proofs.Common.{arith}
use Rattle.std.proofs.lemmas.Fmt.{length-decimal-le}
use Rattle.report_text.proofs.number.U32Number.put.Goals as goal

pub put_digits-requires : goal.put_digits-requires
put_digits-requires c = omega (arith, c.requires, length-decimal-le 10 c.args.self (omega arith) (omega arith) (omega arith))

pub returns-clause-short : goal.returns-clause-short
returns-clause-short c = length-decimal-le 10 c.args.self (omega arith) (omega arith) (omega arith)
