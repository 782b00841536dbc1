use Rattle.std.proofs.Common.{arith}
use Rattle.std.proofs.lemmas.Fmt.{length-decimal-le}
use Rattle.report_text.proofs.number.UsizeNumber.put.Goals as goal

pub put_digits-requires : goal.put_digits-requires
put_digits-requires c = omega (arith, c.requires, length-decimal-le 20 c.args.self (omega arith) (omega arith) (omega arith))

pub returns-clause-short : goal.returns-clause-short
returns-clause-short c = length-decimal-le 20 c.args.self (omega arith) (omega arith) (omega arith)
