use Rattle.std.proofs.Common.{arith, append_assoc}
use Rattle.report_text.proofs.Digits.{decimal_pair, length_pair}
use Rattle.report_text.proofs.number.put_short.Goals as goal

pub put_first-end-requires-clause-room : goal.put_first-end-requires-clause-room
put_first-end-requires-clause-room c = omega (arith, c.requires.room, length_pair c.args.number c.if-number-lt100.false (omega arith))

pub put_pair-requires-clause-room : goal.put_pair-requires-clause-room
put_pair-requires-clause-room c = omega (arith, c.requires.room, c.put_first-end.ensures.end, length_pair c.args.number c.if-number-lt100.false (omega arith))

pub returns-clause-text : goal.returns-clause-text
returns-clause-text c =
    rw (c.put_pair.ensures, c.put_first-end.ensures.text, decimal_pair c.args.number c.if-number-lt100.false (omega arith), append_assoc)

pub returns-clause-end : goal.returns-clause-end
returns-clause-end c = omega (arith, c.put_first-end.ensures.end, length_pair c.args.number c.if-number-lt100.false (omega arith))
