use Rattle.std.proofs.Common.{arith, append_assoc}
use Rattle.report_text.proofs.Digits.{decimal_four, length_four}
use Rattle.report_text.proofs.number.put_middle.Goals as goal

pub put_short-end-requires-clause-room : goal.put_short-end-requires-clause-room
put_short-end-requires-clause-room c = omega (arith, c.requires.room, length_four c.args.number c.if-number-lt10000.false (omega arith))

pub put_four-requires-clause-room : goal.put_four-requires-clause-room
put_four-requires-clause-room c = omega (arith, c.requires.room, c.put_short-end.ensures.end, length_four c.args.number c.if-number-lt10000.false (omega arith))

pub returns-clause-text : goal.returns-clause-text
returns-clause-text c =
    rw (c.put_four.ensures, c.put_short-end.ensures.text, decimal_four c.args.number c.if-number-lt10000.false (omega arith), append_assoc)

pub returns-clause-end : goal.returns-clause-end
returns-clause-end c = omega (arith, c.put_short-end.ensures.end, length_four c.args.number c.if-number-lt10000.false (omega arith))
