use Rattle.std.proofs.Common.{◌/◌, ◌%◌, ◌^◌, take, arith, append_assoc, decimal}
use Rattle.report_text.specs.Internal.Digits.{eight_digits}
use Rattle.report_text.proofs.Digits.{decimal_eight, length_eight}
use Rattle.report_text.proofs.number.put_upper.Goals as goal

pub put_short-end-requires-clause-room : goal.put_short-end-requires-clause-room
put_short-end-requires-clause-room c = omega (arith, c.requires.room, length_eight c.args.upper c.if-upper-lt100000000.false (omega arith))

pub put_eight-requires-clause-room : goal.put_eight-requires-clause-room
put_eight-requires-clause-room c = omega (arith, c.requires.room, c.put_short-end.ensures.end, length_eight c.args.upper c.if-upper-lt100000000.false (omega arith))

pub returns-clause-text : goal.returns-clause-text
returns-clause-text c =
    let front = append_assoc (take c.args.at c.args.buffer.now) (decimal (c.args.upper / 10 ^ 8)) (eight_digits (c.args.upper % 10 ^ 8)) in
    rw (c.put_eight.ensures, c.put_short-end.ensures.text, decimal_eight c.args.upper c.if-upper-lt100000000.false (omega arith), front)

pub returns-clause-end : goal.returns-clause-end
returns-clause-end c = omega (arith, c.put_short-end.ensures.end, length_eight c.args.upper c.if-upper-lt100000000.false (omega arith))
