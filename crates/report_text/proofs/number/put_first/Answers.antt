use Rattle.std.proofs.Common.{arith}
use Rattle.std.proofs.lemmas.Fmt.{decimal_digit}
use Rattle.report_text.proofs.Digits.{decimal_two, length_one, length_two, one_put}
use Rattle.report_text.proofs.number.put_first.Goals as goal

pub bounds-buffer-at : goal.bounds-buffer-at
bounds-buffer-at c = omega (arith, c.requires.room, length_one c.args.number c.if-number-lt10.true)

pub returns-then-number-lt10-clause-text : goal.returns-then-number-lt10-clause-text
returns-then-number-lt10-clause-text c =
    let digits = length_one c.args.number c.if-number-lt10.true in
    rw (decimal_digit c.args.number c.if-number-lt10.true) (one_put c.args.buffer.now c.args.at _ (omega (arith, c.requires.room, digits)))

pub returns-then-number-lt10-clause-end : goal.returns-then-number-lt10-clause-end
returns-then-number-lt10-clause-end c = omega (arith, length_one c.args.number c.if-number-lt10.true)

pub put_pair-requires-clause-room : goal.put_pair-requires-clause-room
put_pair-requires-clause-room c = omega (arith, c.requires.room, length_two c.args.number c.if-number-lt10.false c.requires.small)

pub returns-clause-text : goal.returns-clause-text
returns-clause-text c = rw (c.put_pair.ensures, decimal_two c.args.number c.if-number-lt10.false c.requires.small)

pub returns-clause-end : goal.returns-clause-end
returns-clause-end c = omega (arith, length_two c.args.number c.if-number-lt10.false c.requires.small)
