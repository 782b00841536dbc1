use Rattle.std.proofs.Common.{rules, arith, ◌<◌, ◌^◌}
use Rattle.file_text.proofs.Digits.{bounded, more}
use Rattle.file_text.proofs.numbers.digits.Goals as goal

pub overflow_mul-value : goal.overflow_mul-value
overflow_mul-value c =
    let small : c.digits.value < 10 ^ 16 = bounded c.digits.digit-index c.digits.value (omega arith) c.digits.invariant.2 in
    omega arith

pub overflow_add-value : goal.overflow_add-value
overflow_add-value c =
    let small : c.digits.value < 10 ^ 16 = bounded c.digits.digit-index c.digits.value (omega arith) c.digits.invariant.2 in
    omega arith

pub digits-preserved : goal.digits-preserved
digits-preserved c =
    more c.args.text.now c.digits.digit-index c.digits.value c.from.result c.digits-test.true (search rules) c.from.ensures c.digits.invariant
