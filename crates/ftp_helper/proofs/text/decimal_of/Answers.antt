use Rattle.std.proofs.Common.{rules}
use Rattle.ftp_helper.proofs.Digits.{one_more}
use Rattle.ftp_helper.proofs.text.decimal_of.Goals as goal

pub digits-preserved : goal.digits-preserved
digits-preserved c =
    one_more c.args.digits.now c.digits.digit-index c.digits.value c.from.result c.digits-test.true (search rules) c.from.ensures c.digits.invariant
