use Rattle.ftp_helper.proofs.Digits.{IsRead}
use Rattle.ftp_helper.proofs.text.decimal_of.Given as goal

abbrev pub invariant-digits : goal.invariant-digits
invariant-digits l = IsRead l.digits l.digit-index l.value
