use Rattle.file_text.proofs.Digits.{Counted}
use Rattle.file_text.proofs.numbers.digits.Given as goal

abbrev pub invariant-digits : goal.invariant-digits
invariant-digits l = Counted l.text l.digit-index l.value
