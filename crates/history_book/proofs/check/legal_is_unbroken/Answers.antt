use Rattle.history_book.proofs.Checking.{legal_unbroken, unbroken_legal}
use Rattle.history_book.proofs.check.legal_is_unbroken.Goals as goal

pub returns : goal.returns
returns c = λ sizes history. (legal_unbroken sizes history, unbroken_legal sizes history)
