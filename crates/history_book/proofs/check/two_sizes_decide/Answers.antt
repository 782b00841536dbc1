use Rattle.history_book.proofs.Checking.{legal-sizes}
use Rattle.history_book.proofs.check.two_sizes_decide.Goals as goal

pub returns : goal.returns
returns c = legal-sizes
