use Rattle.history_book.proofs.Expecting.{expects_bounded}
use Rattle.history_book.proofs.laws.expectations_are_few.Goals as goal

pub returns : goal.returns
returns c = expects_bounded
