use Rattle.history_book.proofs.Again.{found_again}
use Rattle.history_book.proofs.laws.found_are_found_again.Goals as goal

pub returns : goal.returns
returns c = λ sizes log p q t found r legal live at. found_again sizes log p q t found r legal live at
