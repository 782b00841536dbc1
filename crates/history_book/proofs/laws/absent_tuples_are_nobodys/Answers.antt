use Rattle.history_book.proofs.Again.{nobodys}
use Rattle.history_book.proofs.laws.absent_tuples_are_nobodys.Goals as goal

pub returns : goal.returns
returns c = λ t u s found absent live. nobodys t u s found absent live
