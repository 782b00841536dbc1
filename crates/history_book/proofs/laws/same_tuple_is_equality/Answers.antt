use Rattle.history_book.proofs.Tuples.{same_tuple-equal, same_tuple-true}
use Rattle.history_book.proofs.laws.same_tuple_is_equality.Goals as goal

pub returns : goal.returns
returns c = λ t u. (same_tuple-true t u, same_tuple-equal t u)
