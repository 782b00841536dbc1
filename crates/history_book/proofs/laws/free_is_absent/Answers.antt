use Rattle.history_book.proofs.Live.{absent_free, free_absent}
use Rattle.history_book.proofs.laws.free_is_absent.Goals as goal

pub returns : goal.returns
returns c = λ t s. (absent_free t s, free_absent t s)
