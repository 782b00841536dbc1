use Rattle.history_book.proofs.Histories.{may_at}
use Rattle.history_book.proofs.laws.events_may_happen.Goals as goal

pub returns : goal.returns
returns c = λ sizes log n e legal at. may_at sizes log n e legal at
