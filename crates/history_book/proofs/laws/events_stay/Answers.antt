use Rattle.history_book.proofs.Points.{get_grows}
use Rattle.history_book.proofs.laws.events_stay.Goals as goal

pub returns : goal.returns
returns c = λ log front n e starts at. get_grows log front n e starts at
