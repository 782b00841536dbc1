use Rattle.history_book.proofs.Histories.{legal_front}
use Rattle.history_book.proofs.Points.{after-grows}
use Rattle.history_book.proofs.laws.first_events_stay.Goals as goal

pub returns : goal.returns
returns c = λ sizes log front p starts legal within. (legal_front sizes log front starts legal, after-grows log front p starts within)
