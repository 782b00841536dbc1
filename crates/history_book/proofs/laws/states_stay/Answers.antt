use Rattle.std.proofs.Common.{arith}
use Rattle.history_book.proofs.Points.{after-grows, length_grows}
use Rattle.history_book.proofs.laws.states_stay.Goals as goal

pub returns : goal.returns
returns c = λ log front p starts within. (omega (arith, length_grows log front starts, within), after-grows log front p starts within)
