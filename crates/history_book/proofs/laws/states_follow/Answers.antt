use Rattle.history_book.proofs.Histories.{after-push}
use Rattle.history_book.proofs.laws.states_follow.Goals as goal

pub returns : goal.returns
returns c = after-push
