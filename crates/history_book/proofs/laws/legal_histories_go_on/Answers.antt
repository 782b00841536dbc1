use Rattle.history_book.proofs.Histories.{legal_push}
use Rattle.history_book.proofs.laws.legal_histories_go_on.Goals as goal

pub returns : goal.returns
returns c = legal_push
