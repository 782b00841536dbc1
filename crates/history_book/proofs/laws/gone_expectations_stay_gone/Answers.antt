use Rattle.history_book.proofs.Gone.{gone_expectations}
use Rattle.history_book.proofs.laws.gone_expectations_stay_gone.Goals as goal

pub returns : goal.returns
returns c = λ sizes log p q id legal old le gone. gone_expectations sizes log p q id legal old le gone
