use Rattle.history_book.proofs.Gone.{gone_entries}
use Rattle.history_book.proofs.laws.gone_entries_stay_gone.Goals as goal

pub returns : goal.returns
returns c = λ sizes log p q id legal old le gone. gone_entries sizes log p q id legal old le gone
