use Rattle.history_book.proofs.Expected.{kept_helper, kept_zone}
use Rattle.history_book.proofs.laws.entries_keep_helper_and_zone.Goals as goal

pub returns-clause-helper : goal.returns-clause-helper
returns-clause-helper c = λ sizes log p id r legal at. kept_helper sizes log p id r legal at

pub returns-clause-zone : goal.returns-clause-zone
returns-clause-zone c = λ sizes log p id r legal at. kept_zone sizes log p id r legal at
