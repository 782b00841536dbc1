use Rattle.history_book.proofs.Placed.{confirmed_in, placed_in}
use Rattle.history_book.proofs.laws.entries_keep_their_place.Goals as goal

pub returns : goal.returns
returns c = λ sizes log p id r legal at. (confirmed_in sizes log p id r legal at, placed_in sizes log p id r legal at)
