use Rattle.history_book.proofs.Placed.{one_entry_of}
use Rattle.history_book.proofs.laws.places_name_entries.Goals as goal

pub returns : goal.returns
returns c = λ sizes log p id other r q legal at there places. one_entry_of sizes log p id other r q legal at there places
