use Rattle.history_book.proofs.Placed.{unused_nobodys}
use Rattle.history_book.proofs.laws.unused_places_are_nobodys.Goals as goal

pub returns : goal.returns
returns c = λ s place id r unused at. unused_nobodys s place id r unused at
