use Rattle.history_book.proofs.HeldPlaces.{only_id}
use Rattle.history_book.proofs.places.one_hold_has_its_id.Goals as goal

pub returns : goal.returns
returns c = λ place id s one. only_id place id s one
