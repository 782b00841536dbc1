use Rattle.book_desk.proofs.Passes.Laws.{right_places}
use Rattle.book_desk.proofs.laws.places_are_right.Goals as goal

pub returns : goal.returns
returns c = right_places c.uses_exclude_others.ensures
