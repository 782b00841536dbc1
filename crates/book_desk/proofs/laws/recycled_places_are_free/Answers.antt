use Rattle.book_desk.proofs.Passes.Laws.{free_then}
use Rattle.book_desk.proofs.laws.recycled_places_are_free.Goals as goal

pub returns : goal.returns
returns c = λ z log b s i place v e new may is. free_then z log b s i place v e new may is
