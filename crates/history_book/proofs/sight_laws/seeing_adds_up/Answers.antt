use Rattle.history_book.proofs.Sights.{resting, saw_twice}
use Rattle.history_book.proofs.sight_laws.seeing_adds_up.Goals as goal

pub returns-clause-twice : goal.returns-clause-twice
returns-clause-twice c = saw_twice

pub returns-clause-resting : goal.returns-clause-resting
returns-clause-resting c = resting
