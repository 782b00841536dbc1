use Rattle.book_desk.proofs.Passes.Laws.{no_use_left, use_left}
use Rattle.book_desk.proofs.laws.releases_leave_what_they_say.Goals as goal

pub returns-clause-kept : goal.returns-clause-kept
returns-clause-kept c = λ z log b s i place v e new may is. use_left z log b s i place v e new may is

pub returns-clause-last : goal.returns-clause-last
returns-clause-last c = λ z log b s i place v e new may is. no_use_left z log b s i place v e new may is
