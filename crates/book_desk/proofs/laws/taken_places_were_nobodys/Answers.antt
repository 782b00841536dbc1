use Rattle.book_desk.proofs.Passes.Laws.{nobodys, not_given}
use Rattle.book_desk.proofs.laws.taken_places_were_nobodys.Goals as goal

pub returns-clause-nobodys : goal.returns-clause-nobodys
returns-clause-nobodys c = λ z log b s i place v e new may is. nobodys z log b s i place v e new may is

pub returns-clause-not_given : goal.returns-clause-not_given
returns-clause-not_given c = λ z log b s i j place u v e new at has may is. not_given z log b s i place v e new may j u at has is
