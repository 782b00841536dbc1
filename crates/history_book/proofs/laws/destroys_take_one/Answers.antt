use Rattle.std.proofs.Common.{sym}
use Rattle.history_book.proofs.Pairs.{pairs_of}
use Rattle.history_book.proofs.Records.{remove-filter}
use Rattle.history_book.proofs.laws.destroys_take_one.Goals as goal

pub returns : goal.returns
returns c = λ s i r why apart item. sym (remove-filter s.records i r (pairs_of s.records apart) item)
