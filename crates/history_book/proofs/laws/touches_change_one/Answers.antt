use Rattle.std.proofs.Common.{sym}
use Rattle.history_book.proofs.Pairs.{pairs_of}
use Rattle.history_book.proofs.Records.{map-with_part}
use Rattle.history_book.proofs.laws.touches_change_one.Goals as goal

pub returns : goal.returns
returns c = λ s i r direction segment moment part apart item.
    sym (map-with_part s.records i r part (pairs_of s.records apart) item)
