use Rattle.history_book.proofs.Pairs.{pairs_of}
use Rattle.history_book.proofs.Records.{own_record}
use Rattle.history_book.proofs.laws.ids_name_records.Goals as goal

pub returns : goal.returns
returns c = λ s i r apart item. own_record s.records i r (pairs_of s.records apart) item
