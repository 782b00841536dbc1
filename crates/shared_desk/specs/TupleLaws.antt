-- What ties a tuple's words to the entry that is live under it: laws of histories and of tuples that serve together.
use Rattle.history_book.specs.Laws.{RecordsAreApart, RecordsAreOfOneFlow}
use Rattle.history_book.specs.StateLaws.{SameTupleIsEquality}
use Rattle.tuple_core.specs.Laws.{WordsDetermineTheTuple}

pub record TuplesTellEntries : Type 0 where
  pub words : WordsDetermineTheTuple
  pub same : SameTupleIsEquality
  pub apart : RecordsAreApart
  pub one : RecordsAreOfOneFlow
