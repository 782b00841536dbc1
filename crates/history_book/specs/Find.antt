-- Where a record of a state stands among its records.
use Rattle.std.specs.Prelude.{◌≡◌, ℕ, Some, slice_get}
use Rattle.tuple_core.specs.declared.Tuple.{Tuple}
use Rattle.history_book.specs.declared.find.FoundAt.{FoundAt}
use Rattle.history_book.specs.declared.record.Record.{Record}
use Rattle.history_book.specs.State.{State, live_under, record_of}

-- the record at this index is live under the tuple, which names it in this direction
pub record IsFoundAt (t : Tuple) (s : State) (found : FoundAt) : Type 0 where
  pub subject : Record
  pub item : slice_get s.records found.index ≡ Some subject
  pub live : live_under t s ≡ Some (record { subject = subject; direction = found.direction })

-- the record at the index is the one with the id
pub record IsRecordAt (id : ℕ) (s : State) (index : ℕ) : Type 0 where
  pub subject : Record
  pub item : slice_get s.records index ≡ Some subject
  pub same : record_of id s ≡ Some subject
