-- The state that the records and expectations of a check are.
use Rattle.history_book.specs.declared.check.Table.{Table}
use Rattle.history_book.specs.State.{State}

abbrev pub state_in : Table → State
state_in t = record { records = t.records.items; expects = t.expects.items }
