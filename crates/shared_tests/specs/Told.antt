-- What the tests' desk knows.
use Rattle.std.specs.Prelude.{List, []}
use Rattle.history_book.specs.declared.event.Note.{Note}
use Rattle.history_book.specs.declared.event.Numbered.{Numbered}
use Rattle.history_book.specs.Checked.{sizes_with}
use Rattle.history_book.specs.Numbered.{events_of, notes_of}
use Rattle.history_book.specs.Sight.{Sight}

-- the event with its number
abbrev pub note_of : Numbered → Note
note_of n = record { number = n.number; event = n.event }

-- the only pass of its tracker, which made each of these events
abbrev pub told_sight : List Numbered → Sight
told_sight history = record {
  front = events_of history;
  own = notes_of history;
  held = [];
  owed = [];
  spare = 0;
  tracker = [];
  sizes = sizes_with 1 0;
  shares = 1;
  returned = 0;
  gathered = [];
  taken = 0;
}
