-- What the fields of the desk of one thread say, and when they are right.
use Rattle.std.specs.Prelude.{◌≡◌, ℕ, ◌+◌, ◌≤◌, ◌^◌, List, [], length, map}
use Rattle.room_list.specs.Roomed.{Roomed}
use Rattle.history_book.specs.declared.event.Event.{Event}
use Rattle.history_book.specs.declared.event.Note.{Note}
use Rattle.history_book.specs.Sight.{Sight, notes_from}
use Rattle.book_desk.specs.declared.book.Book.{Book}
use Rattle.book_desk.specs.Fields.{IsBook}

-- the events of notes
abbrev pub events_of : List Note → List Event
events_of notes = map (λ (n : Note). n.event) notes

-- what the desk knows: it is the one pass of its tracker, which stands on no table
abbrev pub plain_sight : Book → List Note → ℕ → ℕ → Sight
plain_sight b notes spare taken = record {
  front = events_of notes;
  own = notes;
  held = b.holds.items;
  owed = b.owed.items;
  spare = spare;
  tracker = [];
  sizes = b.sizes;
  shares = 1;
  returned = 0;
  gathered = [];
  taken = taken;
}

-- the notes are all events so far, with their numbers, and led to the book of one pass; there is room for as many further
-- ones as were asked for
pub record IsPlain (b : Book) (notes : Roomed Note) (spare : ℕ) : Type 0 where
  pub book : IsBook (events_of notes.items) b
  pub numbered : notes.items ≡ notes_from 0 (events_of notes.items)
  pub one : b.sizes.passes ≡ 1
  pub room : length notes.items + spare ≤ notes.room
  pub spared : length notes.items + spare ≤ 2 ^ 30
