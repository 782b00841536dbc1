-- What the calls of a book say of its fields.
use Rattle.std.specs.Prelude.{◌≡◌, ℕ, ◌+◌, ◌-◌, ◌<◌, ◌≤◌, Option, Some, None, List, [], slice_get}
use Rattle.history_book.specs.declared.event.Event.{Event}
use Rattle.history_book.specs.declared.find.FoundAt.{FoundAt}
use Rattle.history_book.specs.declared.outcome.TakeOutcome.{TakeOutcome}
use Rattle.history_book.specs.declared.outcome.TakeOutcome.TheVariants as take
use Rattle.history_book.specs.declared.record.Record.{Record}
use Rattle.history_book.specs.Sight.{Sight, notes_from, risen}
use Rattle.history_book.specs.State.{State, winner}
use Rattle.tuple_core.specs.declared.Tuple.{Tuple}
use Rattle.book_desk.specs.declared.book.Book.{Book}
use Rattle.book_desk.specs.Fields.{IsBook}
use Rattle.book_desk.specs.Made.{with_made}
use Rattle.book_desk.specs.Uses.{times}

-- what the fields are after an event, but for the records, the references and the expectations
pub record Adds (old new : Book) : Type 0 where
  pub events : new.events ≡ old.events + 1
  pub sizes : new.sizes ≡ old.sizes
  pub free : new.free ≡ old.free
  pub owed : new.owed ≡ old.owed
  pub records_room : new.records.room ≡ old.records.room
  pub holds_room : new.holds.room ≡ old.holds.room
  pub expects_room : new.expects.room ≡ old.expects.room

-- the record at this index is the one that a new flow with these tuples meets, by this direction
pub record WinsAt (original reply : Tuple) (s : State) (found : FoundAt) : Type 0 where
  pub subject : Record
  pub item : slice_get s.records found.index ≡ Some subject
  pub wins : winner original reply s ≡ Some (record { subject = subject; direction = found.direction })

-- What one pass would know that kept all references and owed all places, and made all events: these, which led to the
-- fields. It has room for so many further ones, and took a place so many times.
abbrev pub sight_in : List Event → ℕ → ℕ → Book → Sight
sight_in log spare taken b = record {
  front = log;
  own = notes_from 0 log;
  held = b.holds.items;
  owed = b.owed.items;
  spare = spare;
  tracker = [];
  sizes = record b.sizes { passes = 1 };
  shares = 1;
  returned = 0;
  gathered = [];
  taken = taken;
}

-- how many times a place was taken once a call that takes one gave this answer
abbrev pub taken_then : TakeOutcome → ℕ → ℕ
taken_then (take.Taken place) taken = risen taken
taken_then (take.Full at) taken = taken

-- what is known once this answer is counted
abbrev pub counted : TakeOutcome → Sight → Sight
counted outcome s = record s { taken = taken_then outcome s.taken }

-- some events led to them, of which this holds
abbrev pub IsSomeBook : (List Event → Type 0) → Book → Type 0
IsSomeBook F b = (log : List Event) × IsBook log b × F log

-- the room for events before a call that left so much and made this one, or none
abbrev pub spare_before : ℕ → Option Event → ℕ
spare_before spare None = spare
spare_before spare (Some e) = spare + 1

-- and after it
abbrev pub spare_after : ℕ → Option Event → ℕ
spare_after spare None = spare
spare_after spare (Some e) = spare - 1

-- whatever events led to the fields, a call that made this event, or none, leaves them right
abbrev pub StaysBook : Book → Book → Option Event → Type 0
StaysBook old new made = (log : List Event) → IsBook log old → IsBook (with_made log made) new

-- and one pass that kept everything would be told this, however often it took a place
abbrev pub Tells : Book → Book → Option Event → (Sight → Sight → Type 0) → Type 0
Tells old new made Says =
    (log : List Event) (spare taken : ℕ) → IsBook log old
    → Says (sight_in log (spare_before spare made) taken old) (sight_in (with_made log made) spare taken new)

-- no place but those below n is among the places, and each of those once
pub record AreBelow (n from : ℕ) (places : List ℕ) : Type 0 where
  pub low : (p : ℕ) → p < from → times p places ≡ 0
  pub each : (p : ℕ) → from ≤ p → p < n → times p places ≡ 1
  pub high : (p : ℕ) → n ≤ p → times p places ≡ 0
