-- When the fields of a book are right.
use Rattle.std.specs.Prelude.{◌≡◌, ◌+◌, ◌*◌, ◌≤◌, true, Some, List, [], ◌∷◌, length}
use Rattle.std.specs.List.{AllByRecursion}
use Rattle.history_book.specs.declared.desk.Hold.{Hold}
use Rattle.history_book.specs.declared.event.Event.{Event}
use Rattle.history_book.specs.declared.record.Record.{Record}
use Rattle.history_book.specs.declared.sizes.Sizes.{Sizes}
use Rattle.history_book.specs.History.{after, is_legal}
use Rattle.history_book.specs.Sight.{IsForEntryOf, IsForOne}
use Rattle.history_book.specs.Sizes.{AreWithinLimits}
use Rattle.history_book.specs.State.{State}
use Rattle.book_desk.specs.declared.book.Book.{Book}
use Rattle.book_desk.specs.Uses.{ArePlaces}

-- the state that the fields have: the live records and what is expected
abbrev pub state_in : Book → State
state_in b = record { records = b.records.items; expects = b.expects.items }

-- a reference to the place of a record is for that record
abbrev pub IsForRecord : Hold → Record → Type 0
IsForRecord h r = h.place ≡ r.place → h.id ≡ Some r.id

-- any two references to one place are to one entry
abbrev pub Agree : List Hold → Type 0
Agree [] = Unit {0}
Agree (h ∷ hs) = AllByRecursion (IsForOne h) hs × Agree hs

-- each reference is to an entry that was confirmed in its place, and to the live one where one is there
pub record AreReferences (front : List Event) (rs : List Record) (held : List Hold) : Type 0 where
  pub confirmed : AllByRecursion (λ h. IsForEntryOf front h.place h.id) held
  pub current : AllByRecursion (λ h. AllByRecursion (IsForRecord h) rs) held
  pub agreed : Agree held

-- the events are a legal history that leaves this state
pub record IsHistory (sizes : Sizes) (log : List Event) (s : State) : Type 0 where
  pub legal : is_legal sizes log ≡ true
  pub state : s ≡ after log (length log)

-- there is room for all that may come
pub record HasRooms (b : Book) : Type 0 where
  pub records : b.sizes.entries ≤ b.records.room
  pub free : b.sizes.entries ≤ b.free.room
  pub holds : 4 * b.sizes.passes ≤ b.holds.room
  pub owed : 4 * b.sizes.passes ≤ b.owed.room
  pub expects : b.expects.room ≡ b.sizes.expectations

-- the fields are right, and these events led to them
pub record IsBook (log : List Event) (b : Book) : Type 0 where
  pub limits : AreWithinLimits b.sizes
  pub events : b.events ≡ length log
  pub history : IsHistory b.sizes log (state_in b)
  pub places : ArePlaces b.sizes.entries b.records.items b.holds.items b.free.items b.owed.items
  pub references : AreReferences log b.records.items b.holds.items
  pub few : length b.holds.items + length b.owed.items ≤ 4 * b.sizes.passes
  pub rooms : HasRooms b
