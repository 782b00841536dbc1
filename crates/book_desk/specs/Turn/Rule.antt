-- What holds of the shared book between any two steps.
use Rattle.std.specs.Prelude.{◌≡◌, ℕ, ◌+◌, ◌*◌, ◌≤◌, ◌^◌, Option, Some, None, List, [], ◌∷◌, length}
use mathlib.Core.Option.{some}
use lib.ListN.{get_elem?}
use Rattle.atomic_table.specs.Seated.{TableId}
use Rattle.atomic_table.specs.Table.{State}
use Rattle.history_book.specs.declared.event.Event.{Event}
use Rattle.history_book.specs.declared.sizes.Sizes.{Sizes}
use Rattle.book_desk.specs.declared.book.Book.{Book}
use Rattle.book_desk.specs.declared.turn.view.TurnView.{TurnView}
use Rattle.book_desk.specs.Fields.{IsBook}
use Rattle.book_desk.specs.Turn.Passes.{ArePasses}
use Rattle.book_desk.specs.Turn.Places.{AreOfPasses}
use Rattle.book_desk.specs.Turn.Sums.{Each, total}

-- the table has one word and one slot
pub record IsTable (table : TableId) : Type 0 where
  pub words : table.words ≡ 1
  pub slots : table.slots ≡ 1

abbrev pub turn_of : TurnView → ℕ
turn_of v = v.turn

-- the word: the lowest bit is the turn, the next forty are the number of events, and the rest is the number of live entries
abbrev pub packed : ℕ → Book → ℕ
packed turn b = turn + 2 * (b.events + 2 ^ 40 * length b.records.items)

-- These events led to this book, of these sizes. The word says whether a pass has the turn, which is one at most. While
-- none has it the book is at home: there is a slot, which no pass has out, and its value is this book. The pass that has
-- the turn knows the book as it is, and has seen every event.
pub record IsKept (z : Sizes) (log : List Event) (b : Book) (s : State (Option Book) TurnView) : Type 0 where
  pub book : IsBook log b
  pub sizes : b.sizes ≡ z
  pub words : s.words ≡ packed (total turn_of s.views) b ∷ []
  pub single : total turn_of s.views ≤ 1
  pub home : total turn_of s.views ≡ 0 → get_elem? s.homes 0 ≡ some (some (Some b))
  pub away : Each (λ v. v.turn ≡ 1 → (v.book ≡ Some b) × (v.front ≡ log)) s.views
  pub passes : ArePasses z log s.views
  pub places : AreOfPasses b s.views

-- there are such events and such a book
abbrev pub Holds : Sizes → State (Option Book) TurnView → Type 0
Holds z s = (log : List Event) × (b : Book) × IsKept z log b s

-- the first pass has all shares
abbrev pub first_view : Sizes → TurnView
first_view z = record {
  sizes = z;
  number = 0;
  shares = z.passes;
  returned = 0;
  front = [];
  told = [];
  own = [];
  gathered = [];
  held = [];
  owed = [];
  turn = 0;
  book = None;
}
