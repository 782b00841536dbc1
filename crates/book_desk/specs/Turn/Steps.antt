-- What the steps ask of a pass, and what they tell it. V is what the pass knew before, w what it knows after.
use Rattle.std.specs.Prelude.{◌≡◌, ℕ, ◌+◌, ◌-◌, ◌*◌, ◌/◌, ◌%◌, ◌<◌, ◌≤◌, ◌^◌, Bool, true, Option, Some, None, List, [], ◌∷◌, ◌++◌, length, MatchBool, ◌==◌}
use Rattle.atomic_table.specs.Table.{Me, Step, rest}
use Rattle.history_book.specs.declared.desk.Hold.{Hold}
use Rattle.history_book.specs.declared.event.Event.{Event}
use Rattle.history_book.specs.History.{after, is_legal}
use Rattle.history_book.specs.Point.{StartsWith}
use Rattle.history_book.specs.declared.event.Note.{Note}
use Rattle.history_book.specs.Sight.{AreEventsOf, notes_from}
use Rattle.book_desk.specs.declared.book.Book.{Book}
use Rattle.book_desk.specs.declared.turn.change.Ending.{Ending}
use Rattle.book_desk.specs.declared.turn.view.TurnView.{TurnView}
use Rattle.book_desk.specs.Fields.{IsBook}
use Rattle.book_desk.specs.Made.{with_made, noted}
use Rattle.book_desk.specs.Turn.Change.{IsRightChange, held_after, owed_after}
use Rattle.book_desk.specs.Turn.Rule.{packed}
use Rattle.book_desk.specs.Turn.Sums.{total}

-- the number of events, and of live entries, that the word says
abbrev pub events_in : ℕ → ℕ
events_in word = word / 2 % 2 ^ 40

abbrev pub live_in : ℕ → ℕ
live_in word = word / 2 / 2 ^ 40

-- These are all events so far; they are no fewer than the pass had seen, or than the one had seen that it took in last. As
-- many as there are, and as many as this pass may still make, are no more than all passes may make: of 64 passes at most,
-- so that each event's number is below 2^40. The pass has no more shares than there are passes, returned ones among them.
pub record AreAll (v : TurnView) (log : List Event) : Type 0 where
  pub front : StartsWith log v.front
  pub told : StartsWith log v.told
  pub legal : is_legal v.sizes log ≡ true
  pub few : length log + (2 ^ 30 - length v.own) ≤ 2 ^ 30 * v.sizes.passes
  pub passes : v.sizes.passes ≤ 64
  pub shares : v.shares + v.returned ≤ v.sizes.passes
  pub alone : v.sizes.passes ≡ 1 → v.own ≡ notes_from 0 log

-- a load: the pass has seen all events, and the word is theirs
pub record Looks (v w : TurnView) (word : ℕ) : Type 0 where
  pub same : w ≡ record v { front = w.front }
  pub all : AreAll v w.front
  pub events : events_in word ≡ length w.front
  pub live : live_in word ≡ length (after w.front (length w.front)).records

-- The turn is free for the pass, and this is the book, to which all events led. What the pass holds and owes is among what
-- the book has; the others hold and owe four places at most each; where it is the only pass nobody else has any.
pub record HasTurn (v : TurnView) (log : List Event) (b : Book) : Type 0 where
  pub all : AreAll v log
  pub book : IsBook log b
  pub sizes : b.sizes ≡ v.sizes
  pub held : (weight : Hold → ℕ) → total weight v.held ≤ total weight b.holds.items
  pub owed : (weight : ℕ → ℕ) → total weight v.owed ≤ total weight b.owed.items
  pub crowd : length b.holds.items + length b.owed.items + 4 ≤ 4 * v.sizes.passes + (length v.held + length v.owed)
  pub only_held : v.sizes.passes ≡ 1 → (weight : Hold → ℕ) → total weight b.holds.items ≡ total weight v.held
  pub only_owed : v.sizes.passes ≡ 1 → (weight : ℕ → ℕ) → total weight b.owed.items ≡ total weight v.owed

-- what the pass knows that took it
abbrev pub turned : TurnView → List Event → Book → TurnView
turned v log b = record v { turn = 1; front = log; book = Some b }

-- the pass took the turn, and the book
abbrev pub TookTurn : Me (Option Book) TurnView → Me (Option Book) TurnView → Type 0
TookTurn me me' = (log : List Event) × (b : Book) × HasTurn me.0 log b × (me' ≡ (turned me.0 log b, (0, Some b) ∷ me.1))

-- it has them, and took the book out of its slot
abbrev pub TookBook : TurnView → Me (Option Book) TurnView → Book → Type 0
TookBook v me' b = (log : List Event) × HasTurn v log b × (me' ≡ (turned v log b, (0, None) ∷ []))

-- The book is what all events led to, which the pass has seen in part; they stand once each among those that it made and
-- gathered.
pub record IsLast (v : TurnView) (b : Book) : Type 0 where
  pub log : List Event
  pub front : StartsWith log v.front
  pub book : IsBook log b
  pub sizes : b.sizes ≡ v.sizes
  pub own : AreEventsOf log v.own
  pub gathered : AreEventsOf log v.gathered
  pub made : (weight : Note → ℕ) → total weight (notes_from 0 log) ≡ total weight v.own + total weight v.gathered
  pub alone : v.sizes.passes ≡ 1 → v.own ≡ notes_from 0 log

-- it did, or nothing changed
abbrev pub TakesOrNot : Bool → Me (Option Book) TurnView → Me (Option Book) TurnView → Type 0
TakesOrNot took me me' = MatchBool took (TookTurn me me') (me' ≡ me)

-- it did where the word was what it was expected to be
abbrev pub Takes : Step (Option Book) → Me (Option Book) TurnView → ℕ → Me (Option Book) TurnView → Type 0
Takes step me found me' = TakesOrNot (found == step.first) me me'

abbrev pub Loads : Step (Option Book) → Me (Option Book) TurnView → ℕ → Me (Option Book) TurnView → Type 0
Loads step me found me' = Looks me.0 me'.0 found × (me'.1 ≡ me.1)

-- what a pass knows once its turn has ended so
abbrev pub ended : Ending → TurnView → TurnView
ended e v = record v {
  turn = 0;
  front = with_made v.front e.made;
  own = noted v.own (length v.front) e.made;
  held = held_after e.places v.held;
  owed = owed_after e.places v.owed;
}

abbrev pub Ends : Ending → Step (Option Book) → Me (Option Book) TurnView → ℕ → Me (Option Book) TurnView → Type 0
Ends e step me found me' = (me'.0 ≡ ended e me.0) × (me'.1 ≡ rest me.1)

-- the references, the owed places and the free places of a book that is known
abbrev pub holds_in : Option Book → List Hold
holds_in None = []
holds_in (Some b) = b.holds.items

abbrev pub owed_in : Option Book → List ℕ
owed_in None = []
owed_in (Some b) = b.owed.items

abbrev pub free_in : Option Book → List ℕ
free_in None = []
free_in (Some b) = b.free.items

-- A turn may end so with this book: the event led to it, the references and the owed places of the book changed as those
-- of the pass, and the change is right of the place.
pub record CanEnd (e : Ending) (v : TurnView) (b : Book) : Type 0 where
  pub some : 0 < v.shares
  pub turn : v.turn ≡ 1
  pub book : IsBook (with_made v.front e.made) b
  pub sizes : b.sizes ≡ v.sizes
  pub held : (weight : Hold → ℕ) → total weight b.holds.items + total weight v.held ≡ total weight (holds_in v.book) + total weight (held_after e.places v.held)
  pub owed : (weight : ℕ → ℕ) → total weight b.owed.items + total weight v.owed ≡ total weight (owed_in v.book) + total weight (owed_after e.places v.owed)
  pub right : IsRightChange e.places (free_in v.book) b
  pub few : length (held_after e.places v.held) + length (owed_after e.places v.owed) ≤ 4
  pub own_few : length (noted v.own (length v.front) e.made) ≤ 2 ^ 30

-- a turn may end so, with the word of the book that the pass has
abbrev pub CanEndHere : Ending → Me (Option Book) TurnView → ℕ → Type 0
CanEndHere e me word = (b : Book) × CanEnd e me.0 b × (word ≡ packed 0 b) × (me.1 ≡ (0, Some b) ∷ [])

-- a pass hands over its last shares
abbrev pub shares_left : ℕ → TurnView → TurnView
shares_left shares v = record v { shares = v.shares - shares }

abbrev pub further : ℕ → TurnView → TurnView
further shares v = record {
  sizes = v.sizes;
  number = v.number + (v.shares - shares);
  shares = shares;
  returned = 0;
  front = v.front;
  told = [];
  own = [];
  gathered = [];
  held = [];
  owed = [];
  turn = 0;
  book = None;
}

-- a pass takes in another one, and what is left of that one
abbrev pub joined : TurnView → TurnView → TurnView
joined v w = record v {
  returned = v.returned + (w.shares + w.returned);
  told = w.front;
  gathered = v.gathered ++ w.own ++ w.gathered;
}

abbrev pub spent_view : TurnView
spent_view = record {
  sizes = record { entries = 0; buckets = 0; seed = 0; passes = 0; expectations = 0 };
  number = 0;
  shares = 0;
  returned = 0;
  front = [];
  told = [];
  own = [];
  gathered = [];
  held = [];
  owed = [];
  turn = 0;
  book = None;
}
