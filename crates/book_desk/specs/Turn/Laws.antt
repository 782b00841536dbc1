-- What the rule of the turns says of the places of all passes: between any two steps, and where a turn ends.
use Rattle.std.specs.Prelude.{◌≡◌, ◌≢◌, ℕ, ◌+◌, ◌<◌, ◌==◌, Option, None, List}
use mathlib.Core.Option.{Option as Slotted, none, some}
use lib.ListN.{get_elem?, set}
use Rattle.atomic_table.specs.Table.{State}
use Rattle.history_book.specs.Held.{is_at}
use Rattle.history_book.specs.PlaceUse.{PassUse, PlaceUse, users_of}
use Rattle.history_book.specs.Record.{has_place}
use Rattle.history_book.specs.declared.event.Event.{Event}
use Rattle.history_book.specs.declared.sizes.Sizes.{Sizes}
use Rattle.book_desk.specs.declared.book.Book.{Book}
use Rattle.book_desk.specs.declared.turn.change.Ending.{Ending}
use Rattle.book_desk.specs.declared.turn.change.PlaceChange.TheVariants.{Holds, Releases, Owes, Pays}
use Rattle.book_desk.specs.declared.turn.view.TurnView.{TurnView}
use Rattle.book_desk.specs.Uses.{bit, tally, times}
use Rattle.book_desk.specs.Turn.Rule.{IsKept}
use Rattle.book_desk.specs.Turn.Steps.{CanEnd, ended}
use Rattle.book_desk.specs.Turn.Sums.{total}

-- how many references of a pass are to the place
abbrev pub held_at : ℕ → TurnView → ℕ
held_at place v = total (λ h. bit (is_at place h)) v.held

-- how often a pass owes the place
abbrev pub owed_at : ℕ → TurnView → ℕ
owed_at place v = total (λ p. bit (p == place)) v.owed

-- how often a pass owes it
abbrev pub debts_of : ℕ → List TurnView → ℕ
debts_of place views = total (λ v. owed_at place v) views

-- what is counted of a place in a book, among what these passes know
abbrev pub use_in : ℕ → Book → List TurnView → PlaceUse
use_in place b views = record {
  free = times place b.free.items;
  live = tally (has_place place) b.records.items;
  passes = record { kept = total (λ v. held_at place v) views; owed = debts_of place views };
}

-- a tracker between two steps of its passes
pub record TurnBookState : Type 0 where
  pub sizes : Sizes
  pub log : List Event
  pub book : Book
  pub table : State (Option Book) TurnView

abbrev pub KeepsTurnRule : TurnBookState → Type 0
KeepsTurnRule b = IsKept b.sizes b.log b.book b.table

abbrev pub turn_entries : TurnBookState → ℕ
turn_entries b = b.sizes.entries

abbrev pub turn_uses : TurnBookState → ℕ → PlaceUse
turn_uses b place = use_in place b.book b.table.views

-- and of it what is one pass's: where no pass has the number, nothing
abbrev pub turn_part : ℕ → Slotted TurnView → PassUse
turn_part place none = record { kept = 0; owed = 0 }
turn_part place (some v) = record { kept = held_at place v; owed = owed_at place v }

abbrev pub turn_part_in : TurnBookState → ℕ → ℕ → PassUse
turn_part_in b pass place = turn_part place (get_elem? b.table.views pass)

-- Between two steps this pass has the turn, and may end it with this change of places and this book.
pub record MayEnd (z : Sizes) (log : List Event) (b : Book) (s : State (Option Book) TurnView) (i : ℕ) (v : TurnView) (e : Ending) (new : Book) : Type 0 where
  pub kept : IsKept z log b s
  pub at : get_elem? s.views i ≡ some v
  pub can : CanEnd e v new

-- what the passes know once it has ended it
abbrev pub views_then : List TurnView → ℕ → TurnView → Ending → List TurnView
views_then views i v e = set views i (ended e v)

-- A turn takes a place only where no pass holds it or owes it, and no live entry has it.
abbrev pub TakenPlacesWereNobodys : Type 0
TakenPlacesWereNobodys =
    (z : Sizes) (log : List Event) (b : Book) (s : State (Option Book) TurnView) (i place : ℕ) (v : TurnView) (e : Ending) (new : Book)
    → MayEnd z log b s i v e new → e.places ≡ Holds (record { place = place; id = None })
    → debts_of place s.views + users_of (use_in place b s.views) ≡ 0

-- So a place that some pass holds or owes is given to no pass: no turn may end with it taken.
abbrev pub HeldPlacesAreNotGiven : Type 0
HeldPlacesAreNotGiven =
    (z : Sizes) (log : List Event) (b : Book) (s : State (Option Book) TurnView) (i j place : ℕ) (u v : TurnView) (e : Ending) (new : Book)
    → get_elem? s.views j ≡ some u → 0 < held_at place u + owed_at place u
    → MayEnd z log b s i v e new → e.places ≢ Holds (record { place = place; id = None })

-- A turn that gives up a reference, and does not owe the place from then on, leaves a live entry in the place or a
-- reference of some pass to it.
abbrev pub KeptLeavesAUse : Type 0
KeptLeavesAUse =
    (z : Sizes) (log : List Event) (b : Book) (s : State (Option Book) TurnView) (i place : ℕ) (v : TurnView) (e : Ending) (new : Book)
    → MayEnd z log b s i v e new → e.places ≡ Releases place → 0 < users_of (use_in place new (views_then s.views i v e))

-- A turn that gives up the last reference, so that the place is owed, leaves no live entry in it and no reference to it.
abbrev pub LastLeavesNoUse : Type 0
LastLeavesNoUse =
    (z : Sizes) (log : List Event) (b : Book) (s : State (Option Book) TurnView) (i place : ℕ) (v : TurnView) (e : Ending) (new : Book)
    → MayEnd z log b s i v e new → e.places ≡ Owes place → users_of (use_in place new (views_then s.views i v e)) ≡ 0

-- A turn that gives a place back leaves it free: no pass owes it, no entry has it and no reference is to it.
abbrev pub RecycledPlacesAreFree : Type 0
RecycledPlacesAreFree =
    (z : Sizes) (log : List Event) (b : Book) (s : State (Option Book) TurnView) (i place : ℕ) (v : TurnView) (e : Ending) (new : Book)
    → MayEnd z log b s i v e new → e.places ≡ Pays place
    → (times place new.free.items ≡ 1) × (debts_of place (views_then s.views i v e) + users_of (use_in place new (views_then s.views i v e)) ≡ 0)
