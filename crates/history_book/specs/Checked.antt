-- A check of one given history: whether it is a legal one, and which of its items is the first that is broken.
use Rattle.std.specs.Prelude.{◌≡◌, ◌↔◌, ◌<◌, ℕ, Bool, true, false, not, ◌==◌, ◌&&◌, Some, List, length, slice_get}
use Rattle.history_book.specs.declared.check.Checked.{Checked}
use Rattle.history_book.specs.declared.check.Checked.TheVariants.{Legal, Broken}
use Rattle.history_book.specs.declared.event.Event.{Event}
use Rattle.history_book.specs.declared.event.Numbered.{Numbered}
use Rattle.history_book.specs.declared.sizes.Sizes.{Sizes}
use Rattle.history_book.specs.History.{after, is_legal}
use Rattle.history_book.specs.Legality.{may_happen}
use Rattle.history_book.specs.Numbered.{IsNumberedFrom, events_of}

-- sizes with so many places and room for so many expectations
abbrev pub sizes_with : ℕ → ℕ → Sizes
sizes_with entries expectations =
    record { entries = entries; buckets = 1; seed = 0; passes = 1; expectations = expectations }

-- the other sizes say nothing of which histories are legal
abbrev pub TwoSizesDecide : Type 0
TwoSizesDecide =
    (sizes : Sizes) (log : List Event)
    → is_legal (sizes_with sizes.entries sizes.expectations) log ≡ is_legal sizes log

-- each item's number is its index, and the events are a legal history
pub record IsLegalHistory (sizes : Sizes) (history : List Numbered) : Type 0 where
  pub numbers : IsNumberedFrom 0 history
  pub events : is_legal sizes (events_of history) ≡ true

-- an item is broken at an index where its number is another, or its event may not happen after those before it
abbrev pub is_broken_at : Sizes → List Event → ℕ → Numbered → Bool
is_broken_at sizes log index item = not (item.number == index && may_happen sizes (after log index) index item.event)

-- there is an item at the index, and it is broken
pub record IsBrokenAt (sizes : Sizes) (history : List Numbered) (index : ℕ) : Type 0 where
  pub item : Numbered
  pub stands : slice_get history index ≡ Some item
  pub broken : is_broken_at sizes (events_of history) index item ≡ true

-- the item at the index is broken, and none before it is
pub record IsFirstBroken (sizes : Sizes) (history : List Numbered) (index : ℕ) : Type 0 where
  pub here : IsBrokenAt sizes history index
  pub before : (k : ℕ) → k < index → ¬ IsBrokenAt sizes history k

-- a history is legal exactly where none of its items is broken
abbrev pub LegalIsUnbroken : Type 0
LegalIsUnbroken =
    (sizes : Sizes) (history : List Numbered) → IsLegalHistory sizes history ↔ ((k : ℕ) → ¬ IsBrokenAt sizes history k)

-- the answer is that the history is legal
abbrev pub says_legal : Checked → Bool
says_legal (Legal live) = true
says_legal (Broken number) = false

-- a legal history is answered with the number of records after it
abbrev pub CountsLive : List Numbered → Checked → Type 0
CountsLive history (Legal live) = live ≡ length (after (events_of history) (length history)).records
CountsLive history (Broken number) = Unit {0}

-- another is answered with the index of its first broken item
abbrev pub NamesFirstBroken : Sizes → List Numbered → Checked → Type 0
NamesFirstBroken sizes history (Legal live) = Unit {0}
NamesFirstBroken sizes history (Broken number) = IsFirstBroken sizes history number
