-- What a turn leaves to its pass.
use Rattle.std.specs.Prelude.{◌≡◌, ℕ, ◌<◌, Bool, ◌&&◌, Option, Some, None, List, ◌∷◌}
use Rattle.history_book.specs.declared.desk.Hold.{Hold}
use Rattle.history_book.specs.declared.outcome.ConfirmOutcome.{ConfirmOutcome}
use Rattle.history_book.specs.declared.outcome.ConfirmOutcome.TheVariants as confirm
use Rattle.history_book.specs.declared.outcome.FindOutcome.{FindOutcome}
use Rattle.history_book.specs.declared.outcome.FindOutcome.TheVariants as find
use Rattle.history_book.specs.declared.outcome.HoldOutcome.{HoldOutcome}
use Rattle.history_book.specs.declared.outcome.HoldOutcome.TheVariants as hold
use Rattle.history_book.specs.declared.outcome.ReleaseOutcome.{ReleaseOutcome}
use Rattle.history_book.specs.declared.outcome.ReleaseOutcome.TheVariants as release
use Rattle.history_book.specs.declared.outcome.TakeOutcome.{TakeOutcome}
use Rattle.history_book.specs.declared.outcome.TakeOutcome.TheVariants as take
use Rattle.history_book.specs.declared.record.Record.{Record}
use Rattle.history_book.specs.Held.{held_for, paid, without}
use Rattle.history_book.specs.Record.{has_id, has_place}
use Rattle.book_desk.specs.declared.book.Book.{Book}
use Rattle.book_desk.specs.declared.turn.change.PlaceChange.{PlaceChange}
use Rattle.book_desk.specs.declared.turn.change.PlaceChange.TheVariants.{Same, Holds, Names, Releases, Owes, Pays}
use Rattle.book_desk.specs.Uses.{tally, times, uses}

-- the references after it
abbrev pub held_after : PlaceChange → List Hold → List Hold
held_after Same held = held
held_after (Holds h) held = h ∷ held
held_after (Names place id) held = held_for place id held
held_after (Releases place) held = without place held
held_after (Owes place) held = without place held
held_after (Pays place) held = held

-- the owed places after it
abbrev pub owed_after : PlaceChange → List ℕ → List ℕ
owed_after Same owed = owed
owed_after (Holds h) owed = owed
owed_after (Names place id) owed = owed
owed_after (Releases place) owed = owed
owed_after (Owes place) owed = place ∷ owed
owed_after (Pays place) owed = paid place owed

-- the record is that of the id, and has the place
abbrev pub is_entry_in : ℕ → ℕ → Record → Bool
is_entry_in place id r = has_place place r && has_id id r

-- a place that is held for no entry yet was free; in one that is held for an entry, that entry is live
abbrev pub IsHeldRightly : Option ℕ → ℕ → List ℕ → Book → Type 0
IsHeldRightly None place free b = times place free ≡ 1
IsHeldRightly (Some id) place free b = 0 < tally (is_entry_in place id) b.records.items

-- What is so of the place that a turn changes. These places were free as the turn found the book, and this is the book as
-- the turn leaves it, with the references of all passes. A place that is taken was free. Where a reference is given up and
-- the place is not owed, a live entry or another reference still uses it. Where the place is owed from then on, nothing
-- uses it. Where it is not owed any more, it is free. That references are named for a new entry says nothing here: a right
-- book says which entry they are to.
abbrev pub IsRightChange : PlaceChange → List ℕ → Book → Type 0
IsRightChange Same free b = Unit {0}
IsRightChange (Holds h) free b = IsHeldRightly h.id h.place free b
IsRightChange (Names place id) free b = Unit {0}
IsRightChange (Releases place) free b = 0 < uses place b.records.items b.holds.items
IsRightChange (Owes place) free b = uses place b.records.items b.holds.items ≡ 0
IsRightChange (Pays place) free b = times place b.free.items ≡ 1

-- how an answer changes them
abbrev pub found_change : FindOutcome → PlaceChange
found_change (find.Found place id direction at) = Holds (record { place = place; id = Some id })
found_change (find.Absent at) = Same

abbrev pub taken_change : TakeOutcome → PlaceChange
taken_change (take.Taken place) = Holds (record { place = place; id = None })
taken_change (take.Full at) = Same

abbrev pub confirmed_change : ℕ → ConfirmOutcome → PlaceChange
confirmed_change place (confirm.Confirmed id) = Names place id
confirmed_change place (confirm.Clash id direction both at) = Same

abbrev pub held_change : ℕ → HoldOutcome → PlaceChange
held_change place (hold.Held id at) = Holds (record { place = place; id = Some id })
held_change place (hold.Empty at) = Same

abbrev pub released_change : ℕ → ReleaseOutcome → PlaceChange
released_change place release.Kept = Releases place
released_change place release.Last = Owes place
