-- What the call that takes a place says besides what every desk answers.
use Rattle.std.specs.Prelude.{◌≡◌, ℕ, true}
use Rattle.std.specs.List.{list_any}
use Rattle.history_book.specs.declared.outcome.TakeOutcome.{TakeOutcome}
use Rattle.history_book.specs.declared.outcome.TakeOutcome.TheVariants.{Taken, Full}
use Rattle.entry_pool.specs.Take.{says_empty}
use Rattle.track_rule.specs.Readings.{added}
use Rattle.shared_desk.specs.Sights.{ClerkSight}

-- The list of free places was empty at this point, which a reading of the call shows.
abbrev pub FindsNone : ℕ → ClerkSight → ClerkSight → Type 0
FindsNone at old new = list_any (says_empty at) (added old.pass.view new.pass.view) ≡ true

abbrev pub ShowsNone : TakeOutcome → ClerkSight → ClerkSight → Type 0
ShowsNone (Taken place) old new = Unit {0}
ShowsNone (Full at) old new = FindsNone at old new
