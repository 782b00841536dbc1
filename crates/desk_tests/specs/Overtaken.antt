-- What a desk needs that is to confirm a flow before another one.
use Rattle.std.specs.Prelude.{◌≡◌, ℕ, ◌≤◌, true, Option, Some, None}
use Rattle.history_book.specs.Held.{is_taken}
use Rattle.history_book.specs.Sight.{Sight}

-- the place is taken for a flow and there is room for the event, or there is no such place
abbrev pub CanOvertake : Option ℕ → Sight → Type 0
CanOvertake None other = Unit {0}
CanOvertake (Some place) other = (is_taken place other.held ≡ true) × (1 ≤ other.spare)
