-- Of each place: how often it is free, how often it is owed, and how many live entries and references use it.
use Rattle.std.specs.Prelude.{◌≡◌, ℕ, ◌+◌, ◌<◌, ◌≤◌, min, Bool, ◌==◌, if◌then◌else◌, List, [], ◌∷◌}
use Rattle.history_book.specs.declared.desk.Hold.{Hold}
use Rattle.history_book.specs.declared.record.Record.{Record}
use Rattle.history_book.specs.Held.{is_at}
use Rattle.history_book.specs.Record.{has_place}

-- a test that passes counts one
abbrev pub bit : Bool → ℕ
bit b = (if b then 1 else 0)

-- how many items pass a test
abbrev pub tally : {X : Type 0} → (X → Bool) → List X → ℕ
tally p [] = 0
tally p (x ∷ xs) = bit (p x) + tally p xs

-- how often a place stands among places
abbrev pub times : ℕ → List ℕ → ℕ
times place places = tally (λ p. p == place) places

-- how many live records and references have a place
abbrev pub uses : ℕ → List Record → List Hold → ℕ
uses place rs held = tally (has_place place) rs + tally (is_at place) held

-- Each place of the pool is free once, or owed once, or in use; no other place is anywhere. No two
-- records have one place.
pub record ArePlaces (entries : ℕ) (rs : List Record) (held : List Hold) (free owed : List ℕ) : Type 0 where
  pub once : (p : ℕ) → p < entries → times p free + times p owed + min (uses p rs held) 1 ≡ 1
  pub beyond : (p : ℕ) → entries ≤ p → times p free + times p owed + uses p rs held ≡ 0
  pub single : (p : ℕ) → tally (has_place p) rs ≤ 1
