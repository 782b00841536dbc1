-- A desk that keeps one place at most.
use Rattle.std.specs.Prelude.{◌≡◌, ℕ, Some, [], ◌∷◌}
use Rattle.history_book.specs.declared.desk.Hold.{Hold}
use Rattle.history_book.specs.Held.{held_id}
use Rattle.history_book.specs.Sight.{Sight}

-- the desk holds and owes nothing
pub record HoldsNothing (s : Sight) : Type 0 where
  pub held : s.held ≡ []
  pub owed : s.owed ≡ []

-- the desk holds one place, for an entry or for none
pub record HoldsOne (hold : Hold) (s : Sight) : Type 0 where
  pub held : s.held ≡ hold ∷ []
  pub owed : s.owed ≡ []

-- where one place is held for an entry, its id is the entry's
abbrev pub OneHoldHasItsId : Type 0
OneHoldHasItsId =
    (place id : ℕ) (s : Sight) → HoldsOne (record { place = place; id = Some id }) s → held_id place s.held ≡ id
