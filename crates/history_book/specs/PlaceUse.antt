-- What the passes of a tracker make of the places of its pool. Of the tracker only this matters here: its states between two
-- steps of its passes, and what is counted of a place in such a state.
use Rattle.std.specs.Prelude.{◌≡◌, ℕ, ◌+◌, ◌<◌, ◌≤◌, min}

-- how many references a pass keeps to a place, and how often it owes it
pub record PassUse : Type 0 where
  pub kept : ℕ
  pub owed : ℕ

-- how often a place is free, how many live entries have it, and what all passes together keep and owe of it
pub record PlaceUse : Type 0 where
  pub free : ℕ
  pub live : ℕ
  pub passes : PassUse

-- how many live entries have it, and how many references of all passes are to it
abbrev pub users_of : PlaceUse → ℕ
users_of u = u.live + u.passes.kept

-- it is free once, or owed once by one pass, or in use; never two of these
abbrev pub HasOneUse : PlaceUse → Type 0
HasOneUse u = u.free + u.passes.owed + min (users_of u) 1 ≡ 1

abbrev pub HasNoUse : PlaceUse → Type 0
HasNoUse u = u.free + u.passes.owed + users_of u ≡ 0

-- one pass keeps and owes no more than all of them do
pub record IsPartOf (part whole : PassUse) : Type 0 where
  pub kept : part.kept ≤ whole.kept
  pub owed : part.owed ≤ whole.owed

-- neither how often it is free nor how often it is owed changed
pub record StaysOut (old new : PlaceUse) : Type 0 where
  pub free : new.free ≡ old.free
  pub owed : new.passes.owed ≡ old.passes.owed

-- What a tracker's rule (`Kept`) says of places, in any state between two steps. Each place of the pool has one use, and
-- each other one none. What a pass keeps and owes is among what all do (`part`). So a place that is free is nobody's, and
-- one that a pass holds or owes is not free and is given to no other. `Last` is true of all passes: no live entry has a place
-- that is owed, and no pass keeps a reference to it. `Kept` is, too: a place in use that a step neither frees nor owes is in
-- use after it.
pub record PlacesAreRight {S : Type 0} (Kept : S → Type 0) (entries : S → ℕ) (uses : S → ℕ → PlaceUse)
    (parts : S → ℕ → ℕ → PassUse) : Type 0 where
  pub one : (s : S) (place : ℕ) → Kept s → place < entries s → HasOneUse (uses s place)
  pub beyond : (s : S) (place : ℕ) → Kept s → entries s ≤ place → HasNoUse (uses s place)
  pub part : (s : S) (pass place : ℕ) → Kept s → IsPartOf (parts s pass place) (uses s place).passes
  pub nobodys : (s : S) (place : ℕ) → Kept s → 0 < (uses s place).free → (uses s place).passes.owed + users_of (uses s place) ≡ 0
  pub held : (s : S) (pass place : ℕ) → Kept s → 0 < (parts s pass place).kept + (parts s pass place).owed → (uses s place).free ≡ 0
  pub last : (s : S) (pass place : ℕ) → Kept s → 0 < (parts s pass place).owed → users_of (uses s place) ≡ 0
  pub kept : (s s' : S) (place : ℕ) → Kept s → Kept s' → entries s' ≡ entries s → 0 < users_of (uses s place)
      → StaysOut (uses s place) (uses s' place) → 0 < users_of (uses s' place)

-- a place of the pool has one use, and another one none
pub record IsRightUse (entries place : ℕ) (u : PlaceUse) : Type 0 where
  pub one : place < entries → HasOneUse u
  pub beyond : entries ≤ place → HasNoUse u

-- One use leaves no other: what a tracker that has shown `one`, `beyond` and `part` cites for the rest.
pub record UsesExcludeOthers : Type 0 where
  pub nobodys : (entries place : ℕ) (u : PlaceUse) → IsRightUse entries place u → 0 < u.free → u.passes.owed + users_of u ≡ 0
  pub held : (entries place : ℕ) (u : PlaceUse) (part : PassUse) → IsRightUse entries place u → IsPartOf part u.passes
      → 0 < part.kept + part.owed → u.free ≡ 0
  pub last : (entries place : ℕ) (u : PlaceUse) (part : PassUse) → IsRightUse entries place u → IsPartOf part u.passes
      → 0 < part.owed → users_of u ≡ 0
  pub kept : (entries place : ℕ) (old new : PlaceUse) → IsRightUse entries place old → IsRightUse entries place new
      → 0 < users_of old → StaysOut old new → 0 < users_of new
