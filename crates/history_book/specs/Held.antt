-- The places to which a desk keeps references, and those that it owes.
use Rattle.std.specs.Prelude.{ℕ, Bool, ◌==◌, ◌&&◌, if◌then◌else◌, Option, Some, None, List, [], ◌∷◌, find, map, is_none, is_some, unwrap_or}
use Rattle.std.specs.List.{list_any}
use Rattle.history_book.specs.declared.desk.Hold.{Hold}

abbrev pub is_at : ℕ → Hold → Bool
is_at place h = h.place == place

-- the desk keeps a reference to the place
abbrev pub is_held : ℕ → List Hold → Bool
is_held place held = list_any (is_at place) held

-- the place was taken, and no entry is confirmed in it yet
abbrev pub is_taken : ℕ → List Hold → Bool
is_taken place held = list_any (λ h. is_at place h && is_none h.id) held

-- the place is held for an entry
abbrev pub is_held_for_entry : ℕ → List Hold → Bool
is_held_for_entry place held = list_any (λ h. is_at place h && is_some h.id) held

-- the id of a reference; 0 where it is to no entry
abbrev pub id_of : Option Hold → ℕ
id_of None = 0
id_of (Some h) = unwrap_or h.id 0

-- the id for which the place is held
abbrev pub held_id : ℕ → List Hold → ℕ
held_id place held = id_of (find (is_at place) held)

-- the references without one to the place
abbrev pub without : ℕ → List Hold → List Hold
without place [] = []
without place (h ∷ hs) = (if is_at place h then hs else h ∷ without place hs)

-- the reference is to this entry, if it is to the place
abbrev pub for_entry : ℕ → ℕ → Hold → Hold
for_entry place id h = (if is_at place h then record h { id = Some id } else h)

-- each reference to the place is to this entry
abbrev pub held_for : ℕ → ℕ → List Hold → List Hold
held_for place id held = map (for_entry place id) held

-- the place is owed
abbrev pub is_owed : ℕ → List ℕ → Bool
is_owed place owed = list_any (λ p. p == place) owed

-- the owed places without this one
abbrev pub paid : ℕ → List ℕ → List ℕ
paid place [] = []
paid place (p ∷ ps) = (if p == place then ps else p ∷ paid place ps)
