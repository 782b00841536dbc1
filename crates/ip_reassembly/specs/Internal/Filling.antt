-- Putting a part among others that stand in order and do not overlap: it fills the places that are free.
use Rattle.std.specs.Prelude.{◌≤◌, ◌<◌, ℕ, ◌+◌, ◌-◌, nat_le, nat_lt, min, Bool, if◌then◌else◌, List, [], ◌∷◌, ◌++◌, ⊤}
use Rattle.ip_reassembly.specs.declared.piece.Part.{Part}

-- the parts stand in order from a place on, are not empty, and do not overlap
abbrev pub AreInOrder : ℕ → List Part → Type 0
AreInOrder from [] = ⊤
AreInOrder from (part ∷ parts) = (from ≤ part.low) × (part.low < part.high) × AreInOrder part.high parts

-- their bytes stand in so many bytes, and no part goes beyond this place
abbrev pub StandIn : ℕ → ℕ → List Part → Type 0
StandIn size top [] = ⊤
StandIn size top (part ∷ parts) = (part.high ≤ top) × (part.start + (part.high - part.low) ≤ size) × StandIn size top parts

-- how many places they cover
abbrev pub filled_by : List Part → ℕ
filled_by [] = 0
filled_by (part ∷ parts) = (part.high - part.low) + filled_by parts

-- a part ends at this place or before it
abbrev pub ends_by : ℕ → Part → Bool
ends_by place part = nat_le part.high place

-- the part, if it is not empty
abbrev pub if_any : Part → List Part
if_any part = (if nat_lt part.low part.high then part ∷ [] else [])

-- what of a part stands before another
abbrev pub before : Part → Part → Part
before part held = record part { high = min held.low part.high }

-- what of it stands behind another
abbrev pub behind : Part → Part → Part
behind part held =
    (if nat_lt part.low held.high
    then record { low = held.high; high = part.high; start = part.start + (held.high - part.low) }
    else part)

-- the parts, with the places of one more that were free
abbrev pub fill : Part → List Part → List Part
fill part [] = if_any part
fill part (held ∷ parts) = if_any (before part held) ++ held ∷ fill (behind part held) parts
