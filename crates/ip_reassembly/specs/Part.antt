-- Parts of one datagram's data that stand in a capture, and the bytes that they give its places. A part
-- covers the places from `low` up to `high`; its first byte stands at `start`.
use Rattle.std.specs.Prelude.{ℕ, ◌+◌, ◌-◌, ◌==◌, nat_le, nat_lt, min, max, Bool, true, ◌&&◌, if◌then◌else◌, List, [], ◌∷◌, slice_index, Option, Some, None}
use Rattle.std.specs.List.{list_all, range_with_len}
use Rattle.ip_reassembly.specs.declared.piece.Part.{Part}

abbrev pub covers : Part → ℕ → Bool
covers part place = nat_le part.low place && nat_lt place part.high

-- the byte that a part has for a place that it covers
abbrev pub value : List ℕ → Part → ℕ → ℕ
value bytes part place = slice_index bytes (part.start + (place - part.low))

-- the byte that the first of some parts that covers a place has for it
abbrev pub byte_at : List ℕ → List Part → ℕ → Option ℕ
byte_at bytes [] place = None
byte_at bytes (part ∷ parts) place = (if covers part place then Some (value bytes part place) else byte_at bytes parts place)

-- the places that two parts cover both
abbrev pub common_places : Part → Part → List ℕ
common_places p q = range_with_len (max p.low q.low) (min p.high q.high - max p.low q.low)

-- two parts have the same byte for each place that they cover both
unfoldable pub same_bytes : List ℕ → Part → Part → Bool
same_bytes bytes p q = list_all (λ place. value bytes p place == value bytes q place) (common_places p q)

-- any two of the parts do
abbrev pub give_one_value : List ℕ → List Part → Bool
give_one_value bytes [] = true
give_one_value bytes (part ∷ parts) = list_all (same_bytes bytes part) parts && give_one_value bytes parts
