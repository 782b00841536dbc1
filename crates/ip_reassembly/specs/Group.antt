-- Groups: the pieces of one key that are put together. A group begins with its leader. It is complete as
-- soon as its pieces agree, one of them is last, and each byte up to that one's end is covered.
use Rattle.std.specs.Prelude.{ℕ, ◌+◌, ◌==◌, nat_le, Bool, true, false, ◌&&◌, ◌||◌, not, if◌then◌else◌, map, List, [], ◌∷◌, ◌++◌, Option, Some, None, is_some}
use Rattle.std.specs.List.{list_all, filter, fold, range_with_len}
use Rattle.ip_reassembly.specs.declared.piece.Key.{Key}
use Rattle.ip_reassembly.specs.declared.piece.Part.{Part}
use Rattle.ip_reassembly.specs.declared.piece.Piece.{Piece}
use Rattle.ip_reassembly.specs.Part.{byte_at, give_one_value}
use Rattle.ip_reassembly.specs.Piece.{same_key}

abbrev pub parts_of : List Piece → List Part
parts_of pieces = map (λ (p : Piece). p.part) pieces

-- where the datagram ends, by the first last piece
abbrev pub end_of : List Piece → Option ℕ
end_of [] = None
end_of (p ∷ pieces) = (if p.last then Some p.part.high else end_of pieces)

-- the piece ends there or before it; a last piece ends there
abbrev pub fits_end : ℕ → Piece → Bool
fits_end end p = nat_le p.part.high end && (not p.last || p.part.high == end)

-- all pieces end where one may
abbrev pub fit_end : Option ℕ → List Piece → Bool
fit_end None pieces = true
fit_end (Some end) pieces = list_all (fits_end end) pieces

-- any two pieces give each common byte the same value, all last pieces have one end, and no piece goes
-- beyond it
abbrev pub agree : List ℕ → List Piece → Bool
agree bytes pieces = give_one_value bytes (parts_of pieces) && fit_end (end_of pieces) pieces

-- each byte of the data, up to this end, is covered
abbrev pub is_covered : List ℕ → List Piece → Option ℕ → Bool
is_covered bytes pieces None = false
is_covered bytes pieces (Some end) = list_all (λ place. is_some (byte_at bytes (parts_of pieces) place)) (range_with_len 0 end)

unfoldable pub is_complete : List ℕ → List Piece → Bool
is_complete bytes pieces = agree bytes pieces && is_covered bytes pieces (end_of pieces)

-- 30 seconds in microseconds
abbrev pub patience : ℕ
patience = 30000000

-- the piece is no more of this group, but the leader of the next
abbrev pub leads : List ℕ → List Piece → Piece → Bool
leads bytes [] piece = true
leads bytes (leader ∷ others) piece =
    is_complete bytes (leader ∷ others) || nat_le (leader.moment + patience) piece.moment

-- the group that a piece belongs to, where this is the group before it
abbrev pub group_with : List ℕ → List Piece → Piece → List Piece
group_with bytes group piece = (if leads bytes group piece then piece ∷ [] else group ++ piece ∷ [])

abbrev pub has_key : Key → Piece → Bool
has_key key piece = same_key key piece.key

-- of all pieces so far, those of the latest group of a key
unfoldable pub group_of : List ℕ → Key → List Piece → List Piece
group_of bytes key pieces = fold (group_with bytes) [] (filter (has_key key) pieces)
