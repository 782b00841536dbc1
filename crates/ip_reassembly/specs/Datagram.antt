-- The datagram that a complete group makes: 20 bytes of header, which are those of the first piece that
-- begins the data, without options and as that of a whole datagram (RFC 791, section 3.1), and the data.
use Rattle.std.specs.Prelude.{ℕ, ◌+◌, ◌/◌, ◌%◌, ◌==◌, if◌then◌else◌, map, List, [], ◌∷◌, ◌++◌, take, drop, slice_index, Option, Some, None, unwrap_or}
use Rattle.std.specs.List.{range_with_len}
use Rattle.ip_reassembly.specs.declared.piece.Piece.{Piece}
use Rattle.ip_reassembly.specs.Part.{byte_at}
use Rattle.ip_reassembly.specs.Group.{parts_of, end_of}

-- where the header of the first piece that begins the data stands
abbrev pub header_of : List Piece → Option ℕ
header_of [] = None
header_of (p ∷ pieces) = (if p.part.low == 0 then Some p.header else header_of pieces)

-- version 4 and five words of header; the type of service; the total length; the identification; no
-- fragment; and what follows, up to the destination
abbrev pub header_bytes : List ℕ → ℕ → ℕ → List ℕ
header_bytes bytes at length =
    (0x45 ∷ slice_index bytes (at + 1) ∷ length / 256 ∷ length % 256 ∷ [])
    ++ (take 2 (drop (at + 4) bytes) ++ ((0 ∷ 0 ∷ []) ++ take 12 (drop (at + 8) bytes)))

abbrev pub data_bytes : List ℕ → List Piece → ℕ → List ℕ
data_bytes bytes group end = map (λ place. unwrap_or (byte_at bytes (parts_of group) place) 0) (range_with_len 0 end)

-- how many bytes of data the group has
abbrev pub data_end : List Piece → ℕ
data_end group = unwrap_or (end_of group) 0

unfoldable pub datagram : List ℕ → List Piece → List ℕ
datagram bytes group =
    header_bytes bytes (unwrap_or (header_of group) 0) (20 + data_end group) ++ data_bytes bytes group (data_end group)
