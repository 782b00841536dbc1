-- What holds of every group, piece by piece; and of a capture without pieces.
use Rattle.std.specs.Prelude.{◌≡◌, ◌≤◌, ◌<◌, ℕ, true, List, None, Some, slice_get}
use Rattle.std.specs.List.{AllByRecursion}
use Rattle.packet_headers.specs.declared.frame.Frame.{Frame}
use Rattle.ip_reassembly.specs.Defragged.{defragged}
use Rattle.ip_reassembly.specs.declared.piece.Piece.{Piece}
use Rattle.ip_reassembly.specs.Part.{covers, value}
use Rattle.ip_reassembly.specs.Group.{agree, is_complete}
use Rattle.ip_reassembly.specs.Piece.{piece_of}

-- any two pieces give each byte that both cover the same value, and no piece goes beyond a last one; so
-- all last pieces have one end
pub record AnyTwoAgree (bytes : List ℕ) (group : List Piece) : Type 0 where
  pub values : (i j place : ℕ) (p q : Piece) → slice_get group i ≡ Some p → slice_get group j ≡ Some q
      → covers p.part place ≡ true → covers q.part place ≡ true → value bytes p.part place ≡ value bytes q.part place
  pub ends : (i j : ℕ) (p q : Piece) → slice_get group i ≡ Some p → slice_get group j ≡ Some q → p.last ≡ true → q.part.high ≤ p.part.high

-- the pieces of a group agree exactly where any two do
abbrev pub PiecesAgreeByTwo : Type 0
PiecesAgreeByTwo = (bytes : List ℕ) (group : List Piece)
    → (agree bytes group ≡ true → AnyTwoAgree bytes group) × (AnyTwoAgree bytes group → agree bytes group ≡ true)

-- any two agree, one piece is last, and each byte from the first up to its end is covered by a piece
pub record IsWhole (bytes : List ℕ) (group : List Piece) : Type 0 where
  pub agree : AnyTwoAgree bytes group
  pub index : ℕ
  pub final : Piece
  pub there : slice_get group index ≡ Some final
  pub last : final.last ≡ true
  pub covered : (place : ℕ) → place < final.part.high → (j : ℕ) × (q : Piece) × (slice_get group j ≡ Some q) × (covers q.part place ≡ true)

-- a group is complete exactly where that is so
abbrev pub CompleteGroupsAreWhole : Type 0
CompleteGroupsAreWhole = (bytes : List ℕ) (group : List Piece)
    → (is_complete bytes group ≡ true → IsWhole bytes group) × (IsWhole bytes group → is_complete bytes group ≡ true)

-- a capture of which no frame is a piece stays as it is
abbrev pub CapturesWithoutPiecesStay : Type 0
CapturesWithoutPiecesStay = (bytes : List ℕ) (frames : List Frame) → AllByRecursion (λ f. piece_of bytes f ≡ None) frames
    → ((defragged bytes frames).bytes ≡ bytes) × ((defragged bytes frames).frames ≡ frames)
