-- A capture whose fragments are put together. Its bytes are those that it had, and behind them the
-- datagrams in the order of the frames that complete them. Each such frame becomes a frame of its datagram
-- with no link header; every other stays.
use Rattle.std.specs.Prelude.{◌≡◌, ℕ, ◌+◌, if◌then◌else◌, List, [], ◌∷◌, ◌++◌, length, Option, Some, None}
use Rattle.std.specs.List.{fold}
use Rattle.packet_headers.specs.declared.frame.Frame.{Frame}
use Rattle.packet_headers.specs.declared.frame.Link.TheVariants.{Raw}
use Rattle.ip_reassembly.specs.declared.piece.Piece.{Piece}
use Rattle.ip_reassembly.specs.Datagram.{data_end, datagram}
use Rattle.ip_reassembly.specs.Group.{group_of, is_complete}
use Rattle.ip_reassembly.specs.Piece.{piece_of}

-- what is known once some frames were read: their pieces, the bytes, and the frames in their place
pub record Progress : Type 0 where
  pub pieces : List Piece
  pub bytes : List ℕ
  pub frames : List Frame

abbrev pub before_all : List ℕ → Progress
before_all bytes = record { pieces = []; bytes = bytes; frames = [] }

-- the frame of a datagram with so many bytes of data
abbrev pub datagram_frame : ℕ → ℕ → ℕ → Frame
datagram_frame moment start count = record { moment = moment; start = start; captured = 20 + count; original = 20 + count; link = Raw }

-- a frame that is no piece, or completes no group
abbrev pub with_other : Progress → List Piece → Frame → Progress
with_other progress pieces frame = record { pieces = pieces; bytes = progress.bytes; frames = progress.frames ++ frame ∷ [] }

-- a frame that completes this group
abbrev pub with_datagram : List ℕ → Progress → List Piece → List Piece → Frame → Progress
with_datagram bytes progress pieces group frame = record {
  pieces = pieces;
  bytes = progress.bytes ++ datagram bytes group;
  frames = progress.frames ++ datagram_frame frame.moment (length progress.bytes) (data_end group) ∷ [];
}

-- a frame whose piece belongs to this group
abbrev pub with_group : List ℕ → Progress → List Piece → List Piece → Frame → Progress
with_group bytes progress pieces group frame =
    (if is_complete bytes group then with_datagram bytes progress pieces group frame else with_other progress pieces frame)

abbrev pub with_piece : List ℕ → Progress → Frame → Option Piece → Progress
with_piece bytes progress frame None = with_other progress progress.pieces frame
with_piece bytes progress frame (Some piece) =
    with_group bytes progress (progress.pieces ++ piece ∷ []) (group_of bytes piece.key (progress.pieces ++ piece ∷ [])) frame

abbrev pub with_frame : List ℕ → Progress → Frame → Progress
with_frame bytes progress frame = with_piece bytes progress frame (piece_of bytes frame)

unfoldable pub defragged : List ℕ → List Frame → Progress
defragged bytes frames = fold (with_frame bytes) (before_all bytes) frames

-- these are the bytes and the frames of the capture with its fragments put together
pub record AreDefragged (bytes : List ℕ) (frames : List Frame) (new_bytes : List ℕ) (new_frames : List Frame) : Type 0 where
  pub exact_bytes : new_bytes ≡ (defragged bytes frames).bytes
  pub exact_frames : new_frames ≡ (defragged bytes frames).frames
