-- What is known once some frames were read.
use Rattle.std.specs.Prelude.{◌≡◌, ℕ, List, [], ◌∷◌, ◌++◌}
use Rattle.std.specs.BTreeMap.{BTreeMap}
use Rattle.packet_headers.specs.declared.frame.Frame.{Frame}
use Rattle.ip_reassembly.specs.declared.piece.Key.{Key}
use Rattle.ip_reassembly.specs.declared.gathering.Gathering.{Gathering}
use Rattle.ip_reassembly.specs.Defragged.{Progress, with_frame}
use Rattle.ip_reassembly.specs.Internal.Knowing.{Knows}

-- the groups and the datagrams made so far are those of the definition
pub record Reads (bytes : List ℕ) (groups : BTreeMap Key Gathering) (made : List ℕ) (progress : Progress) : Type 0 where
  pub knows : Knows bytes progress.pieces groups
  pub all : progress.bytes ≡ bytes ++ made

-- what a frame becomes, told for every progress before it
pub record Becomes (bytes : List ℕ) (frame : Frame) (groups after : BTreeMap Key Gathering) (made more : List ℕ) (new : Frame) : Type 0 where
  pub reads : (progress : Progress) → Reads bytes groups made progress → Reads bytes after more (with_frame bytes progress frame)
  pub put : (progress : Progress) → Reads bytes groups made progress → (with_frame bytes progress frame).frames ≡ progress.frames ++ new ∷ []
