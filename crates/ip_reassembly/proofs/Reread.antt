-- What one frame more makes of the progress: it is no piece, completes nothing, or completes a group.
use Rattle.std.proofs.Common.{◌≡◌, ℕ, ◌+◌, List, [], ◌∷◌, ◌++◌, length, sym, ◌∙◌, ap, subst, length-append}
use Rattle.std.specs.Prelude.{if◌then◌else◌, Some, None}
use Rattle.std.specs.BTreeMap.{BTreeMap}
use Rattle.std.proofs.lemmas.List.{append_assoc}
use Rattle.packet_headers.specs.declared.frame.Frame.{Frame}
use Rattle.packet_headers.specs.declared.frame.Link.TheVariants.{Raw}
use Rattle.ip_reassembly.specs.declared.piece.Key.{Key}
use Rattle.ip_reassembly.specs.declared.piece.Piece.{Piece}
use Rattle.ip_reassembly.specs.declared.gathering.Gathering.{Gathering}
use Rattle.ip_reassembly.specs.Piece.{piece_of}
use Rattle.ip_reassembly.specs.Group.{group_of}
use Rattle.ip_reassembly.specs.Datagram.{data_end, datagram}
use Rattle.ip_reassembly.specs.Defragged.{Progress, with_datagram, with_frame, with_other, with_piece}
use Rattle.ip_reassembly.specs.Internal.Gathering.{Gathers}
use Rattle.ip_reassembly.specs.Internal.Knowing.{Completes, Knows}
use Rattle.ip_reassembly.specs.Internal.Reading.{Becomes, Reads}

pub no_piece : (bytes : List ℕ) (frame : Frame) (groups : BTreeMap Key Gathering) (made : List ℕ) → piece_of bytes frame ≡ None
    → Becomes bytes frame groups groups made made frame
no_piece bytes frame groups made none = record {
  reads = λ progress so. subst (Reads bytes groups made) (sym (is progress)) (record { knows = so.knows; all = so.all });
  put = λ progress so. λ i. (is progress i).frames;
}
  where
    is : (progress : Progress) → with_frame bytes progress frame ≡ with_other progress progress.pieces frame
    is progress = λ i. with_piece bytes progress frame (none i)

pub still_open : (bytes : List ℕ) (frame : Frame) (p : Piece) (groups after : BTreeMap Key Gathering) (made : List ℕ) → piece_of bytes frame ≡ Some p
    → ((pieces : List Piece) → Knows bytes pieces groups → Knows bytes (pieces ++ p ∷ []) after)
    → ((pieces : List Piece) → Knows bytes pieces groups → Completes bytes (group_of bytes p.key (pieces ++ p ∷ [])) None)
    → Becomes bytes frame groups after made made frame
still_open bytes frame p groups after made piece knows still = record {
  reads = λ progress so. subst (Reads bytes after made) (sym (is progress so)) (record { knows = knows progress.pieces so.knows; all = so.all });
  put = λ progress so. λ i. (is progress so i).frames;
}
  where
    is : (progress : Progress) → Reads bytes groups made progress → with_frame bytes progress frame ≡ with_other progress (progress.pieces ++ p ∷ []) frame
    is progress so = (λ i. with_piece bytes progress frame (piece i))
        ∙ (λ i. if still progress.pieces so.knows i
        then with_datagram bytes progress (progress.pieces ++ p ∷ []) (group_of bytes p.key (progress.pieces ++ p ∷ [])) frame
        else with_other progress (progress.pieces ++ p ∷ []) frame)

-- a frame of n bytes with no link header
abbrev pub datagram_frame_of : ℕ → ℕ → ℕ → Frame
datagram_frame_of moment start n = record { moment = moment; start = start; captured = n; original = n; link = Raw }

pub completed : (bytes : List ℕ) (frame new : Frame) (p : Piece) (g : Gathering) (groups after : BTreeMap Key Gathering) (made more : List ℕ) (n : ℕ) → piece_of bytes frame ≡ Some p
    → ((pieces : List Piece) → Knows bytes pieces groups → Knows bytes (pieces ++ p ∷ []) after)
    → ((pieces : List Piece) → Knows bytes pieces groups → Completes bytes (group_of bytes p.key (pieces ++ p ∷ [])) (Some g))
    → ((pieces : List Piece) → Gathers bytes pieces g → more ≡ made ++ datagram bytes pieces)
    → ((pieces : List Piece) → Gathers bytes pieces g → n ≡ 20 + data_end pieces)
    → new ≡ datagram_frame_of frame.moment (length bytes + length made) n
    → Becomes bytes frame groups after made more new
completed bytes frame new p g groups after made more n piece knows whole longer long is_new = record {
  reads = λ progress so. subst (Reads bytes after more) (sym (is progress so)) (record {
    knows = knows progress.pieces so.knows;
    all = (λ i. so.all i ++ datagram bytes (group progress)) ∙ append_assoc bytes made (datagram bytes (group progress))
        ∙ (λ i. bytes ++ sym (longer (group progress) ((whole progress.pieces so.knows).0)) i);
  });
  put = λ progress so. (λ i. (is progress so i).frames)
      ∙ (λ i. progress.frames ++ datagram_frame_of frame.moment ((ap length so.all ∙ length-append bytes made) i) (sym (long (group progress) ((whole progress.pieces so.knows).0)) i) ∷ [])
      ∙ (λ i. progress.frames ++ sym is_new i ∷ []);
}
  where
    group : Progress → List Piece
    group progress = group_of bytes p.key (progress.pieces ++ p ∷ [])

    is : (progress : Progress) → Reads bytes groups made progress
        → with_frame bytes progress frame ≡ with_datagram bytes progress (progress.pieces ++ p ∷ []) (group_of bytes p.key (progress.pieces ++ p ∷ [])) frame
    is progress so = (λ i. with_piece bytes progress frame (piece i))
        ∙ (λ i. if (whole progress.pieces so.knows).1 i
        then with_datagram bytes progress (progress.pieces ++ p ∷ []) (group_of bytes p.key (progress.pieces ++ p ∷ [])) frame
        else with_other progress (progress.pieces ++ p ∷ []) frame)
