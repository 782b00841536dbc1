-- A capture without pieces.
use Rattle.std.proofs.Common.{◌≡◌, ◌∙◌, ℕ, List, [], ◌∷◌, ◌++◌, None, refl, sym, ap, append_assoc, append-nil}
use Rattle.std.specs.List.{AllByRecursion, fold}
use Rattle.packet_headers.specs.declared.frame.Frame.{Frame}
use Rattle.ip_reassembly.specs.Defragged.{Progress, before_all, defragged, with_frame, with_other, with_piece}
use Rattle.ip_reassembly.specs.Laws.{CapturesWithoutPiecesStay}
use Rattle.ip_reassembly.specs.Piece.{piece_of}

stays : (bytes : List ℕ) (progress : Progress) (frames : List Frame) → AllByRecursion (λ f. piece_of bytes f ≡ None) frames
    → ((fold (with_frame bytes) progress frames).bytes ≡ progress.bytes) × ((fold (with_frame bytes) progress frames).frames ≡ progress.frames ++ frames)
stays bytes progress [] none = (refl, sym (append-nil progress.frames))
stays bytes progress (f ∷ frames) (here, none) =
    let same : with_frame bytes progress f ≡ with_other progress progress.pieces f = ap (with_piece bytes progress f) here in
    let rest = stays bytes (with_other progress progress.pieces f) frames none in (
      ap (λ (p : Progress). (fold (with_frame bytes) p frames).bytes) same ∙ rest.0,
      ap (λ (p : Progress). (fold (with_frame bytes) p frames).frames) same ∙ rest.1 ∙ append_assoc progress.frames (f ∷ []) frames,
    )

pub captures_without_pieces_stay : CapturesWithoutPiecesStay
unfolding defragged
captures_without_pieces_stay bytes frames none = stays bytes (before_all bytes) frames none
