-- Captures whose frames lie in their bytes, and one more.
use Rattle.std.proofs.Common.{List, [], ◌∷◌, ◌++◌}
use Rattle.std.specs.Prelude.{All}
use Rattle.std.proofs.lemmas.List.Elements.{All-push}
use Rattle.packet_headers.specs.declared.frame.Capture.{Capture}
use Rattle.ftp_rewrite.specs.Sent.{LiesInIts}

pub inside_more : (captures : List Capture) (c : Capture) → All LiesInIts captures → LiesInIts c → All LiesInIts (captures ++ c ∷ [])
inside_more captures c all own = All-push LiesInIts captures c all own
