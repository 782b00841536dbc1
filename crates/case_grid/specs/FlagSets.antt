-- The flag sets of TCP (RFC 9293, section 3.1) that a segment may have: 1 is valid.
-- Rows: without URG and ACK, ACK, URG, URG and ACK.
-- Columns: without RST, SYN and FIN, then F for FIN, S for SYN and R for RST.
use Rattle.std.specs.Prelude.{ℕ, List, [], ◌∷◌}

abbrev pub flag_sets : List (List ℕ)
flag_sets =
    -- none  F   S   SF  R   RF  RS  RSF
    (0 ∷ 0 ∷ 1 ∷ 0 ∷ 1 ∷ 0 ∷ 0 ∷ 0 ∷ []) ∷
    (1 ∷ 1 ∷ 1 ∷ 0 ∷ 1 ∷ 0 ∷ 0 ∷ 0 ∷ []) ∷
    (0 ∷ 0 ∷ 1 ∷ 0 ∷ 0 ∷ 0 ∷ 0 ∷ 0 ∷ []) ∷
    (1 ∷ 1 ∷ 0 ∷ 0 ∷ 0 ∷ 0 ∷ 0 ∷ 0 ∷ []) ∷ []
