-- Which entries a full table may drop for a new flow: 1 is one that may go. This project's own table, with the
-- early drop of Linux as a pattern.
-- Rows: neither TCP nor assured, assured but not TCP, TCP and not assured, TCP and assured.
-- Columns: the states of a connection, in the order of the tables of TCP; the first is that of other protocols.
use Rattle.std.specs.Prelude.{ℕ, List, [], ◌∷◌}

unfoldable pub droppable_cells : List (List ℕ)
droppable_cells =
    -- NO  SS  SR  ES  FW  CW  LA  TW  CL  S2
    (1 ∷ 1 ∷ 1 ∷ 1 ∷ 1 ∷ 1 ∷ 1 ∷ 1 ∷ 1 ∷ 1 ∷ []) ∷
    (0 ∷ 0 ∷ 0 ∷ 0 ∷ 0 ∷ 0 ∷ 0 ∷ 0 ∷ 0 ∷ 0 ∷ []) ∷
    (1 ∷ 1 ∷ 1 ∷ 1 ∷ 1 ∷ 1 ∷ 1 ∷ 1 ∷ 1 ∷ 1 ∷ []) ∷
    (0 ∷ 0 ∷ 0 ∷ 0 ∷ 1 ∷ 1 ∷ 1 ∷ 1 ∷ 1 ∷ 0 ∷ []) ∷ []
