-- The state of a connection after a packet, by the direction of the packet and the old state.
-- A cell below 10 is the number of the new state, in the order of the columns; 10 is invalid and 11 is
-- ignored. This project's own tables, with `nf_conntrack` of Linux as a pattern.
-- Rows: SYN, SYN and ACK, FIN, ACK, RST, none of these.
-- Columns: NO none, SS SYN_SENT, SR SYN_RECV, ES ESTABLISHED, FW FIN_WAIT, CW CLOSE_WAIT, LA LAST_ACK,
-- TW TIME_WAIT, CL CLOSE, S2 SYN_SENT2.
use Rattle.std.specs.Prelude.{ℕ, List, [], ◌∷◌}

-- of a packet in the original direction
unfoldable pub tcp_original : List (List ℕ)
tcp_original =
    -- NO   SS   SR   ES   FW   CW   LA   TW   CL   S2
    (1 ∷ 1 ∷ 11 ∷ 11 ∷ 11 ∷ 11 ∷ 11 ∷ 1 ∷ 1 ∷ 9 ∷ []) ∷
    (10 ∷ 10 ∷ 2 ∷ 10 ∷ 10 ∷ 10 ∷ 10 ∷ 10 ∷ 10 ∷ 2 ∷ []) ∷
    (10 ∷ 10 ∷ 4 ∷ 4 ∷ 6 ∷ 6 ∷ 6 ∷ 7 ∷ 8 ∷ 10 ∷ []) ∷
    (3 ∷ 10 ∷ 3 ∷ 3 ∷ 5 ∷ 5 ∷ 7 ∷ 7 ∷ 8 ∷ 10 ∷ []) ∷
    (10 ∷ 8 ∷ 8 ∷ 8 ∷ 8 ∷ 8 ∷ 8 ∷ 8 ∷ 8 ∷ 8 ∷ []) ∷
    (10 ∷ 10 ∷ 10 ∷ 10 ∷ 10 ∷ 10 ∷ 10 ∷ 10 ∷ 10 ∷ 10 ∷ []) ∷ []

-- of a packet in the reply direction
unfoldable pub tcp_reply : List (List ℕ)
tcp_reply =
    -- NO   SS   SR   ES   FW   CW   LA   TW   CL   S2
    (10 ∷ 9 ∷ 10 ∷ 10 ∷ 10 ∷ 10 ∷ 10 ∷ 1 ∷ 10 ∷ 9 ∷ []) ∷
    (10 ∷ 2 ∷ 11 ∷ 11 ∷ 11 ∷ 11 ∷ 11 ∷ 11 ∷ 11 ∷ 2 ∷ []) ∷
    (10 ∷ 10 ∷ 4 ∷ 4 ∷ 6 ∷ 6 ∷ 6 ∷ 7 ∷ 8 ∷ 10 ∷ []) ∷
    (10 ∷ 11 ∷ 2 ∷ 3 ∷ 5 ∷ 5 ∷ 7 ∷ 7 ∷ 8 ∷ 11 ∷ []) ∷
    (10 ∷ 8 ∷ 8 ∷ 8 ∷ 8 ∷ 8 ∷ 8 ∷ 8 ∷ 8 ∷ 8 ∷ []) ∷
    (10 ∷ 10 ∷ 10 ∷ 10 ∷ 10 ∷ 10 ∷ 10 ∷ 10 ∷ 10 ∷ 10 ∷ []) ∷ []
