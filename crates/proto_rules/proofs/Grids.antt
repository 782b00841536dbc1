-- The grids of numbers are the tables of TCP.
use Rattle.std.specs.Prelude.{◌≡◌, ℕ, ◌<◌, ◌==◌, Bool, [], ◌∷◌, slice_index_or, refl}
use Rattle.std.proofs.Common.{◌∙◌, ap, lit<, sym}
use Rattle.std.proofs.lemmas.Bool.{eqb-true}
use Rattle.case_grid.specs.Cell.{cell}
use Rattle.case_grid.specs.TcpTables.{tcp_original, tcp_reply}
use Rattle.tuple_core.specs.declared.Direction.{Direction}
use Rattle.tuple_core.specs.declared.Kind.{Kind}
use Rattle.proto_rules.specs.declared.TcpState.{TcpState}
use Rattle.proto_rules.specs.declared.TcpState.TheVariants.{Unset, SynSent, SynRecv, Established, FinWait}
use Rattle.proto_rules.specs.declared.TcpState.TheVariants.{CloseWait, LastAck, TimeWait, Close, SynSent2}
use Rattle.proto_rules.specs.declared.tcp_table.Cell.{Cell}
use Rattle.proto_rules.specs.declared.tcp_table.Cell.TheVariants.{To, Ignored, Invalid}
use Rattle.proto_rules.proofs.Cells.{all_states, each_cell_tells}
use Rattle.proto_rules.specs.TcpGrid.{grid_of, number_of, row_of}
use Rattle.proto_rules.specs.TcpTable.{column_of, original_cell, reply_cell, tcp_cell}

-- the number in the grid is that of the table's cell
abbrev tells : Direction → Kind → TcpState → Bool
tells d k s = cell (grid_of d) (row_of k) (column_of s) == number_of (tcp_cell d k s)

-- it is so of each cell
pub grids_tell : (d : Direction) (k : Kind) (s : TcpState)
    → cell (grid_of d) (row_of k) (column_of s) ≡ number_of (tcp_cell d k s)
unfolding tcp_original tcp_reply original_cell reply_cell
grids_tell d k s =
    eqb-true (cell (grid_of d) (row_of k) (column_of s)) (number_of (tcp_cell d k s)) (each_cell_tells tells refl d k s)

-- the numbers of cells are below 12
pub number_small : (c : Cell) → number_of c < 12
number_small (To s) =
    all_states (λ s. column_of s < 12) (lit< tt) (lit< tt) (lit< tt) (lit< tt) (lit< tt)
    (lit< tt) (lit< tt) (lit< tt) (lit< tt) (lit< tt) s
number_small Ignored = lit< tt
number_small Invalid = lit< tt

-- the cell of each number
abbrev cell_of : ℕ → Cell
cell_of n =
    slice_index_or
    (To Unset ∷ To SynSent ∷ To SynRecv ∷ To Established ∷ To FinWait ∷ To CloseWait ∷ To LastAck
    ∷ To TimeWait ∷ To Close ∷ To SynSent2 ∷ Invalid ∷ Ignored ∷ [])
    n
    Invalid

-- each cell is that of its number
cell_of_number : (c : Cell) → cell_of (number_of c) ≡ c
cell_of_number (To s) =
    all_states (λ s. cell_of (column_of s) ≡ To s) refl refl refl refl refl refl refl refl refl refl s
cell_of_number Ignored = refl
cell_of_number Invalid = refl

-- two cells with one number are one
pub number_tells : (c e : Cell) → number_of c ≡ number_of e → c ≡ e
number_tells c e same = sym (cell_of_number c) ∙ ap cell_of same ∙ cell_of_number e
