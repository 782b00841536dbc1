-- A grid is the list of its rows, and a row the list of its cells.
use Rattle.std.specs.Prelude.{ℕ, List, [], slice_index, slice_index_or}
use Rattle.case_grid.specs.declared.Grid.{Grid}

abbrev pub cells_of : {R C : ℕ} → Grid R C → List (List ℕ)
cells_of grid = grid.cells

-- the cell in a row and a column, both counted from 0
abbrev pub cell : List (List ℕ) → ℕ → ℕ → ℕ
cell cells row column = slice_index (slice_index_or cells row []) column
