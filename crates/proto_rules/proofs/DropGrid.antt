-- The grid of numbers is the rule.
use Rattle.std.specs.Prelude.{◌≡◌, Bool, true, false, ◌==◌, refl, ◌||◌, not}
use Rattle.case_grid.specs.Cell.{cell}
use Rattle.case_grid.specs.Droppable.{droppable_cells}
use Rattle.proto_rules.specs.declared.PartKind.{PartKind}
use Rattle.proto_rules.specs.declared.PartKind.TheVariants as kind
use Rattle.proto_rules.proofs.Cells.{all_states}
use Rattle.proto_rules.specs.Droppable.{drop_column, drop_row, is_spent}

-- the cell of an entry of this protocol, assured or not, is 1 exactly where the entry may go
pub grid_is_rule : (k : PartKind) (assured : Bool)
    → (cell droppable_cells (drop_row k assured) (drop_column k) == 1) ≡ (not assured || is_spent k)
unfolding droppable_cells
grid_is_rule (kind.Tcp s) true =
    all_states (λ s. (cell droppable_cells 3 (drop_column (kind.Tcp s)) == 1) ≡ is_spent (kind.Tcp s))
    refl refl refl refl refl refl refl refl refl refl s
grid_is_rule (kind.Tcp s) false =
    all_states (λ s. (cell droppable_cells 2 (drop_column (kind.Tcp s)) == 1) ≡ true)
    refl refl refl refl refl refl refl refl refl refl s
grid_is_rule kind.Udp true = refl
grid_is_rule kind.Udp false = refl
grid_is_rule kind.Icmp true = refl
grid_is_rule kind.Icmp false = refl
