use Rattle.std.proofs.Common.{◌∙◌, ap, ℕ, List}
use Rattle.std.specs.Prelude.{◌==◌}
use Rattle.case_grid.specs.Cell.{cell}
use Rattle.case_grid.specs.Droppable.{droppable_cells}
use Rattle.proto_rules.specs.Droppable.{drop_row}
use Rattle.proto_rules.proofs.DropGrid.{grid_is_rule}
use Rattle.proto_rules.proofs.drops.droppable.Goals as goal

pub returns : goal.returns
returns c =
    ap (λ (n : ℕ). n == 1)
    (c.at.ensures
    ∙ ap (λ (g : List (List ℕ)). cell g c.row.result c.column.result) c.droppable_table.ensures
    ∙ ap (λ (r : ℕ). cell droppable_cells r c.column.result) c.row.ensures.exact
    ∙ ap (cell droppable_cells (drop_row c.args.part.now.kind c.args.part.now.assured)) c.column.ensures.exact)
    ∙ grid_is_rule c.args.part.now.kind c.args.part.now.assured
