use Rattle.std.proofs.Common.{rules, ◌≡◌, ◌∙◌}
use Rattle.case_grid.specs.Cell.{cell}
use Rattle.proto_rules.specs.TcpGrid.{grid_of, row_of}
use Rattle.proto_rules.specs.TcpTable.{column_of}
use Rattle.proto_rules.proofs.Grids.{grids_tell, number_small, number_tells}
use Rattle.proto_rules.proofs.tcp_table.tcp_cell.Goals as goal

pub read_cell-requires : goal.read_cell-requires
read_cell-requires c =
    let read : c.number_at.result ≡ cell (grid_of c.args.direction) (row_of c.args.tcp_kind) (column_of c.args.state) = search rules in
    rw (read ∙ grids_tell c.args.direction c.args.tcp_kind c.args.state) (number_small _)

pub returns : goal.returns
returns c =
    let read : c.number_at.result ≡ cell (grid_of c.args.direction) (row_of c.args.tcp_kind) (column_of c.args.state) = search rules in
    number_tells _ _ (c.read_cell.ensures ∙ read ∙ grids_tell c.args.direction c.args.tcp_kind c.args.state)
