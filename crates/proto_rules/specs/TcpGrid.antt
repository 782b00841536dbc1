-- How the tables of TCP stand in a grid of numbers: a row for each kind of segment, a column for each
-- old state, and a number for each cell. A new state has the number of its column.
use Rattle.std.specs.Prelude.{ℕ, List}
use Rattle.case_grid.specs.TcpTables.{tcp_original, tcp_reply}
use Rattle.tuple_core.specs.declared.Direction.{Direction}
use Rattle.tuple_core.specs.declared.Direction.TheVariants.{Original, Reply}
use Rattle.tuple_core.specs.declared.Kind.{Kind}
use Rattle.tuple_core.specs.declared.Kind.TheVariants.{Syn, SynAck, Fin, Ack, Rst, Bare}
use Rattle.proto_rules.specs.declared.tcp_table.Cell.{Cell}
use Rattle.proto_rules.specs.declared.tcp_table.Cell.TheVariants.{To, Ignored, Invalid}
use Rattle.proto_rules.specs.TcpTable.{column_of}

abbrev pub row_of : Kind → ℕ
row_of Syn = 0
row_of SynAck = 1
row_of Fin = 2
row_of Ack = 3
row_of Rst = 4
row_of Bare = 5

abbrev pub number_of : Cell → ℕ
number_of (To state) = column_of state
number_of Invalid = 10
number_of Ignored = 11

abbrev pub grid_of : Direction → List (List ℕ)
grid_of Original = tcp_original
grid_of Reply = tcp_reply
