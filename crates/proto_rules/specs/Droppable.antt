-- Which entries a full table may drop for a new flow. This project's own rule, with the early drop of Linux as a
-- pattern.
use Rattle.std.specs.Prelude.{ℕ, Bool, true, false, ◌+◌, ◌||◌, not, if◌then◌else◌}
use Rattle.proto_rules.specs.declared.Part.{Part}
use Rattle.proto_rules.specs.declared.PartKind.{PartKind}
use Rattle.proto_rules.specs.declared.PartKind.TheVariants as kind
use Rattle.proto_rules.specs.declared.TcpState.{TcpState}
use Rattle.proto_rules.specs.declared.TcpState.TheVariants.{Unset, SynSent, SynRecv, Established, FinWait}
use Rattle.proto_rules.specs.declared.TcpState.TheVariants.{CloseWait, LastAck, TimeWait, Close, SynSent2}
use Rattle.proto_rules.specs.TcpTable.{column_of}

-- the connection is coming to its end: a FIN or an RST was seen
abbrev pub is_ending : TcpState → Bool
is_ending Unset = false
is_ending SynSent = false
is_ending SynRecv = false
is_ending Established = false
is_ending FinWait = true
is_ending CloseWait = true
is_ending LastAck = true
is_ending TimeWait = true
is_ending Close = true
is_ending SynSent2 = false

-- an assured entry goes only where it is a connection that is coming to its end
abbrev pub is_spent : PartKind → Bool
is_spent (kind.Tcp state) = is_ending state
is_spent kind.Udp = false
is_spent kind.Icmp = false

-- an entry may be dropped where it is not assured, or a connection that is coming to its end
abbrev pub droppable : Part → Bool
droppable part = not part.assured || is_spent part.kind

-- How the rule stands in a grid of numbers: the row by protocol and whether the entry is assured, the column by
-- the state of a connection.
abbrev pub first_row : PartKind → ℕ
first_row (kind.Tcp state) = 2
first_row kind.Udp = 0
first_row kind.Icmp = 0

abbrev pub drop_row : PartKind → Bool → ℕ
drop_row kind assured = (if assured then first_row kind + 1 else first_row kind)

abbrev pub drop_column : PartKind → ℕ
drop_column (kind.Tcp state) = column_of state
drop_column kind.Udp = 0
drop_column kind.Icmp = 0
