-- The test of two parts.
use Rattle.std.specs.Prelude.{Bool, true, false, ◌==◌, ◌&&◌, not}
use Rattle.proto_rules.specs.declared.Part.{Part}
use Rattle.proto_rules.specs.declared.PartKind.{PartKind}
use Rattle.proto_rules.specs.declared.PartKind.TheVariants as kind
use Rattle.proto_rules.specs.TcpTable.{same_state}

abbrev pub same_bool : Bool → Bool → Bool
same_bool true b = b
same_bool false b = not b

abbrev pub same_kind : PartKind → PartKind → Bool
same_kind (kind.Tcp s) (kind.Tcp t) = same_state s t
same_kind (kind.Tcp s) kind.Udp = false
same_kind (kind.Tcp s) kind.Icmp = false
same_kind kind.Udp (kind.Tcp t) = false
same_kind kind.Udp kind.Udp = true
same_kind kind.Udp kind.Icmp = false
same_kind kind.Icmp (kind.Tcp t) = false
same_kind kind.Icmp kind.Udp = false
same_kind kind.Icmp kind.Icmp = true

abbrev pub same_part : Part → Part → Bool
same_part p q =
    same_kind p.kind q.kind && same_bool p.replied q.replied && same_bool p.assured q.assured && p.deadline == q.deadline
