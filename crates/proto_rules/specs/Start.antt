-- When an entry begins.
use Rattle.std.specs.Prelude.{ℕ, Bool, false, ◌+◌, ◌==◌, ◌||◌, if◌then◌else◌, Option, Some, None}
use Rattle.tuple_core.specs.declared.Direction.TheVariants.{Original}
use Rattle.tuple_core.specs.declared.Segment.{Segment}
use Rattle.tuple_core.specs.declared.Segment.TheVariants as segment
use Rattle.proto_rules.specs.declared.Part.{Part}
use Rattle.proto_rules.specs.declared.PartKind.{PartKind}
use Rattle.proto_rules.specs.declared.PartKind.TheVariants as kind
use Rattle.proto_rules.specs.declared.TcpState.TheVariants.{Unset}
use Rattle.proto_rules.specs.declared.tcp_table.Cell.{Cell}
use Rattle.proto_rules.specs.declared.tcp_table.Cell.TheVariants.{To, Ignored, Invalid}
use Rattle.proto_rules.specs.Part.{tcp_lifetime}
use Rattle.proto_rules.specs.TcpTable.{tcp_cell}
use Rattle.proto_rules.specs.Timeout.{icmp_timeout, seconds, udp_timeout}

-- the part of an entry that begins: no reply was seen
abbrev pub begun : PartKind → ℕ → ℕ → Part
begun kind timeout moment =
    record { kind = kind; replied = false; assured = false; deadline = moment + seconds timeout }

-- of a connection, by the cell of its first segment
abbrev pub tcp_start : Cell → ℕ → Option Part
tcp_start (To state) moment = Some (begun (kind.Tcp state) (tcp_lifetime false state) moment)
tcp_start Ignored moment = None
tcp_start Invalid moment = None

-- the ICMP types that ask: echo, timestamp, information and address mask (RFC 792, RFC 950)
abbrev pub asks : ℕ → Bool
asks type = type == 8 || type == 13 || type == 15 || type == 17

-- the part of the entry that begins with the segment, if one does
abbrev pub start_of : Segment → ℕ → Option Part
start_of (segment.Tcp tcp_kind) moment = tcp_start (tcp_cell Original tcp_kind Unset) moment
start_of segment.Udp moment = Some (begun kind.Udp (udp_timeout false) moment)
start_of (segment.Icmp type) moment = (if asks type then Some (begun kind.Icmp icmp_timeout moment) else None)
