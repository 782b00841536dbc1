-- The protocol of a segment and that of an entry.
use Rattle.std.specs.Prelude.{Bool, true, false}
use Rattle.tuple_core.specs.declared.Proto.{Proto}
use Rattle.tuple_core.specs.declared.Proto.TheVariants as proto
use Rattle.tuple_core.specs.declared.Segment.{Segment}
use Rattle.tuple_core.specs.declared.Segment.TheVariants as segment
use Rattle.proto_rules.specs.declared.PartKind.{PartKind}
use Rattle.proto_rules.specs.declared.PartKind.TheVariants as kind

-- the protocol that a part is of
abbrev pub proto_of : PartKind → Proto
proto_of (kind.Tcp state) = proto.Tcp
proto_of kind.Udp = proto.Udp
proto_of kind.Icmp = proto.Icmp

-- the segment is of the entry's protocol
abbrev pub is_of_protocol : Segment → PartKind → Bool
is_of_protocol (segment.Tcp k) (kind.Tcp state) = true
is_of_protocol (segment.Tcp k) kind.Udp = false
is_of_protocol (segment.Tcp k) kind.Icmp = false
is_of_protocol segment.Udp (kind.Tcp state) = false
is_of_protocol segment.Udp kind.Udp = true
is_of_protocol segment.Udp kind.Icmp = false
is_of_protocol (segment.Icmp type) (kind.Tcp state) = false
is_of_protocol (segment.Icmp type) kind.Udp = false
is_of_protocol (segment.Icmp type) kind.Icmp = true
