-- The test of a segment and an entry, by their protocols.
use Rattle.std.proofs.Common.{◌≡◌, true, refl}
use Rattle.tuple_core.specs.declared.Segment.{Segment}
use Rattle.tuple_core.specs.declared.Segment.TheVariants as segment
use Rattle.proto_rules.specs.declared.PartKind.{PartKind}
use Rattle.proto_rules.specs.declared.PartKind.TheVariants as kind
use Rattle.proto_rules.specs.Protocol.{is_of_protocol, proto_of}
use Rattle.packet_headers.specs.ClassifySound.{protocol_of}

-- the test passes exactly where the protocols are equal
pub same_protocol : (s : Segment) (k : PartKind)
    → (is_of_protocol s k ≡ true → proto_of k ≡ protocol_of s) × (proto_of k ≡ protocol_of s → is_of_protocol s k ≡ true)
same_protocol (segment.Tcp k) (kind.Tcp state) = (λ h. refl, λ h. refl)
same_protocol (segment.Tcp k) kind.Udp = (λ h. cc, λ h. cc)
same_protocol (segment.Tcp k) kind.Icmp = (λ h. cc, λ h. cc)
same_protocol segment.Udp (kind.Tcp state) = (λ h. cc, λ h. cc)
same_protocol segment.Udp kind.Udp = (λ h. refl, λ h. refl)
same_protocol segment.Udp kind.Icmp = (λ h. cc, λ h. cc)
same_protocol (segment.Icmp type) (kind.Tcp state) = (λ h. cc, λ h. cc)
same_protocol (segment.Icmp type) kind.Udp = (λ h. cc, λ h. cc)
same_protocol (segment.Icmp type) kind.Icmp = (λ h. refl, λ h. refl)
