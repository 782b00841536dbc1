-- A protocol with ports makes a flow, whatever the ports are.
use Rattle.std.proofs.Common.{◌≡◌, ℕ, true, refl}
use Rattle.tuple_core.specs.Tuple.{has_flow}
use Rattle.tuple_core.specs.declared.Proto.{Proto}
use Rattle.tuple_core.specs.declared.Proto.TheVariants.{Icmp, Tcp, Udp}
use Rattle.packet_headers.specs.Ports.{has_ports}

pub has_flow_by_ports : (p : Proto) (b : ℕ) → has_ports p ≡ true → has_flow p b ≡ true
has_flow_by_ports Icmp b h = cc
has_flow_by_ports Tcp b h = refl
has_flow_by_ports Udp b h = refl
