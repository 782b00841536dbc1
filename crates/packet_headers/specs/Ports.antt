-- The ports with which a TCP header (RFC 9293) and a UDP header (RFC 768) begin.
use Rattle.std.specs.Prelude.{ℕ, ◌+◌, Bool, true, false, List}
use Rattle.tuple_core.specs.declared.Proto.{Proto}
use Rattle.tuple_core.specs.declared.Proto.TheVariants.{Icmp, Tcp, Udp}
use Rattle.tuple_core.specs.declared.Tuple.{Tuple}
use Rattle.packet_headers.specs.declared.classify.ipv4.Addresses.{Addresses}
use Rattle.packet_headers.specs.ByteOrder.{big_u16_at}

abbrev pub has_ports : Proto → Bool
has_ports Icmp = false
has_ports Tcp = true
has_ports Udp = true

-- the addresses, and the ports that stand at this place, in zone 0
abbrev pub ports_tuple : Proto → Addresses → List ℕ → ℕ → Tuple
ports_tuple proto addresses bytes at = record {
  proto = proto;
  zone = 0;
  src = addresses.source;
  dst = addresses.destination;
  a = big_u16_at bytes at;
  b = big_u16_at bytes (at + 2);
}
