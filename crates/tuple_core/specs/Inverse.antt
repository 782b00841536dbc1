-- The other direction of a flow.
use Rattle.std.specs.Prelude.{ℕ, ◌+◌, ◌*◌, ◌/◌, ◌%◌}
use Rattle.tuple_core.specs.declared.Proto.{Proto}
use Rattle.tuple_core.specs.declared.Proto.TheVariants.{Icmp, Tcp, Udp}
use Rattle.tuple_core.specs.declared.Tuple.{Tuple}
use Rattle.tuple_core.specs.Tuple.{partner_of}

-- the first of the two numbers that tell flows apart, seen from the other end
abbrev pub inverse_a : Proto → ℕ → ℕ → ℕ
inverse_a Icmp a b = a
inverse_a Tcp a b = b
inverse_a Udp a b = b

-- the second one: for ICMP the partner of the type, and the code
abbrev pub inverse_b : Proto → ℕ → ℕ → ℕ
inverse_b Icmp a b = partner_of (b / 256) * 256 + b % 256
inverse_b Tcp a b = a
inverse_b Udp a b = a

abbrev pub inverse : Tuple → Tuple
inverse t = record {
  proto = t.proto;
  zone = t.zone;
  src = t.dst;
  dst = t.src;
  a = inverse_a t.proto t.a t.b;
  b = inverse_b t.proto t.a t.b;
}
