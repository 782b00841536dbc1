-- The reply tuples that a rule allows a flow to have.
use Rattle.std.specs.Prelude.{ℕ, Bool, ◌==◌, ◌&&◌, ◌||◌, nat_le, nat_lt, if◌then◌else◌, Option, Some, None}
use Rattle.tuple_core.specs.Inverse.{inverse}
use Rattle.tuple_core.specs.declared.Proto.{Proto}
use Rattle.tuple_core.specs.declared.Proto.TheVariants.{Icmp, Tcp, Udp}
use Rattle.tuple_core.specs.declared.Tuple.{Tuple}
use Rattle.nat_setup.specs.declared.rule.PortRange.{PortRange}
use Rattle.nat_setup.specs.declared.rule.Rule.{Rule}
use Rattle.nat_setup.specs.declared.rule.Side.{Side}
use Rattle.nat_setup.specs.declared.rule.Side.TheVariants.{Source, Destination}

-- the number beside the address that a rule changes: the port of its side, and the identifier of ICMP on
-- either side
abbrev pub number_at : Side → Tuple → Proto → ℕ
number_at Source t proto = t.a
number_at Destination t Icmp = t.a
number_at Destination t Tcp = t.b
number_at Destination t Udp = t.b

-- the number that the flow has there itself
abbrev pub own_number : Rule → Tuple → ℕ
own_number rule t = number_at rule.side t t.proto

-- the tuple with another address and number there
abbrev pub changed_at : Side → Tuple → Proto → ℕ → ℕ → Tuple
changed_at Source t proto address number = record t { src = address; a = number }
changed_at Destination t Icmp address number = record t { dst = address; a = number }
changed_at Destination t Tcp address number = record t { dst = address; b = number }
changed_at Destination t Udp address number = record t { dst = address; b = number }

-- the reply tuple of the flow once it has the rule's address and this number
abbrev pub reply_with : Rule → Tuple → ℕ → Tuple
reply_with rule t number = inverse (changed_at rule.side t t.proto rule.target number)

abbrev pub is_in_range : ℕ → ℕ → ℕ → Bool
is_in_range low high number = nat_le low number && nat_le number high

-- source ports are exchanged for ports of the same kind: below 512, below 1024, and above
abbrev pub is_alike : ℕ → ℕ → Bool
is_alike own number =
    (if nat_lt own 512 then is_in_range 1 511 number else
    (if nat_lt own 1024 then is_in_range 600 1023 number else is_in_range 1024 65535 number))

-- The numbers that a rule without ports allows. The flow's own one is among them in every case; the
-- destination port of TCP and UDP stays as it is.
abbrev pub is_default : Side → Proto → ℕ → ℕ → Bool
is_default Source Icmp own number = is_in_range 0 65535 number
is_default Source Tcp own number = number == own || is_alike own number
is_default Source Udp own number = number == own || is_alike own number
is_default Destination Icmp own number = is_in_range 0 65535 number
is_default Destination Tcp own number = number == own
is_default Destination Udp own number = number == own

abbrev pub is_allowed_by : Option PortRange → Rule → Tuple → ℕ → Bool
is_allowed_by (Some ports) rule t number = is_in_range ports.low ports.high number
is_allowed_by None rule t number = is_default rule.side t.proto (own_number rule t) number

-- the rule allows the flow to have the number
abbrev pub is_allowed : Rule → Tuple → ℕ → Bool
is_allowed rule t number = is_allowed_by rule.ports rule t number
