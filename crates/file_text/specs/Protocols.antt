-- Protocols in rules and in commands.
use Rattle.std.specs.Prelude.{ℕ, Bool, true, false, if◌then◌else◌, List, Option, Some, None, codes, bytes_eq}
use Rattle.tuple_core.specs.declared.Proto.{Proto}
use Rattle.tuple_core.specs.declared.Proto.TheVariants.{Icmp, Tcp, Udp}

-- the value of `-p`
unfoldable pub proto_named : List ℕ → Option Proto
proto_named word =
    if bytes_eq word (codes "tcp") then Some Tcp else (if bytes_eq word (codes "udp") then Some Udp else
    (if bytes_eq word (codes "icmp") then Some Icmp else None))

-- ports stand only beside a protocol that has ports
abbrev pub has_ports : Option Proto → Bool
has_ports None = false
has_ports (Some Icmp) = false
has_ports (Some Tcp) = true
has_ports (Some Udp) = true
