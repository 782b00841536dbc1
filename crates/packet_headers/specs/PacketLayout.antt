-- A packet of a tuple, laid out byte by byte: the headers of IPv4 (RFC 791), UDP (RFC 768), TCP (RFC
-- 9293) and ICMP (RFC 792), with no options and no data. A field that no flow is told by is 0, but for
-- the time to live.
use Rattle.std.specs.Prelude.{ℕ, ◌/◌, ◌%◌, List, [], ◌∷◌, ◌++◌, take}
use Rattle.std.specs.Int.{to_be_bytes, w16, w32}
use Rattle.tuple_core.specs.declared.Proto.{Proto}
use Rattle.tuple_core.specs.declared.Proto.TheVariants.{Icmp, Tcp, Udp}
use Rattle.tuple_core.specs.declared.Tuple.{Tuple}

-- 20 bytes: version and length of the header, the packet's length, the time to live, the protocol's
-- number, the addresses
abbrev pub ipv4_header : (length number source destination : ℕ) → List ℕ
ipv4_header length number source destination =
    (0x45 ∷ 0 ∷ []) ++ to_be_bytes w16 length ++ (0 ∷ 0 ∷ 0 ∷ 0 ∷ 64 ∷ number ∷ 0 ∷ 0 ∷ [])
    ++ to_be_bytes w32 source ++ to_be_bytes w32 destination

-- 8 bytes: the ports, the length, the checksum
abbrev pub udp_header : Tuple → List ℕ
udp_header t = to_be_bytes w16 t.a ++ to_be_bytes w16 t.b ++ to_be_bytes w16 8 ++ (0 ∷ 0 ∷ [])

-- 20 bytes: the ports, the two numbers, the header's length, the control bits, and what follows them
abbrev pub tcp_header : Tuple → ℕ → List ℕ
tcp_header t flags =
    to_be_bytes w16 t.a ++ to_be_bytes w16 t.b ++ (0 ∷ 0 ∷ 0 ∷ 0 ∷ 0 ∷ 0 ∷ 0 ∷ 0 ∷ [])
    ++ (0x50 ∷ flags ∷ 0 ∷ 0 ∷ 0 ∷ 0 ∷ 0 ∷ 0 ∷ [])

-- 8 bytes: the type, the code, the checksum, the identifier, the sequence number
abbrev pub icmp_header : Tuple → List ℕ
icmp_header t = (t.b / 256 ∷ t.b % 256 ∷ 0 ∷ 0 ∷ []) ++ to_be_bytes w16 t.a ++ (0 ∷ 0 ∷ [])

-- a datagram
abbrev pub udp_layout : Tuple → List ℕ
udp_layout t = ipv4_header 28 17 t.src t.dst ++ udp_header t

-- a segment with these control bits
abbrev pub tcp_layout : Tuple → ℕ → List ℕ
tcp_layout t flags = ipv4_header 40 6 t.src t.dst ++ tcp_header t flags

-- a message that asks or answers
abbrev pub icmp_layout : Tuple → List ℕ
icmp_layout t = ipv4_header 28 1 t.src t.dst ++ icmp_header t

-- what an error repeats of a packet: its IPv4 header and the first 8 bytes behind that
abbrev pub repeated : Proto → Tuple → List ℕ
repeated Icmp t = icmp_layout t
repeated Tcp t = take 28 (tcp_layout t 0)
repeated Udp t = udp_layout t

-- an error from one address to another about a packet of the tuple: behind the IPv4 header 8 bytes with
-- the type and the code, and then what it repeats
abbrev pub error_layout : (source destination type code : ℕ) → Tuple → List ℕ
error_layout source destination type code t =
    ipv4_header 56 1 source destination ++ (type ∷ code ∷ 0 ∷ 0 ∷ 0 ∷ 0 ∷ 0 ∷ 0 ∷ []) ++ repeated t.proto t
