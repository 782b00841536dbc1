-- The header of an ICMP message (RFC 792; for the address mask RFC 950). `at` is the place of its first
-- byte.
use Rattle.std.specs.Prelude.{ℕ, ◌+◌, Bool, ◌&&◌, ◌||◌, nat_le, ◌==◌, if◌then◌else◌, List, Option, Some, None, slice_index}
use Rattle.tuple_core.specs.Tuple.{icmp_tuple, is_query_type}
use Rattle.tuple_core.specs.declared.Tuple.{Tuple}
use Rattle.packet_headers.specs.declared.classify.ipv4.Addresses.{Addresses}
use Rattle.packet_headers.specs.declared.classify.ipv4.Ipv4Payload.{Ipv4Payload}
use Rattle.packet_headers.specs.ByteOrder.{big_u16_at}

abbrev pub icmp_type : List ℕ → ℕ → ℕ
icmp_type bytes at = slice_index bytes at

abbrev pub icmp_code : List ℕ → ℕ → ℕ
icmp_code bytes at = slice_index bytes (at + 1)

-- of a query: what tells queries between two hosts apart
abbrev pub icmp_identifier : List ℕ → ℕ → ℕ
icmp_identifier bytes at = big_u16_at bytes (at + 4)

-- a message about another packet: destination unreachable, source quench, redirect, time exceeded,
-- parameter problem
abbrev pub is_error_type : ℕ → Bool
is_error_type k = k == 3 || k == 4 || k == 5 || k == 11 || k == 12

-- the packet has room for an ICMP header, which was captured up to its identifier
abbrev pub has_icmp_header : Ipv4Payload → Bool
has_icmp_header payload = nat_le 8 payload.length && nat_le 6 payload.captured

-- the tuple of a message, where it asks or answers
abbrev pub query_tuple : Addresses → List ℕ → ℕ → Option Tuple
query_tuple addresses bytes at =
    (if is_query_type (icmp_type bytes at)
    then Some (icmp_tuple addresses.source addresses.destination (icmp_type bytes at) (icmp_code bytes at) (icmp_identifier bytes at))
    else None)
