-- The IPv4 header (RFC 791, section 3.1). `at` is the place of its first byte, and `captured` the
-- number of bytes that were captured from there on, which may be fewer than the packet had.
use Rattle.std.specs.Prelude.{ℕ, ◌+◌, ◌*◌, ◌-◌, ◌/◌, ◌%◌, ◌^◌, ◌<◌, ◌≤◌, Bool, ◌&&◌, not, nat_le, ◌==◌, min, if◌then◌else◌, List, length, Option, Some, None, slice_index}
use Rattle.tuple_core.specs.declared.Proto.{Proto}
use Rattle.tuple_core.specs.declared.Proto.TheVariants.{Icmp, Tcp, Udp}
use Rattle.packet_headers.specs.declared.classify.ipv4.Addresses.{Addresses}
use Rattle.packet_headers.specs.declared.classify.ipv4.Ipv4Payload.{Ipv4Payload}
use Rattle.packet_headers.specs.ByteOrder.{big_u16_at, big_u32_at}

abbrev pub version : List ℕ → ℕ → ℕ
version bytes at = slice_index bytes at / 16

-- the bytes of the header: it states its 32-bit words
abbrev pub header_length : List ℕ → ℕ → ℕ
header_length bytes at = 4 * (slice_index bytes at % 16)

-- the bytes of the packet, header and data
abbrev pub total_length : List ℕ → ℕ → ℕ
total_length bytes at = big_u16_at bytes (at + 2)

-- the header's fixed part was captured, the header has at least that, and the packet has the header
abbrev pub has_ipv4_header : List ℕ → ℕ → ℕ → Bool
has_ipv4_header bytes at captured =
    nat_le 20 captured && nat_le 20 (header_length bytes at)
    && nat_le (header_length bytes at) (total_length bytes at)

-- the fragment's place in the packet that was cut, in units of eight bytes
abbrev pub fragment_offset : List ℕ → ℕ → ℕ
fragment_offset bytes at = big_u16_at bytes (at + 6) % 2 ^ 13

-- 1 where more fragments follow
abbrev pub more_fragments : List ℕ → ℕ → ℕ
more_fragments bytes at = big_u16_at bytes (at + 6) / 2 ^ 13 % 2

-- a fragment is not the first, or not the last
abbrev pub is_fragment : List ℕ → ℕ → Bool
is_fragment bytes at = not (more_fragments bytes at == 0 && fragment_offset bytes at == 0)

abbrev pub protocol : List ℕ → ℕ → ℕ
protocol bytes at = slice_index bytes (at + 9)

-- the protocols that are tracked, by their numbers
abbrev pub tracked_protocol : ℕ → Option Proto
tracked_protocol number =
    (if number == 1 then Some Icmp else
    (if number == 6 then Some Tcp else
    (if number == 17 then Some Udp else None)))

abbrev pub addresses_of : List ℕ → ℕ → Addresses
addresses_of bytes at = record {
  source = big_u32_at bytes (at + 12);
  destination = big_u32_at bytes (at + 16);
}

-- what the packet carries behind its header, and how many bytes of that were captured: none where the
-- header itself was cut
abbrev pub ipv4_payload : List ℕ → ℕ → ℕ → Ipv4Payload
ipv4_payload bytes at captured = record {
  addresses = addresses_of bytes at;
  start = at + header_length bytes at;
  length = total_length bytes at - header_length bytes at;
  captured = min (total_length bytes at - header_length bytes at) (captured - header_length bytes at);
}

-- what was captured of a payload lies in the bytes
abbrev pub LiesIn : List ℕ → Ipv4Payload → Type 0
LiesIn bytes payload = 0 < payload.captured → payload.start + payload.captured ≤ length bytes
