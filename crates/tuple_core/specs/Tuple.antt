-- What a tuple is: its protocol's number, its numbers' ranges, and the ICMP types that make a flow.
use Rattle.std.specs.Prelude.{ℕ, Bool, true, ◌+◌, ◌*◌, ◌^◌, ◌/◌, ◌&&◌, ◌||◌, nat_lt, ◌==◌, if◌then◌else◌}
use Rattle.tuple_core.specs.declared.Proto.{Proto}
use Rattle.tuple_core.specs.declared.Proto.TheVariants.{Icmp, Tcp, Udp}
use Rattle.tuple_core.specs.declared.Tuple.{Tuple}

-- the number of a protocol in the IP header (RFC 791)
abbrev pub number_of : Proto → ℕ
number_of Icmp = 1
number_of Tcp = 6
number_of Udp = 17

-- the ICMP type that answers this one, or that this one answers: echo, timestamp, information
-- (RFC 792) and address mask (RFC 950); every other type is its own partner, and makes no flow
abbrev pub partner_of : ℕ → ℕ
partner_of k =
    (if k == 0 then 8 else
    (if k == 8 then 0 else
    (if k == 13 then 14 else
    (if k == 14 then 13 else
    (if k == 15 then 16 else
    (if k == 16 then 15 else
    (if k == 17 then 18 else
    (if k == 18 then 17 else k))))))))

-- an ICMP type that asks or answers: a query of RFC 1122, section 3.2.2
abbrev pub is_query_type : ℕ → Bool
is_query_type k = k == 0 || k == 8 || k == 13 || k == 14 || k == 15 || k == 16 || k == 17 || k == 18

-- the type of an ICMP flow asks or answers; of the other protocols nothing is asked
abbrev pub has_flow : Proto → ℕ → Bool
has_flow Icmp b = is_query_type (b / 256)
has_flow Tcp b = true
has_flow Udp b = true

-- each number is in its field's range
abbrev pub is_in_range : Tuple → Bool
is_in_range t =
    nat_lt t.zone (2 ^ 16) && nat_lt t.src (2 ^ 32) && nat_lt t.dst (2 ^ 32) && nat_lt t.a (2 ^ 16) && nat_lt t.b (2 ^ 16)

-- the tuple is of TCP, of UDP, or of an ICMP type that makes a flow
abbrev pub is_valid : Tuple → Bool
is_valid t = is_in_range t && has_flow t.proto t.b

-- the tuple of an ICMP flow, in zone 0
abbrev pub icmp_tuple : (src dst kind code id : ℕ) → Tuple
icmp_tuple src dst kind code id = record { proto = Icmp; zone = 0; src = src; dst = dst; a = id; b = kind * 256 + code }

-- the same in another zone
abbrev pub in_zone : ℕ → Tuple → Tuple
in_zone zone t = record t { zone = zone }
