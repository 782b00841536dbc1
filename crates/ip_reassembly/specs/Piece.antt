-- A piece: a frame that carries one fragment of a datagram, all of it captured (RFC 791, section 3.2).
use Rattle.std.specs.Prelude.{ℕ, ◌+◌, ◌*◌, ◌-◌, ◌%◌, ◌==◌, nat_le, nat_lt, Bool, true, false, ◌&&◌, ◌||◌, if◌then◌else◌, List, Option, Some, None}
use Rattle.packet_headers.specs.declared.frame.Frame.{Frame}
use Rattle.packet_headers.specs.declared.frame.Link.{Link}
use Rattle.packet_headers.specs.declared.frame.Link.TheVariants.{Ethernet, Raw}
use Rattle.packet_headers.specs.declared.packet.Packet.{Packet}
use Rattle.packet_headers.specs.declared.packet.Packet.TheVariants.{Untracked, Invalid, Flow, Error}
use Rattle.packet_headers.specs.declared.packet.Untracked.{Untracked as Why}
use Rattle.packet_headers.specs.declared.packet.Untracked.TheVariants as why
use Rattle.packet_headers.specs.ByteOrder.{big_u16_at}
use Rattle.packet_headers.specs.Classify.{packet_of}
use Rattle.packet_headers.specs.Ipv4Header.{addresses_of, fragment_offset, has_ipv4_header, header_length, more_fragments, protocol, total_length}
use Rattle.ip_reassembly.specs.declared.piece.Key.{Key}
use Rattle.ip_reassembly.specs.declared.piece.Part.{Part}
use Rattle.ip_reassembly.specs.declared.piece.Piece.{Piece}

-- the bytes before the IP packet of a frame
abbrev pub link_header : Link → ℕ
link_header Ethernet = 14
link_header Raw = 0

-- where the IP packet of a frame begins
abbrev pub packet_start : Frame → ℕ
packet_start frame = frame.start + link_header frame.link

-- how many of its bytes were captured
abbrev pub packet_captured : Frame → ℕ
packet_captured frame = frame.captured - link_header frame.link

abbrev pub is_fragment_for : Why → Bool
is_fragment_for why.Link = false
is_fragment_for why.Fragment = true
is_fragment_for why.Protocol = false

-- what the headers of a frame say: it is a fragment
abbrev pub is_fragment_packet : Packet → Bool
is_fragment_packet (Untracked reason) = is_fragment_for reason
is_fragment_packet Invalid = false
is_fragment_packet (Flow tuple segment payload) = false
is_fragment_packet (Error inner destination) = false

-- what tells the pieces of one datagram from those of others
abbrev pub key_at : List ℕ → ℕ → Key
key_at bytes at = record {
  source = (addresses_of bytes at).source;
  destination = (addresses_of bytes at).destination;
  protocol = protocol bytes at;
  identification = big_u16_at bytes (at + 4);
}

abbrev pub same_key : Key → Key → Bool
same_key a b = a.source == b.source && (a.destination == b.destination && (a.protocol == b.protocol && a.identification == b.identification))

-- how many bytes of the datagram's data the packet carries
abbrev pub data_length : List ℕ → ℕ → ℕ
data_length bytes at = total_length bytes at - header_length bytes at

-- which bytes of the data they are, and where they stand
abbrev pub part_at : List ℕ → ℕ → Part
part_at bytes at = record {
  low = 8 * fragment_offset bytes at;
  high = 8 * fragment_offset bytes at + data_length bytes at;
  start = at + header_length bytes at;
}

-- no fragment follows this one
abbrev pub is_last : List ℕ → ℕ → Bool
is_last bytes at = more_fragments bytes at == 0

-- the most bytes of data that a datagram can have behind a header of 20 bytes
abbrev pub most_data : ℕ
most_data = 65515

-- the packet was captured whole and carries data; where others follow, in units of eight bytes; and no
-- datagram of its data is too long
abbrev pub has_part : List ℕ → ℕ → ℕ → Bool
has_part bytes at captured =
    has_ipv4_header bytes at captured
    && (nat_le (total_length bytes at) captured && (nat_lt (header_length bytes at) (total_length bytes at)
    && ((is_last bytes at || data_length bytes at % 8 == 0) && nat_le (8 * fragment_offset bytes at + data_length bytes at) most_data)))

abbrev pub piece_at : List ℕ → ℕ → ℕ → Piece
piece_at bytes at moment = record {
  key = key_at bytes at;
  moment = moment;
  part = part_at bytes at;
  last = is_last bytes at;
  header = at;
}

-- the piece that a frame is, if it is one
unfoldable pub piece_of : List ℕ → Frame → Option Piece
piece_of bytes frame =
    (if is_fragment_packet (packet_of bytes frame) && has_part bytes (packet_start frame) (packet_captured frame)
    then Some (piece_at bytes (packet_start frame) frame.moment)
    else None)
