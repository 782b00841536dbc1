-- The numbers of a TCP segment (RFC 9293, section 3.1): its sequence number is in the four bytes behind the ports, and
-- its acknowledgment number in the next four.
use Rattle.std.specs.Prelude.{ℕ, ◌+◌, List, Option, Some, None}
use Rattle.tuple_core.specs.declared.Segment.{Segment}
use Rattle.tuple_core.specs.declared.Segment.TheVariants.{Tcp, Udp, Icmp}
use Rattle.packet_headers.specs.declared.frame.Frame.{Frame}
use Rattle.packet_headers.specs.declared.frame.Link.{Link}
use Rattle.packet_headers.specs.declared.frame.Link.TheVariants.{Ethernet, Raw}
use Rattle.packet_headers.specs.declared.packet.Packet.{Packet}
use Rattle.packet_headers.specs.declared.packet.Packet.TheVariants.{Untracked, Invalid, Flow, Error}
use Rattle.packet_headers.specs.declared.tcp_numbers.TcpNumbers.{TcpNumbers}
use Rattle.packet_headers.specs.ByteOrder.{big_u32_at}
use Rattle.packet_headers.specs.Classify.{packet_of}
use Rattle.packet_headers.specs.Ipv4Header.{header_length}

-- how many bytes stand before an IP packet
abbrev pub link_header : Link → ℕ
link_header Ethernet = 14
link_header Raw = 0

-- where the IP packet of a frame begins
abbrev pub ip_place : Frame → ℕ
ip_place frame = frame.start + link_header frame.link

-- where the header behind that of IPv4 begins
abbrev pub tcp_place : List ℕ → Frame → ℕ
tcp_place bytes frame = ip_place frame + header_length bytes (ip_place frame)

-- the numbers in the header at a place
abbrev pub numbers_at : List ℕ → ℕ → TcpNumbers
numbers_at bytes at = record { seq = big_u32_at bytes (at + 4); ack = big_u32_at bytes (at + 8) }

-- those of a segment, if it is of TCP, whose header stands at a place
abbrev pub segment_numbers : List ℕ → ℕ → Segment → Option TcpNumbers
segment_numbers bytes at (Tcp kind) = Some (numbers_at bytes at)
segment_numbers bytes at Udp = None
segment_numbers bytes at (Icmp type) = None

-- those of a packet, if it is one of a flow of TCP
abbrev pub packet_numbers : List ℕ → ℕ → Packet → Option TcpNumbers
packet_numbers bytes at (Untracked why) = None
packet_numbers bytes at Invalid = None
packet_numbers bytes at (Flow tuple segment payload) = segment_numbers bytes at segment
packet_numbers bytes at (Error inner destination) = None

-- those of a frame
unfoldable pub tcp_numbers : List ℕ → Frame → Option TcpNumbers
tcp_numbers bytes frame = packet_numbers bytes (tcp_place bytes frame) (packet_of bytes frame)
