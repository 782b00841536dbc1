-- What a frame is to the tracker, by the bytes of its headers. `at` is the place of the first byte, and
-- `captured` the number of bytes that were captured from there on. Checksums are not looked at.
use Rattle.std.specs.Prelude.{ℕ, ◌+◌, ◌-◌, ◌==◌, nat_lt, not, if◌then◌else◌, List, Option, Some, None}
use Rattle.tuple_core.specs.declared.Proto.{Proto}
use Rattle.tuple_core.specs.declared.Proto.TheVariants.{Icmp, Tcp, Udp}
use Rattle.packet_headers.specs.declared.classify.ipv4.Ipv4Payload.{Ipv4Payload}
use Rattle.packet_headers.specs.declared.frame.Frame.{Frame}
use Rattle.packet_headers.specs.declared.frame.Link.{Link}
use Rattle.packet_headers.specs.declared.frame.Link.TheVariants.{Ethernet, Raw}
use Rattle.packet_headers.specs.declared.packet.Packet.{Packet}
use Rattle.packet_headers.specs.declared.packet.Packet.TheVariants.{Untracked, Invalid}
use Rattle.packet_headers.specs.declared.packet.Untracked.TheVariants as untracked
use Rattle.packet_headers.specs.ByteOrder.{big_u16_at}
use Rattle.packet_headers.specs.Ipv4Header.{version, has_ipv4_header, is_fragment, protocol, tracked_protocol, ipv4_payload}
use Rattle.packet_headers.specs.TcpHeader.{tcp_packet}
use Rattle.packet_headers.specs.UdpHeader.{udp_packet}
use Rattle.packet_headers.specs.IcmpPacket.{icmp_packet}

-- the packet, by the protocol that its payload is of
abbrev pub packet_of_protocol : Option Proto → List ℕ → Ipv4Payload → Packet
packet_of_protocol None bytes payload = Untracked untracked.Protocol
packet_of_protocol (Some Icmp) bytes payload = icmp_packet bytes payload
packet_of_protocol (Some Tcp) bytes payload = tcp_packet bytes payload
packet_of_protocol (Some Udp) bytes payload = udp_packet bytes payload

-- a packet of another version than 4: with no link header it may be IPv6, which is not tracked
abbrev pub packet_of_version : Link → ℕ → Packet
packet_of_version Raw number = (if number == 6 then Untracked untracked.Link else Invalid)
packet_of_version Ethernet number = Invalid

-- an IP packet (RFC 791)
unfoldable pub ip_packet : Link → List ℕ → ℕ → ℕ → Packet
ip_packet link bytes at captured =
    (if captured == 0 then Invalid else
    (if not (version bytes at == 4) then packet_of_version link (version bytes at) else
    (if not (has_ipv4_header bytes at captured) then Invalid else
    (if is_fragment bytes at then Untracked untracked.Fragment else
    packet_of_protocol (tracked_protocol (protocol bytes at)) bytes (ipv4_payload bytes at captured)))))

-- an Ethernet frame: two addresses of six bytes each, and a type, which is 0x0800 before an IPv4 packet
-- (RFC 894)
unfoldable pub ethernet_frame : List ℕ → ℕ → ℕ → Packet
ethernet_frame bytes at captured =
    (if nat_lt captured 14 then Invalid else
    (if not (big_u16_at bytes (at + 12) == 0x0800) then Untracked untracked.Link else
    ip_packet Ethernet bytes (at + 14) (captured - 14)))

abbrev pub packet_behind : Link → List ℕ → ℕ → ℕ → Packet
packet_behind Ethernet bytes at captured = ethernet_frame bytes at captured
packet_behind Raw bytes at captured = ip_packet Raw bytes at captured

unfoldable pub packet_of : List ℕ → Frame → Packet
packet_of bytes frame = packet_behind frame.link bytes frame.start frame.captured
