use Rattle.std.proofs.Common.{◌≡◌, ◌+◌, ◌<◌, ◌≤◌, arith, length}
use Rattle.tuple_core.specs.declared.Segment.TheVariants.{Tcp}
use Rattle.packet_headers.specs.declared.packet.Packet.TheVariants.{Flow}
use Rattle.packet_headers.specs.Classify.{packet_of}
use Rattle.packet_headers.specs.TcpNumbers.{ip_place, tcp_place}
use Rattle.packet_headers.proofs.TcpPlace.{has_numbers, HasNumbers}
use Rattle.packet_headers.proofs.tcp_numbers.tcp_numbers.Goals as goal

pub header_length-requires : goal.header_length-requires
header_length-requires c =
    let flow : packet_of c.args.bytes.now c.args.frame.now ≡ Flow c.in-Flow-default-Tcp-default.tuple (Tcp c.in-Flow-default-Tcp-default.segment-0) c.in-Flow-default-Tcp-default.payload = cc in
    let has : HasNumbers c.args.bytes.now c.args.frame.now = has_numbers c.args.bytes.now c.args.frame.now _ _ _ flow c.requires in
    omega (arith, has.packet)

pub numbers_at-requires : goal.numbers_at-requires
numbers_at-requires c =
    let flow : packet_of c.args.bytes.now c.args.frame.now ≡ Flow c.in-Flow-default-Tcp-default.tuple (Tcp c.in-Flow-default-Tcp-default.segment-0) c.in-Flow-default-Tcp-default.payload = cc in
    let has : HasNumbers c.args.bytes.now c.args.frame.now = has_numbers c.args.bytes.now c.args.frame.now _ _ _ flow c.requires in
    let at : c.args.frame.now.start + c.link_header.result ≡ ip_place c.args.frame.now = cc in
    let numbers : tcp_place c.args.bytes.now c.args.frame.now + 12 ≤ length c.args.bytes.now = has.numbers in
    rw c.header_length.ensures.exact (rw at numbers)
