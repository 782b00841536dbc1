use Rattle.std.proofs.Common.{◌≡◌, ◌++◌, ℕ, List, OnOk, subst, ◌∙◌, ap}
use Rattle.tuple_core.specs.declared.Proto.TheVariants.{Icmp, Tcp, Udp}
use Rattle.packet_headers.specs.PacketLayout.{tcp_layout}
use Rattle.made_captures.specs.Internal.FlowRecords.{recorded}
use Rattle.made_captures.proofs.FlowRecords.{packet_is}
use Rattle.made_captures.proofs.record.append_packet.Goals as goal

pub returns-in-Udp : goal.returns-in-Udp
returns-in-Udp c =
    let same = c.udp_record.ensures
    ∙ ap (recorded c.args.moment) (packet_is c.args.proto Udp c.made_direction.result c.args.step c.args.first.now c.directed-tuple.result
    c.in-Udp.is c.made_direction.ensures c.directed-tuple.ensures) in
    subst (λ (ys : List ℕ). OnOk c.append.result (c.append.new.self.items ≡ c.args.bytes.now.items ++ ys)) same c.append.ensures.ok

pub returns-in-Tcp : goal.returns-in-Tcp
returns-in-Tcp c =
    let same = c.tcp_record.ensures ∙ ap (λ (flags : ℕ). recorded c.args.moment (tcp_layout c.directed-tuple.result flags)) c.control_bits.ensures
    ∙ ap (recorded c.args.moment) (packet_is c.args.proto Tcp c.made_direction.result c.args.step c.args.first.now c.directed-tuple.result
    c.in-Tcp.is c.made_direction.ensures c.directed-tuple.ensures) in
    subst (λ (ys : List ℕ). OnOk c.append-in-Tcp.result (c.append-in-Tcp.new.self.items ≡ c.args.bytes.now.items ++ ys)) same c.append-in-Tcp.ensures.ok

pub returns-in-Icmp : goal.returns-in-Icmp
returns-in-Icmp c =
    let same = c.icmp_record.ensures
    ∙ ap (recorded c.args.moment) (packet_is c.args.proto Icmp c.made_direction.result c.args.step c.args.first.now c.directed-tuple.result
    c.in-Icmp.is c.made_direction.ensures c.directed-tuple.ensures) in
    subst (λ (ys : List ℕ). OnOk c.append-in-Icmp.result (c.append-in-Icmp.new.self.items ≡ c.args.bytes.now.items ++ ys)) same c.append-in-Icmp.ensures.ok
