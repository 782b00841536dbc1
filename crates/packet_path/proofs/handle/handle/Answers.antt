use Rattle.std.proofs.Common.{subst}
use Rattle.packet_headers.specs.declared.packet.Packet.{Packet}
use Rattle.packet_path.specs.Handled.{Handled}
use Rattle.packet_path.specs.Packet.{given_by, given_of, packet_in}
use Rattle.packet_path.proofs.Handling.{handled_ready}
use Rattle.packet_path.proofs.handle.handle.Goals as goal

pub returns-clause-handled : goal.returns-clause-handled
unfolding given_of
returns-clause-handled g c =
    let s = g.D.Desk.sight c.args.desk.now in
    let ready = g.D.Desk.sight c.ready.new.self in
    let new = g.D.Desk.sight c.handle_packet.new.desk in
    handled_ready c.args.setup.now 8 s ready new (given_of c.args.zone c.args.bytes.now c.args.frame.now) c.handle_packet.result c.in_ok-ready.ensures.ready
    (subst (λ (p : Packet). Handled c.args.setup.now (given_by c.args.bytes.now (packet_in c.args.zone p) c.args.frame.now.moment) ready new c.handle_packet.result)
    c.classify-packet.ensures.exact c.handle_packet.ensures.handled)
