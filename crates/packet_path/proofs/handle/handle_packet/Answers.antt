use Rattle.std.proofs.Common.{refl, subst, sym}
use Rattle.history_book.specs.declared.verdict.Verdict.{Verdict}
use Rattle.packet_headers.specs.declared.packet.Packet.{Packet}
use Rattle.packet_headers.specs.declared.packet.Packet.TheVariants.{Flow}
use Rattle.packet_path.specs.Handled.{Handled}
use Rattle.packet_path.specs.Packet.{given_by, packet_in}
use Rattle.packet_path.proofs.Handling.{handled_silent}
use Rattle.packet_path.proofs.handle.handle_packet.Goals as goal

pub returns-in-Flow-clause-handled : goal.returns-in-Flow-clause-handled
returns-in-Flow-clause-handled g c =
    subst (λ (p : Packet). Handled c.args.setup.now (given_by c.args.bytes.now (packet_in c.args.zone p) c.args.moment) (g.D.Desk.sight c.args.desk.now) (g.D.Desk.sight c.handle_flow.new.desk)
    c.handle_flow.result) (sym c.in-Flow.is)
    (c.handle_flow.ensures.handled (given_by c.args.bytes.now (packet_in c.args.zone (Flow c.in-Flow.tuple c.in-Flow.segment c.in-Flow.payload)) c.args.moment) c.flow_in-packet.ensures.flow)

pub returns-clause-handled : goal.returns-clause-handled
returns-clause-handled g c =
    let s = g.D.Desk.sight c.args.desk.now in
    let new = g.D.Desk.sight c.other_class-class.new.desk in
    let verdict : Verdict = record { class = c.other_class-class.result; first = c.made-first.result; made = 0 } in
    handled_silent c.args.setup.now s new (given_by c.args.bytes.now (packet_in c.args.zone c.args.packet.now) c.args.moment) verdict
    c.other_class-class.ensures.saw c.other_class-class.ensures.empty c.other_class-class.ensures.taken c.made-first.ensures.exact refl
    (c.other_class-class.ensures.fits c.args.setup.now c.args.bytes.now c.args.moment) c.other_class-class.ensures.points
