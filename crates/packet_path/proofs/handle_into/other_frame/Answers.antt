use Rattle.std.proofs.Common.{subst}
use Rattle.packet_headers.specs.declared.packet.Packet.{Packet}
use Rattle.packet_path.specs.Packet.{given_by, given_of, packet_in}
use Rattle.packet_path.proofs.Handling.{silent_into}
use Rattle.packet_path.specs.Handled.{HandledInto}
use Rattle.packet_path.proofs.handle_into.other_frame.Goals as goal

pub returns-clause-handled : goal.returns-clause-handled
unfolding given_of
returns-clause-handled g c = λ setup.
    let s = g.D.Desk.sight c.args.desk.now in
    let new = g.D.Desk.sight c.other_class-class.new.desk in
    subst (λ (p : Packet). HandledInto c.args.base setup (given_by c.args.bytes.now (packet_in c.args.zone p) c.args.frame.now.moment) s new c.args.verdicts.now c.append.new.verdicts)
    c.classify-packet.ensures.exact
    (silent_into setup c.args.base c.made-first.result s new (given_by c.args.bytes.now (packet_in c.args.zone c.classify-packet.result) c.args.frame.now.moment) c.other_class-class.result
    c.args.verdicts.now c.append.new.verdicts c.other_class-class.ensures.saw c.other_class-class.ensures.empty c.other_class-class.ensures.taken c.made-first.ensures.exact
    (c.other_class-class.ensures.fits setup c.args.bytes.now c.args.frame.now.moment) c.other_class-class.ensures.points c.append.ensures)
