use Rattle.std.proofs.Common.{[], length, subst, sym}
use Rattle.packet_headers.specs.declared.packet.Packet.{Packet}
use Rattle.packet_headers.specs.declared.packet.Packet.TheVariants.{Error}
use Rattle.tuple_core.specs.declared.Tuple.{Tuple}
use Rattle.packet_path.specs.Packet.{given_by, packet_in}
use Rattle.packet_path.specs.Verdict.{FitsFrame}
use Rattle.packet_path.proofs.handle.other_class.Goals as goal

pub returns-in-Error-clause-fits : goal.returns-in-Error-clause-fits
returns-in-Error-clause-fits g c = λ setup bytes moment.
    let s = g.D.Desk.sight c.args.desk.now in
    let new = g.D.Desk.sight c.error_class.new.desk in
    subst (λ (p : Packet). FitsFrame setup s.sizes new.front (length s.front) (given_by bytes (packet_in c.args.zone p) moment) [] c.error_class.result) (sym c.in-Error.is)
    (subst (λ (t : Tuple). FitsFrame setup s.sizes new.front (length s.front) (record { packet = Error t c.in-Error.outer_destination; moment = moment; payload = [] }) [] c.error_class.result)
    c.in_zone.ensures.exact (c.error_class.ensures.fits setup moment))
