use Rattle.std.proofs.Common.{ap, refl, sym}
use Rattle.packet_headers.specs.declared.packet.Packet.TheVariants.{Flow}
use Rattle.tuple_core.specs.declared.Tuple.{Tuple}
use Rattle.packet_path.proofs.packet.flow_in.Goals as goal

pub returns-clause-flow : goal.returns-clause-flow
returns-clause-flow c = record {
  span = c.args.payload;
  headers = ap (λ (t : Tuple). Flow t c.args.segment c.args.payload) (sym c.in_zone.ensures.exact);
  moment = refl;
  payload = c.bytes_in.ensures;
}
