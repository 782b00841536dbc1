use Rattle.std.proofs.Common.{subst}
use Rattle.packet_headers.specs.declared.packet.Packet.{Packet}
use Rattle.packet_path.specs.Packet.{flow_packet, given_by, given_of, IsFlow, packet_in}
use Rattle.packet_path.proofs.Handling.{appended_ready}
use Rattle.packet_path.proofs.handle_into.handle_into.Goals as goal

pub flow_into-requires-clause-flow : goal.flow_into-requires-clause-flow
unfolding given_of
flow_into-requires-clause-flow g c =
    subst (λ (p : Packet). IsFlow (given_by c.args.bytes.now (packet_in c.args.zone p) c.args.frame.now.moment) (flow_packet c.flow_in-packet.result)) c.in-Flow.ensures.exact
    c.flow_in-packet.ensures.flow

pub returns-clause-handled : goal.returns-clause-handled
returns-clause-handled g c =
    appended_ready c.args.base c.args.setup.now 8 (g.D.Desk.sight c.args.desk.now) (g.D.Desk.sight c.ready.new.self) (g.D.Desk.sight c.flow_into.new.desk)
    (given_of c.args.zone c.args.bytes.now c.args.frame.now) c.args.verdicts.now c.flow_into.new.verdicts c.in_ok-ready.ensures.ready c.flow_into.ensures.handled

pub returns-in_default : goal.returns-in_default
returns-in_default g c = record {
  handled = appended_ready c.args.base c.args.setup.now 8 (g.D.Desk.sight c.args.desk.now) (g.D.Desk.sight c.ready.new.self) (g.D.Desk.sight c.other_frame.new.desk)
      (given_of c.args.zone c.args.bytes.now c.args.frame.now) c.args.verdicts.now c.other_frame.new.verdicts c.in_ok-ready.ensures.ready (c.other_frame.ensures.handled c.args.setup.now);
  short = tt;
  same = tt;
  kept = tt;
  knows = c.other_frame.ensures.knows;
}
