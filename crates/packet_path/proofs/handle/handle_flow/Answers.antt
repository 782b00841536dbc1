use Rattle.std.proofs.Common.{arith}
use Rattle.packet_path.proofs.Handling.{goes_on_again, goes_on_more, killing_done, killing_none}
use Rattle.packet_path.specs.Packet.{flow_packet}
use Rattle.packet_path.proofs.handle.handle_flow.Goals as goal

pub attempts-init : goal.attempts-init
attempts-init g c = (
  tt,
  tt,
  record {
    killing = killing_none c.desks_go_on.ensures.all (g.D.Desk.sight c.args.desk.now) (flow_packet c.args.packet.now) c.made-first.ensures.knows c.requires.empty;
    spare = omega (arith, c.requires.spare);
    low = omega (arith, c.made-first.ensures.exact);
    high = omega (arith, c.made-first.ensures.exact);
  },
)

pub returns-in-Done-clause-handled : goal.returns-in-Done-clause-handled
returns-in-Done-clause-handled g c = λ given flow.
    killing_done c.desks_go_on.ensures.states c.desks_go_on.ensures.events c.desks_go_on.ensures.all (g.D.Desk.sight c.args.desk.now) (flow_packet c.args.packet.now) c.args.setup.now (g.D.Desk.sight c.attempts.desk)
    (g.D.Desk.sight c.try_packet.new.desk) c.attempts.kills _ given flow c.attempts.invariant.2.killing c.in-Done.ensures.says
    c.in-Done.ensures.taken c.in-Done.ensures.empty c.made-first.ensures.exact (omega (arith, c.made-first.ensures.exact, c.made.ensures.exact))

pub attempts-preserved-in-Killed : goal.attempts-preserved-in-Killed
attempts-preserved-in-Killed g c = (
  tt,
  tt,
  goes_on_more c.desks_go_on.ensures.states c.desks_go_on.ensures.events c.desks_go_on.ensures.all (g.D.Desk.sight c.args.desk.now) (flow_packet c.args.packet.now) (g.D.Desk.sight c.attempts.desk)
      (g.D.Desk.sight c.try_packet.new.desk) c.attempts.kills c.made-first.result c.attempts.invariant.2 c.in-Killed.ensures.says c.in-Killed.ensures.taken c.in-Killed.ensures.empty c.in-Killed.ensures.knows,
)

pub attempts-preserved : goal.attempts-preserved
attempts-preserved g c = (
  tt,
  tt,
  goes_on_again c.desks_go_on.ensures.states c.desks_go_on.ensures.events c.desks_go_on.ensures.all (g.D.Desk.sight c.args.desk.now) (flow_packet c.args.packet.now) (g.D.Desk.sight c.attempts.desk)
      (g.D.Desk.sight c.try_packet.new.desk) c.attempts.kills c.made-first.result c.attempts.invariant.2 c.in-Again.ensures.says c.in-Again.ensures.empty c.in-Again.ensures.knows,
)
