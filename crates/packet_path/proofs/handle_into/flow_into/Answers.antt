use Rattle.std.proofs.Common.{◌∙◌, arith, refl, subst}
use Rattle.room_list.specs.Roomed.{Roomed}
use Rattle.history_book.specs.declared.verdict.Verdict.{Verdict}
use Rattle.packet_headers.specs.Classify.{packet_of}
use Rattle.packet_path.specs.Handled.{HandledInto}
use Rattle.packet_path.specs.Packet.{flow_packet, given_of}
use Rattle.packet_path.proofs.Handling.{answered_into, flow_in_zone, goes_on_again, goes_on_more, killing_none}
use Rattle.packet_path.proofs.handle_into.flow_into.Goals as goal

pub tries-init : goal.tries-init
tries-init g c = (
  tt,
  tt,
  record {
    killing = killing_none c.desks_go_on.ensures.all (g.D.Desk.sight c.args.desk.now) (flow_packet c.args.packet.now) c.made-first.ensures.knows c.requires.empty;
    spare = omega (arith, c.requires.spare);
    low = omega (arith, c.made-first.ensures.exact);
    high = omega (arith, c.made-first.ensures.exact);
  },
  refl,
)

pub returns-in-Done-clause-handled : goal.returns-in-Done-clause-handled
returns-in-Done-clause-handled g c =
    let s = g.D.Desk.sight c.args.desk.now in
    let new = g.D.Desk.sight c.fast_packet.new.desk in
    let given = given_of c.args.zone c.args.bytes.now c.args.frame.now in
    subst (λ (v : Roomed Verdict). HandledInto c.args.base c.args.setup.now given s new v c.fast_packet.new.verdicts) c.tries.invariant.3
    (answered_into c.desks_go_on.ensures.states c.desks_go_on.ensures.events c.desks_go_on.ensures.all s (flow_packet c.args.packet.now) c.args.setup.now
    (record { kills = c.tries.kills; counting = record { first = c.made-first.result; base = c.args.base } })
    (g.D.Desk.sight c.tries.desk) new c.tries.verdicts c.fast_packet.new.verdicts c.tries.invariant.2.killing c.in-Done.ensures.empty c.made-first.ensures.exact c.in-Done.ensures.says
    given c.requires.flow)

pub tries-preserved-in-Killed : goal.tries-preserved-in-Killed
tries-preserved-in-Killed g c = (
  tt,
  tt,
  goes_on_more c.desks_go_on.ensures.states c.desks_go_on.ensures.events c.desks_go_on.ensures.all (g.D.Desk.sight c.args.desk.now) (flow_packet c.args.packet.now) (g.D.Desk.sight c.tries.desk)
      (g.D.Desk.sight c.fast_packet.new.desk) c.tries.kills c.made-first.result c.tries.invariant.2 c.in-Killed.ensures.says.killed c.in-Killed.ensures.says.taken c.in-Killed.ensures.empty c.in-Killed.ensures.knows,
  c.in-Killed.ensures.says.kept ∙ c.tries.invariant.3,
)

pub meet_frame-requires-clause-flow : goal.meet_frame-requires-clause-flow
unfolding given_of
meet_frame-requires-clause-flow g c =
    flow_in_zone c.args.zone (packet_of c.args.bytes.now c.args.frame.now) c.args.packet.now.tuple c.args.packet.now.segment c.requires.flow.span c.requires.flow.headers

pub returns-in-Done-meet_frame-clause-handled : goal.returns-in-Done-meet_frame-clause-handled
returns-in-Done-meet_frame-clause-handled g c =
    let s = g.D.Desk.sight c.args.desk.now in
    let left = g.D.Desk.sight c.fast_packet.new.desk in
    let new = g.D.Desk.sight c.meet_frame.new.desk in
    let given = given_of c.args.zone c.args.bytes.now c.args.frame.now in
    let packet = flow_packet c.args.packet.now in
    let goes = goes_on_again c.desks_go_on.ensures.states c.desks_go_on.ensures.events c.desks_go_on.ensures.all s packet (g.D.Desk.sight c.tries.desk) left c.tries.kills c.made-first.result
    c.tries.invariant.2 c.in-Left.ensures.says.saw c.in-Left.ensures.empty c.in-Left.ensures.knows in
    subst (λ (v : Roomed Verdict). HandledInto c.args.base c.args.setup.now given s new v c.meet_frame.new.verdicts) (c.in-Left.ensures.says.kept ∙ c.tries.invariant.3)
    (answered_into c.desks_go_on.ensures.states c.desks_go_on.ensures.events c.desks_go_on.ensures.all s packet c.args.setup.now
    (record { kills = c.tries.kills; counting = record { first = c.made-first.result; base = c.args.base } })
    left new c.fast_packet.new.verdicts c.meet_frame.new.verdicts goes.killing c.in-Done-meet_frame.ensures.empty c.made-first.ensures.exact
    (c.in-Done-meet_frame.ensures.says c.args.setup.now packet c.requires.flow) given c.requires.flow)

pub tries-preserved-in-Killed-meet_frame : goal.tries-preserved-in-Killed-meet_frame
tries-preserved-in-Killed-meet_frame g c =
    let s = g.D.Desk.sight c.args.desk.now in
    let left = g.D.Desk.sight c.fast_packet.new.desk in
    let packet = flow_packet c.args.packet.now in
    let goes = goes_on_again c.desks_go_on.ensures.states c.desks_go_on.ensures.events c.desks_go_on.ensures.all s packet (g.D.Desk.sight c.tries.desk) left c.tries.kills c.made-first.result
    c.tries.invariant.2 c.in-Left.ensures.says.saw c.in-Left.ensures.empty c.in-Left.ensures.knows in
    let ended = c.in-Killed-meet_frame.ensures.says c.args.setup.now packet c.requires.flow in (
      tt,
      tt,
      goes_on_more c.desks_go_on.ensures.states c.desks_go_on.ensures.events c.desks_go_on.ensures.all s packet left (g.D.Desk.sight c.meet_frame.new.desk) c.tries.kills c.made-first.result goes
          ended.killed ended.taken c.in-Killed-meet_frame.ensures.empty c.in-Killed-meet_frame.ensures.knows,
      ended.kept ∙ c.in-Left.ensures.says.kept ∙ c.tries.invariant.3,
    )

pub tries-preserved : goal.tries-preserved
tries-preserved g c =
    let s = g.D.Desk.sight c.args.desk.now in
    let left = g.D.Desk.sight c.fast_packet.new.desk in
    let packet = flow_packet c.args.packet.now in
    let goes = goes_on_again c.desks_go_on.ensures.states c.desks_go_on.ensures.events c.desks_go_on.ensures.all s packet (g.D.Desk.sight c.tries.desk) left c.tries.kills c.made-first.result
    c.tries.invariant.2 c.in-Left.ensures.says.saw c.in-Left.ensures.empty c.in-Left.ensures.knows in
    let again = c.in-Left-meet_frame.ensures.says c.args.setup.now packet c.requires.flow in (
      tt,
      tt,
      goes_on_again c.desks_go_on.ensures.states c.desks_go_on.ensures.events c.desks_go_on.ensures.all s packet left (g.D.Desk.sight c.meet_frame.new.desk) c.tries.kills c.made-first.result goes
          again.saw c.in-Left-meet_frame.ensures.empty c.in-Left-meet_frame.ensures.knows,
      again.kept ∙ c.in-Left.ensures.says.kept ∙ c.tries.invariant.3,
    )
