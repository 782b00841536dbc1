use Rattle.std.proofs.Common.{[], ap, arith, length, length-append, refl, subst, sym}
use Rattle.packet_headers.specs.declared.packet.Packet.{Packet}
use Rattle.packet_headers.specs.declared.packet.Packet.TheVariants.{Flow}
use Rattle.packet_path.specs.declared.fast.Tried.TheVariants.{Done, Killed}
use Rattle.packet_path.specs.declared.setup.Setup.{Setup}
use Rattle.packet_path.specs.Internal.Fast.{TriedSays}
use Rattle.packet_path.specs.Packet.{flow_packet, FlowPacket, Given, given_by, given_of, IsFlow, packet_in}
use Rattle.packet_path.proofs.Handling.{same_flow}
use Rattle.packet_path.proofs.handle_into.meet_frame.Goals as goal

-- an answer makes as many events with any setup
any_setup : Setup
any_setup = record { rules = record { items = []; room = 0 }; ftp = record { items = []; room = 0 } }

pub append-requires-clause-first : goal.append-requires-clause-first
append-requires-clause-first g c =
    let a = c.in-Done.ensures.says any_setup in
    omega (arith, ap length a.went.own, length-append (g.D.Desk.sight c.args.desk.now).own a.rest, c.requires.low)

pub append-requires-clause-few : goal.append-requires-clause-few
append-requires-clause-few g c =
    let a = c.in-Done.ensures.says any_setup in
    omega (arith, ap length a.went.own, length-append (g.D.Desk.sight c.args.desk.now).own a.rest, c.requires.high, c.requires.few, a.few)

pub returns-in-Done-clause-says : goal.returns-in-Done-clause-says
unfolding given_of
returns-in-Done-clause-says g c = λ setup packet flow.
    let there : Given = given_by c.args.bytes.now (packet_in c.args.zone (Flow c.in-Flow.tuple c.in-Flow.segment c.in-Flow.payload)) c.args.frame.now.moment in
    let mine : FlowPacket = flow_packet c.flow_in-packet.result in
    let is : IsFlow there mine = c.flow_in-packet.ensures.flow in
    let known : IsFlow there packet =
    subst (λ (p : Packet). IsFlow (given_by c.args.bytes.now (packet_in c.args.zone p) c.args.frame.now.moment) packet) (sym c.in-Flow.ensures.exact) flow in
    subst (λ (p : FlowPacket). TriedSays setup p (record { kills = c.args.kills; counting = record { first = c.args.first; base = c.args.base } }) (g.D.Desk.sight c.args.desk.now) (g.D.Desk.sight c.meet_packet.new.desk)
    c.args.verdicts.now c.append.new.verdicts Done) (same_flow there mine packet is known)
    (record { class = c.in-Done.class; answers = c.in-Done.ensures.says setup; taken = c.in-Done.ensures.taken; appended = c.append.ensures })

pub returns-in-Killed-clause-says : goal.returns-in-Killed-clause-says
unfolding given_of
returns-in-Killed-clause-says g c = λ setup packet flow.
    let there : Given = given_by c.args.bytes.now (packet_in c.args.zone (Flow c.in-Flow.tuple c.in-Flow.segment c.in-Flow.payload)) c.args.frame.now.moment in
    let mine : FlowPacket = flow_packet c.flow_in-packet.result in
    let is : IsFlow there mine = c.flow_in-packet.ensures.flow in
    let known : IsFlow there packet =
    subst (λ (p : Packet). IsFlow (given_by c.args.bytes.now (packet_in c.args.zone p) c.args.frame.now.moment) packet) (sym c.in-Flow.ensures.exact) flow in
    subst (λ (p : FlowPacket). TriedSays setup p (record { kills = c.args.kills; counting = record { first = c.args.first; base = c.args.base } }) (g.D.Desk.sight c.args.desk.now) (g.D.Desk.sight c.meet_packet.new.desk)
    c.args.verdicts.now c.args.verdicts.now Killed) (same_flow there mine packet is known)
    (record { killed = c.in-Killed.ensures.says setup; taken = c.in-Killed.ensures.taken; kept = refl })

pub returns-in-Again-clause-says : goal.returns-in-Again-clause-says
returns-in-Again-clause-says g c = λ setup packet flow. record { saw = c.in-Again.ensures.says setup; kept = refl }
