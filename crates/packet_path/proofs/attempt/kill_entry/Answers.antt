use Rattle.std.proofs.Common.{◌∙◌, ap, subst}
use Rattle.history_book.specs.Desk.{Destroys}
use Rattle.history_book.specs.Entry.{suits_entry}
use Rattle.packet_path.proofs.Meetings.{met_protocol, suits, was_killed}
use Rattle.packet_path.specs.Packet.{flow_packet}
use Rattle.packet_path.proofs.attempt.kill_entry.Goals as goal

pub kill-requires-clause-protocol : goal.kill-requires-clause-protocol
kill-requires-clause-protocol g c =
    let s = g.D.Desk.sight c.args.desk.now in
    ap (λ id. suits_entry c.args.why id s.front) (c.met_entries_stay.ensures.hold c.args.met.now.place c.args.met.now.id s c.requires.met.holds)
    ∙ suits c.args.why s (flow_packet c.args.packet.now) c.args.met.now c.args.at c.requires.ends
    (met_protocol c.met_entries_stay.ensures.keep c.met_entries_stay.ensures.live
    c.met_entries_stay.ensures.flow c.met_entries_stay.ensures.same s (flow_packet c.args.packet.now) c.args.met.now c.requires.knows
    c.requires.classified c.requires.met)

pub returns-in-Killed-clause-says : goal.returns-in-Killed-clause-says
returns-in-Killed-clause-says g c = λ kills from few within.
    let s = g.D.Desk.sight c.args.desk.now in
    let new = g.D.Desk.sight c.kill.new.self in
    was_killed c.desks_go_on.ensures.states c.desks_go_on.ensures.events c.met_entries_stay.ensures.again c.args.why s s new (flow_packet c.args.packet.now)
    c.args.met.now kills from c.args.at c.in-Killed.number c.in-Killed.subject few within c.kill.ensures.knows c.requires.met c.requires.ends
    (subst (λ id. Destroys id c.args.why s new c.in-Killed.number c.in-Killed.subject)
    (c.met_entries_stay.ensures.hold c.args.met.now.place c.args.met.now.id s c.requires.met.holds) c.in-Killed.ensures.says)
