use Rattle.std.proofs.Common.{◌∙◌, ap, subst, sym}
use Rattle.history_book.specs.declared.event.Why.TheVariants.{Reset}
use Rattle.history_book.specs.declared.verdict.Class.{Class}
use Rattle.history_book.specs.Desk.{Destroys}
use Rattle.history_book.specs.Entry.{is_of_entry}
use Rattle.packet_path.specs.Internal.Attempt.{Answers}
use Rattle.packet_path.proofs.Meetings.{met_protocol, was_reset}
use Rattle.packet_path.specs.Packet.{flow_packet}
use Rattle.packet_path.proofs.attempt.reset_entry.Goals as goal

pub kill-requires-clause-protocol : goal.kill-requires-clause-protocol
kill-requires-clause-protocol g c =
    let s = g.D.Desk.sight c.args.desk.now in
    ap (λ id. is_of_entry c.args.packet.now.segment id s.front) (c.met_entries_stay.ensures.hold c.args.met.now.place c.args.met.now.id s c.requires.met.holds)
    ∙ met_protocol c.met_entries_stay.ensures.keep c.met_entries_stay.ensures.live
    c.met_entries_stay.ensures.flow c.met_entries_stay.ensures.same s (flow_packet c.args.packet.now) c.args.met.now c.requires.knows
    c.requires.classified c.requires.met

pub returns-in-Killed-clause-says : goal.returns-in-Killed-clause-says
returns-in-Killed-clause-says g c = λ setup killed from few low.
    let s = g.D.Desk.sight c.args.desk.now in
    let new = g.D.Desk.sight c.kill.new.self in
    subst (λ (k : Class). Answers setup s new (flow_packet c.args.packet.now) killed from k) (sym c.passed.ensures)
    (was_reset c.desks_go_on.ensures.states c.desks_go_on.ensures.events c.met_entries_stay.ensures.again setup s new (flow_packet c.args.packet.now) c.args.met.now
    killed from c.in-Killed.number c.in-Killed.subject few low c.kill.ensures.knows c.requires.met
    (subst (λ id. Destroys id (Reset c.args.packet.now.segment c.args.packet.now.moment) s new c.in-Killed.number c.in-Killed.subject)
    (c.met_entries_stay.ensures.hold c.args.met.now.place c.args.met.now.id s c.requires.met.holds) c.in-Killed.ensures.says))
