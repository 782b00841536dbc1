use Rattle.history_book.specs.declared.verdict.Class.TheVariants as class
use Rattle.std.proofs.Common.{◌≡◌, Some, refl, ◌∙◌, ap, length, subst, sym}
use Rattle.history_book.specs.declared.verdict.Class.{Class}
use Rattle.history_book.specs.Desk.{Leaves, Touches}
use Rattle.history_book.specs.Entry.{is_of_entry}
use Rattle.history_book.specs.Held.{held_id}
use Rattle.history_book.specs.History.{after}
use Rattle.history_book.specs.State.{record_of}
use Rattle.proto_rules.specs.declared.Outcome.TheVariants as outcome
use Rattle.packet_path.specs.Internal.Attempt.{Answers}
use Rattle.packet_path.proofs.Attempts.{attempt_after, starts_longer}
use Rattle.packet_path.proofs.Meetings.{has_id_of, helped_entry, left_as_it_is, met_protocol, touched, zone_entry}
use Rattle.packet_path.specs.Packet.{flow_packet}
use Rattle.packet_path.proofs.attempt.meet_entry.Goals as goal

pub touch-requires-clause-protocol : goal.touch-requires-clause-protocol
touch-requires-clause-protocol g c =
    let s = g.D.Desk.sight c.args.desk.now in
    ap (λ id. is_of_entry c.args.packet.now.segment id s.front) (c.met_entries_stay.ensures.hold c.args.met.now.place c.args.met.now.id s c.requires.met.holds)
    ∙ met_protocol c.met_entries_stay.ensures.keep c.met_entries_stay.ensures.live
    c.met_entries_stay.ensures.flow c.met_entries_stay.ensures.same s (flow_packet c.args.packet.now) c.args.met.now c.requires.knows
    c.requires.classified c.requires.met

pub follow_payload-ftp-requires-clause-named : goal.follow_payload-ftp-requires-clause-named
follow_payload-ftp-requires-clause-named g c =
    let s = g.D.Desk.sight c.args.desk.now in
    let mid = g.D.Desk.sight c.touch.new.self in
    let id : held_id c.args.met.now.place s.held ≡ c.args.met.now.id =
    c.met_entries_stay.ensures.hold c.args.met.now.place c.args.met.now.id s c.requires.met.holds in
    ap (held_id c.args.met.now.place) c.in-Touched.ensures.says.same.held ∙ id
    ∙ sym (has_id_of c.args.met.now.id (after mid.front c.in-Touched.number) c.in-Touched.before
    (subst (λ i. record_of i (after mid.front c.in-Touched.number) ≡ Some c.in-Touched.before) id c.in-Touched.ensures.says.found.fact))

pub follow_payload-ftp-requires-clause-helper : goal.follow_payload-ftp-requires-clause-helper
follow_payload-ftp-requires-clause-helper g c = λ helper.
    let s = g.D.Desk.sight c.args.desk.now in
    helped_entry c.entries_keep_helper_and_zone.ensures.helper (g.D.Desk.sight c.touch.new.self) c.in-Touched.number
    (held_id c.args.met.now.place s.held) c.in-Touched.before c.touch.ensures.knows c.in-Touched.ensures.says.found.fact helper

pub follow_payload-ftp-requires-clause-zone : goal.follow_payload-ftp-requires-clause-zone
follow_payload-ftp-requires-clause-zone g c =
    zone_entry c.entries_keep_helper_and_zone.ensures.zone (g.D.Desk.sight c.touch.new.self) c.in-Touched.number
    (held_id c.args.met.now.place (g.D.Desk.sight c.args.desk.now).held) c.in-Touched.before c.touch.ensures.knows
    c.in-Touched.ensures.says.found.fact

pub returns-in-Touched-clause-says : goal.returns-in-Touched-clause-says
returns-in-Touched-clause-says g c = λ setup.
    let s = g.D.Desk.sight c.args.desk.now in
    let mid = g.D.Desk.sight c.touch.new.self in
    let new = g.D.Desk.sight c.follow_payload-ftp.new.desk in
    subst (λ (k : Class). Answers setup s new (flow_packet c.args.packet.now) c.args.kills (length s.front) k) (sym c.passed.ensures)
    (touched c.desks_go_on.ensures.states c.desks_go_on.ensures.events c.met_entries_stay.ensures.again c.desks_go_on.ensures.all setup s mid new (flow_packet c.args.packet.now) c.args.met.now
    c.args.kills c.in-Touched.number c.in-Touched.before c.follow_payload-ftp.result c.requires.few c.follow_payload-ftp.ensures.knows
    c.requires.met
    (subst (λ id. Touches id c.args.met.now.direction c.args.packet.now.segment c.args.packet.now.moment s mid c.in-Touched.number
    c.in-Touched.before)
    (c.met_entries_stay.ensures.hold c.args.met.now.place c.args.met.now.id s c.requires.met.holds) c.in-Touched.ensures.says)
    (c.follow_payload-ftp.ensures.follows c.in-Touched.number c.in-Touched.ensures.says.made.high))

pub returns-in-Ignored-clause-says : goal.returns-in-Ignored-clause-says
returns-in-Ignored-clause-says g c = λ setup.
    let s = g.D.Desk.sight c.args.desk.now in
    let new = g.D.Desk.sight c.touch.new.self in
    left_as_it_is c.desks_go_on.ensures.states c.desks_go_on.ensures.events c.met_entries_stay.ensures.again setup outcome.Ignore
    (class.Ignored c.args.met.now.id c.in-Ignored.at) s new (flow_packet c.args.packet.now) c.args.met.now
    c.args.kills c.in-Ignored.at c.requires.few c.touch.ensures.knows c.requires.met
    (subst (λ id. Leaves id c.args.met.now.direction c.args.packet.now.segment c.args.packet.now.moment outcome.Ignore s new c.in-Ignored.at)
    (c.met_entries_stay.ensures.hold c.args.met.now.place c.args.met.now.id s c.requires.met.holds) c.in-Ignored.ensures.says)
    refl (λ given mark own h. h)

pub returns-in-Invalid-clause-says : goal.returns-in-Invalid-clause-says
returns-in-Invalid-clause-says g c = λ setup.
    let s = g.D.Desk.sight c.args.desk.now in
    let new = g.D.Desk.sight c.touch.new.self in
    left_as_it_is c.desks_go_on.ensures.states c.desks_go_on.ensures.events c.met_entries_stay.ensures.again setup outcome.Invalid
    (class.BadState c.args.met.now.id c.in-Invalid.at) s new (flow_packet c.args.packet.now) c.args.met.now
    c.args.kills c.in-Invalid.at c.requires.few c.touch.ensures.knows c.requires.met
    (subst (λ id. Leaves id c.args.met.now.direction c.args.packet.now.segment c.args.packet.now.moment outcome.Invalid s new c.in-Invalid.at)
    (c.met_entries_stay.ensures.hold c.args.met.now.place c.args.met.now.id s c.requires.met.holds) c.in-Invalid.ensures.says)
    refl (λ given mark own h. h)

pub returns-in-Reset-clause-says : goal.returns-in-Reset-clause-says
returns-in-Reset-clause-says g c = λ setup.
    let s = g.D.Desk.sight c.args.desk.now in
    let mid = g.D.Desk.sight c.touch.new.self in
    let saw = c.in-Reset.ensures.says.0.saw in
    attempt_after c.desks_go_on.ensures.states c.desks_go_on.ensures.events c.desks_go_on.ensures.all c.desks_go_on.ensures.twice setup s mid (g.D.Desk.sight c.reset_entry.new.desk) (flow_packet c.args.packet.now)
    c.args.kills (length s.front) c.reset_entry.result saw
    (c.reset_entry.ensures.says setup c.args.kills (length s.front) c.requires.few (starts_longer mid.front s.front saw.went.front))

pub returns-in-Expired-clause-says : goal.returns-in-Expired-clause-says
returns-in-Expired-clause-says g c = λ setup.
    let s = g.D.Desk.sight c.args.desk.now in
    let mid = g.D.Desk.sight c.touch.new.self in
    let looked = c.in-Expired.ensures.says.0 in
    attempt_after c.desks_go_on.ensures.states c.desks_go_on.ensures.events c.desks_go_on.ensures.all c.desks_go_on.ensures.twice setup s mid (g.D.Desk.sight c.end_entry.new.desk) (flow_packet c.args.packet.now)
    c.args.kills (length s.front) c.end_entry.result looked.saw
    (c.end_entry.ensures.says setup (length s.front) looked.low (starts_longer mid.front s.front looked.saw.went.front))

pub returns-in-Reopen-clause-says : goal.returns-in-Reopen-clause-says
returns-in-Reopen-clause-says g c = λ setup.
    let s = g.D.Desk.sight c.args.desk.now in
    let mid = g.D.Desk.sight c.touch.new.self in
    let looked = c.in-Reopen.ensures.says.0 in
    attempt_after c.desks_go_on.ensures.states c.desks_go_on.ensures.events c.desks_go_on.ensures.all c.desks_go_on.ensures.twice setup s mid (g.D.Desk.sight c.end_entry-in-Reopen.new.desk) (flow_packet c.args.packet.now)
    c.args.kills (length s.front) c.end_entry-in-Reopen.result looked.saw
    (c.end_entry-in-Reopen.ensures.says setup (length s.front) looked.low (starts_longer mid.front s.front looked.saw.went.front))
