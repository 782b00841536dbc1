use Rattle.std.proofs.Common.{◌≡◌, ◌+◌, Some, ◌∙◌, ap, length, refl, subst, sym, arith, inl}
use Rattle.history_book.specs.declared.verdict.Class.{Class}
use Rattle.history_book.specs.declared.verdict.Class.TheVariants.{Passed}
use Rattle.history_book.specs.declared.verdict.Ftp.TheVariants.{Nothing}
use Rattle.history_book.specs.Desk.{Touches}
use Rattle.history_book.specs.Entry.{is_of_entry}
use Rattle.history_book.specs.Held.{held_id}
use Rattle.history_book.specs.History.{after}
use Rattle.history_book.specs.Label.{label_of}
use Rattle.history_book.specs.State.{record_of}
use Rattle.packet_path.specs.Internal.Fast.{Appended}
use Rattle.packet_path.proofs.Attempts.{killed_after, starts_longer}
use Rattle.packet_path.proofs.Meetings.{has_id_of, helped_entry, met_protocol, touched, zone_entry}
use Rattle.packet_path.proofs.Payloads.{follows_nothing}
use Rattle.packet_path.specs.Packet.{flow_packet}
use Rattle.packet_path.proofs.fast.touch_entry.Goals as goal

pub touch-requires-clause-protocol : goal.touch-requires-clause-protocol
touch-requires-clause-protocol g c =
    let s = g.D.Desk.sight c.args.desk.now in
    ap (λ id. is_of_entry c.args.packet.now.segment id s.front) (c.met_entries_stay.ensures.hold c.args.met.now.place c.args.met.now.id s c.requires.met.holds)
    ∙ met_protocol c.met_entries_stay.ensures.keep c.met_entries_stay.ensures.live
    c.met_entries_stay.ensures.flow c.met_entries_stay.ensures.same s (flow_packet c.args.packet.now) c.args.met.now c.requires.knows
    c.requires.classified c.requires.met

pub read_payload-requires-clause-named : goal.read_payload-requires-clause-named
read_payload-requires-clause-named g c =
    let s = g.D.Desk.sight c.args.desk.now in
    let mid = g.D.Desk.sight c.touch.new.self in
    let id : held_id c.args.met.now.place s.held ≡ c.args.met.now.id =
    c.met_entries_stay.ensures.hold c.args.met.now.place c.args.met.now.id s c.requires.met.holds in
    ap (held_id c.args.met.now.place) c.in-Touched.ensures.says.same.held ∙ id
    ∙ sym (has_id_of c.args.met.now.id (after mid.front c.in-Touched.number) c.in-Touched.before
    (subst (λ i. record_of i (after mid.front c.in-Touched.number) ≡ Some c.in-Touched.before) id c.in-Touched.ensures.says.found.fact))

pub read_payload-requires-clause-helper : goal.read_payload-requires-clause-helper
read_payload-requires-clause-helper g c = λ helper.
    let s = g.D.Desk.sight c.args.desk.now in
    helped_entry c.entries_keep_helper_and_zone.ensures.helper (g.D.Desk.sight c.touch.new.self) c.in-Touched.number
    (held_id c.args.met.now.place s.held) c.in-Touched.before c.touch.ensures.knows c.in-Touched.ensures.says.found.fact helper

pub read_payload-requires-clause-zone : goal.read_payload-requires-clause-zone
read_payload-requires-clause-zone g c =
    zone_entry c.entries_keep_helper_and_zone.ensures.zone (g.D.Desk.sight c.touch.new.self) c.in-Touched.number
    (held_id c.args.met.now.place (g.D.Desk.sight c.args.desk.now).held) c.in-Touched.before c.touch.ensures.knows
    c.in-Touched.ensures.says.found.fact

pub returns-then-reads-clause-says : goal.returns-then-reads-clause-says
returns-then-reads-clause-says g c = λ setup.
    let s = g.D.Desk.sight c.args.desk.now in
    let mid = g.D.Desk.sight c.touch.new.self in
    let new = g.D.Desk.sight c.read_payload.new.desk in
    let r = c.read_payload.ensures.reads in
    record {
      class = Passed (label_of c.in-Touched.before c.args.met.now.direction) c.in-Touched.before.id (c.in-Touched.number + 1) r.ftp;
      answers = touched c.desks_go_on.ensures.states c.desks_go_on.ensures.events c.met_entries_stay.ensures.again c.desks_go_on.ensures.all setup s mid new (flow_packet c.args.packet.now) c.args.met.now
          c.args.kills c.in-Touched.number c.in-Touched.before r.ftp c.requires.few c.read_payload.ensures.knows
          c.requires.met
          (subst (λ id. Touches id c.args.met.now.direction c.args.packet.now.segment c.args.packet.now.moment s mid c.in-Touched.number
          c.in-Touched.before)
          (c.met_entries_stay.ensures.hold c.args.met.now.place c.args.met.now.id s c.requires.met.holds) c.in-Touched.ensures.says)
          r.follows;
      taken = c.read_payload.ensures.taken ∙ c.in-Touched.ensures.says.made.taken;
      appended = r.appended;
    }

pub returns-else-reads-clause-says : goal.returns-else-reads-clause-says
returns-else-reads-clause-says g c = λ setup.
    let s = g.D.Desk.sight c.args.desk.now in
    let mid = g.D.Desk.sight c.touch.new.self in
    let class = Passed (label_of c.in-Touched.before c.args.met.now.direction) c.in-Touched.before.id (c.in-Touched.number + 1) Nothing in
    record {
      class = class;
      answers = touched c.desks_go_on.ensures.states c.desks_go_on.ensures.events c.met_entries_stay.ensures.again c.desks_go_on.ensures.all setup s mid mid (flow_packet c.args.packet.now) c.args.met.now
          c.args.kills c.in-Touched.number c.in-Touched.before Nothing c.requires.few c.touch.ensures.knows
          c.requires.met
          (subst (λ id. Touches id c.args.met.now.direction c.args.packet.now.segment c.args.packet.now.moment s mid c.in-Touched.number
          c.in-Touched.before)
          (c.met_entries_stay.ensures.hold c.args.met.now.place c.args.met.now.id s c.requires.met.holds) c.in-Touched.ensures.says)
          (follows_nothing (flow_packet c.args.packet.now) (record { subject = c.in-Touched.before; direction = c.args.met.now.direction }) c.in-Touched.number
          c.desks_go_on.ensures.resting mid (inl (sym c.is_read-reads.ensures ∙ c.if-reads.false)));
      taken = c.in-Touched.ensures.says.made.taken;
      appended = subst (λ (k : Class). Appended k c.args.first c.args.base mid.own c.args.verdicts.now c.append.new.verdicts) c.passed-class.ensures c.append.ensures;
    }

pub returns-then-killed-clause-says : goal.returns-then-killed-clause-says
returns-then-killed-clause-says g c = λ setup.
    let s = g.D.Desk.sight c.args.desk.now in
    let mid = g.D.Desk.sight c.touch.new.self in
    let new = g.D.Desk.sight c.kill_entry-killed.new.desk in
    let saw = c.in-Expired.ensures.says.0.saw in
    record {
      killed = killed_after c.desks_go_on.ensures.states c.desks_go_on.ensures.events c.desks_go_on.ensures.all c.desks_go_on.ensures.twice s mid new (flow_packet c.args.packet.now)
          c.args.kills (length s.front) saw
          (c.if-killed.ensures.says c.args.kills (length s.front) (omega (arith, c.requires.few, c.if-is_last.false)) (starts_longer mid.front s.front saw.went.front));
      taken = c.kill_entry-killed.ensures.taken ∙ saw.taken;
      kept = refl;
    }

pub returns-else-killed-clause-says : goal.returns-else-killed-clause-says
returns-else-killed-clause-says g c = λ setup.
    let s = g.D.Desk.sight c.args.desk.now in
    let mid = g.D.Desk.sight c.touch.new.self in
    let new = g.D.Desk.sight c.kill_entry-killed.new.desk in
    record {
      saw = c.desks_go_on.ensures.twice s mid new c.in-Expired.ensures.says.0.saw (c.if-killed.ensures.says 0 0 (omega arith) (omega arith));
      kept = refl;
    }
