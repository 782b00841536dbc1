use Rattle.std.proofs.Common.{◌≡◌, subst, arith}
use Rattle.packet_path.specs.declared.attempt.Attempt.TheVariants.{Done}
use Rattle.history_book.specs.declared.verdict.Class.TheVariants.{Contended}
use Rattle.packet_path.specs.Internal.Attempt.{AttemptSays}
use Rattle.packet_path.proofs.Meetings.{contended}
use Rattle.packet_path.specs.Packet.{flow_packet}
use Rattle.packet_path.proofs.attempt.end_entry.Goals as goal

pub returns-then-is_last-clause-says : goal.returns-then-is_last-clause-says
returns-then-is_last-clause-says g c = λ setup from low within.
    let s = g.D.Desk.sight c.args.desk.now in
    let four : 4 ≡ c.args.kills = omega arith in
    subst (λ n. AttemptSays setup s s (flow_packet c.args.packet.now) n from (Done (Contended c.args.met.now.id c.args.at))) four
    (contended c.desks_go_on.ensures.states c.desks_go_on.ensures.events c.met_entries_stay.ensures.again c.desks_go_on.ensures.resting setup c.args.why s (flow_packet c.args.packet.now)
    c.args.met.now c.args.at from c.requires.knows c.requires.met c.requires.ends low)

pub returns-then-kill_entry-clause-says : goal.returns-then-kill_entry-clause-says
returns-then-kill_entry-clause-says g c = λ setup from low within.
    c.if-kill_entry.ensures.says c.args.kills from (omega (arith, c.requires.few, c.if-is_last.false)) within

pub returns-else-kill_entry-clause-says : goal.returns-else-kill_entry-clause-says
returns-else-kill_entry-clause-says g c = λ setup from low within.
    c.if-kill_entry.ensures.says c.args.kills from (omega (arith, c.requires.few, c.if-is_last.false)) within
