use Rattle.std.proofs.Common.{◌+◌, ◌∙◌, ap, false, refl, subst, sym}
use Rattle.std.proofs.lemmas.Bool.{eq-eqb}
use Rattle.std.specs.Prelude.{◌&&◌, ◌||◌, Bool, IsSome, Option, ℕ}
use Rattle.tuple_core.specs.declared.Proto.TheVariants as proto
use Rattle.proto_rules.specs.declared.Part.{Part}
use Rattle.history_book.specs.declared.verdict.Class.{Class}
use Rattle.history_book.specs.declared.verdict.Class.TheVariants as class
use Rattle.history_book.specs.Desk.{Confirms}
use Rattle.history_book.specs.Held.{is_held}
use Rattle.history_book.specs.Legality.{same_proto}
use Rattle.packet_path.specs.Internal.Attempt.{Answers}
use Rattle.packet_path.proofs.Attempts.{answers_before}
use Rattle.packet_path.proofs.Beginnings.{flow_of, had_place, made_answer, winner_answer, winner_looked}
use Rattle.packet_path.proofs.Claims.{looked_for, looking_keeps}
use Rattle.packet_path.specs.Packet.{flow_packet}
use Rattle.packet_path.proofs.begin.confirm_flow.Goals as goal

pub returns-in-Confirmed-clause-answers : goal.returns-in-Confirmed-clause-answers
returns-in-Confirmed-clause-answers g c = λ first killed few had.
    let s = g.D.Desk.sight c.args.desk.now in
    let mid = g.D.Desk.sight c.claim-claim.new.self in
    let after = g.D.Desk.sight c.confirm.new.self in
    let new = g.D.Desk.sight c.give_up.new.desk in
    subst (λ (k : Class). Answers c.args.setup.now first new (flow_packet c.args.packet.now) killed c.args.absent_at k) (sym c.made.ensures)
    (subst
    (λ (o : Option ℕ). Answers c.args.setup.now first new (flow_packet c.args.packet.now) killed c.args.absent_at
    (class.Made c.in-Confirmed.id (c.in-Confirmed.id + 1) c.args.found.now.translated o))
    (sym c.unclaimed_at.ensures)
    (answers_before c.desks_go_on.ensures.states c.desks_go_on.ensures.events c.desks_go_on.ensures.all c.desks_go_on.ensures.twice c.args.setup.now first after new (flow_packet c.args.packet.now) killed c.args.absent_at _
    (made_answer c.desks_go_on.ensures.states c.desks_go_on.ensures.events c.desks_go_on.ensures.all c.args.setup.now first s mid after (flow_packet c.args.packet.now) c.args.part c.args.found.now
    killed c.args.absent_at c.args.place c.in-Confirmed.id c.claim-claim.result few c.requires.starts had
    (looked_for c.flows_begin_once.ensures.may (flow_packet c.args.packet.now) s mid c.claim-claim.result c.claim-claim.ensures.knows c.claim-claim.ensures.says)
    (subst
    (λ (h : Bool). Confirms c.args.place (flow_of (flow_packet c.args.packet.now) c.args.part c.args.found.now.reply h (Rattle.packet_path.specs.Internal.Attempt.claimed_master c.claim-claim.result)) mid after c.in-Confirmed.id)
    c.is_helped.ensures
    (subst
    (λ (m : Option ℕ). Confirms c.args.place (flow_of (flow_packet c.args.packet.now) c.args.part c.args.found.now.reply c.is_helped.result m) mid after c.in-Confirmed.id)
    c.claimed_master.ensures c.in-Confirmed.ensures.says)))
    c.give_up.ensures.saw))

pub returns-in-Clash-clause-answers : goal.returns-in-Clash-clause-answers
returns-in-Clash-clause-answers g c = λ first killed few had.
    let s = g.D.Desk.sight c.args.desk.now in
    let mid = g.D.Desk.sight c.claim-claim.new.self in
    let after = g.D.Desk.sight c.confirm.new.self in
    let new = g.D.Desk.sight c.give_up-in-Clash.new.desk in
    subst (λ (k : Class). Answers c.args.setup.now first new (flow_packet c.args.packet.now) killed c.args.absent_at k) (sym c.met_winner.ensures)
    (answers_before c.desks_go_on.ensures.states c.desks_go_on.ensures.events c.desks_go_on.ensures.all c.desks_go_on.ensures.twice c.args.setup.now first after new (flow_packet c.args.packet.now) killed c.args.absent_at _
    (winner_answer c.desks_go_on.ensures.states c.desks_go_on.ensures.events c.desks_go_on.ensures.all c.flows_begin_once.ensures.absent c.flows_begin_once.ensures.free c.flows_begin_once.ensures.late
    c.args.setup.now first s mid after (flow_packet c.args.packet.now) _ c.args.found.now c.claim-claim.result killed c.args.absent_at c.in-Clash.id c.in-Clash.at
    c.in-Clash.direction c.in-Clash.both few c.confirm.ensures.knows (subst (λ (o : Option Part). IsSome o) (sym c.requires.starts) refl) had
    (looked_for c.flows_begin_once.ensures.may (flow_packet c.args.packet.now) s mid c.claim-claim.result c.claim-claim.ensures.knows c.claim-claim.ensures.says)
    refl refl
    (winner_looked mid after _ c.args.place c.in-Clash.id c.in-Clash.at c.in-Clash.direction c.in-Clash.both c.in-Clash.ensures.says.0)
    (had_place c.flows_begin_once.ensures.room s mid after _ c.args.place c.in-Clash.id c.in-Clash.at c.in-Clash.direction c.in-Clash.both
    c.confirm.ensures.knows c.requires.holds (looking_keeps (flow_packet c.args.packet.now) s mid c.claim-claim.result c.claim-claim.ensures.says)
    c.in-Clash.ensures.says.1 c.in-Clash.ensures.says.0)
    (same_proto c.args.packet.now.tuple.proto proto.Udp && c.in-Clash.both) refl)
    c.give_up-in-Clash.ensures.saw)

pub give_up-requires-in-Clash-clause-held : goal.give_up-requires-in-Clash-clause-held
give_up-requires-in-Clash-clause-held g c =
    let s = g.D.Desk.sight c.args.desk.now in
    let mid = g.D.Desk.sight c.claim-claim.new.self in
    ap (is_held c.args.place)
    (c.in-Clash.ensures.says.1.held
    ∙ (looking_keeps (flow_packet c.args.packet.now) s mid c.claim-claim.result c.claim-claim.ensures.says).held ∙ c.requires.holds.held)
    ∙ ap (λ b. b || false) (eq-eqb c.args.place c.args.place refl)
