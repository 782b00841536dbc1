use Rattle.std.proofs.Common.{length, rules, subst, sym}
use Rattle.tuple_core.specs.declared.Tuple.{Tuple}
use Rattle.history_book.specs.declared.verdict.Translated.TheVariants.{Chosen, Plain}
use Rattle.nat_setup.specs.Rule.{rule_for}
use Rattle.nat_setup.specs.Translation.{WasTranslated}
use Rattle.packet_path.proofs.Attempts.{answers_after}
use Rattle.packet_path.proofs.Beginnings.{no_entry, no_port, reply_found}
use Rattle.packet_path.specs.Internal.Attempt.{IsFoundFor}
use Rattle.packet_path.specs.Packet.{flow_packet}
use Rattle.packet_path.proofs.begin.begin_flow.Goals as goal
use Rattle.packet_path.proofs.begin.begin_flow.Goals.{in-Plain, in-Chosen}

pub returns-in_default-clause-answers : goal.returns-in_default-clause-answers
returns-in_default-clause-answers g c = λ killed few.
    no_entry c.desks_go_on.ensures.states c.desks_go_on.ensures.events c.desks_go_on.ensures.resting c.args.setup.now (g.D.Desk.sight c.args.desk.now) (flow_packet c.args.packet.now) killed
    c.args.absent_at few c.requires.absent (search rules)

pub returns-clause-answers : goal.returns-clause-answers
returns-clause-answers g c = λ killed few.
    let s = g.D.Desk.sight c.args.desk.now in
    let mid = g.D.Desk.sight c.translate.new.desk in
    let setup = c.args.setup.now in
    let packet = flow_packet c.args.packet.now in
    let is : IsFoundFor setup packet mid.front c.args.absent_at c.match-translate.found = elim c.match-translate.branch [
      | in-Plain w ↦
          subst (IsFoundFor setup packet mid.front c.args.absent_at) (sym w.found-is)
          (reply_found c.desks_go_on.ensures.states c.desks_go_on.ensures.events setup packet s mid c.args.absent_at w.invert.result Plain
          c.requires.absent c.translate.ensures.saw
          (subst
          (λ (u : Tuple). WasTranslated mid.front (rule_for setup.rules.items packet.tuple) packet.tuple (length s.front) (length mid.front) Plain u)
          (sym w.invert.ensures.exact) w.in-Plain.ensures.says))
      | in-Chosen w ↦
          subst (IsFoundFor setup packet mid.front c.args.absent_at) (sym w.found-is)
          (reply_found c.desks_go_on.ensures.states c.desks_go_on.ensures.events setup packet s mid c.args.absent_at w.in-Chosen.reply
          (Chosen w.in-Chosen.reply w.in-Chosen.kept_taken_at) c.requires.absent c.translate.ensures.saw w.in-Chosen.ensures.says)
    ] in
    answers_after c.desks_go_on.ensures.states c.desks_go_on.ensures.events c.desks_go_on.ensures.all c.desks_go_on.ensures.twice setup s mid
    (g.D.Desk.sight c.place_flow.new.desk) packet killed c.args.absent_at c.place_flow.result c.translate.ensures.saw
    (c.place_flow.ensures.answers killed few is)

pub returns-in-NoPort-clause-answers : goal.returns-in-NoPort-clause-answers
returns-in-NoPort-clause-answers g c = λ killed few.
    no_port c.desks_go_on.ensures.states c.desks_go_on.ensures.events c.args.setup.now (g.D.Desk.sight c.args.desk.now)
    (g.D.Desk.sight c.translate.new.desk) (flow_packet c.args.packet.now) killed c.args.absent_at c.in-NoPort.from c.in-NoPort.to few c.requires.absent
    (search rules) c.translate.ensures.saw c.in-NoPort.ensures.says
