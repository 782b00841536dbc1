use Rattle.std.proofs.Common.{◌≡◌, None, rules, subst, sym}
use Rattle.expect_table.specs.Expectations.{matching}
use Rattle.history_book.specs.State.{State}
use Rattle.track_rule.specs.ChangesOnly.{ChangesWords, is_expect_turn, is_history, where_so}
use Rattle.track_rule.specs.Sights.{PassSight}
use Rattle.shared_desk.specs.Changed.{is_claimed}
use Rattle.shared_desk.specs.Claiming.{HasLooked}
use Rattle.shared_desk.specs.ExpectTurn.{HasExpectTurn, aside}
use Rattle.shared_desk.proofs.ExpectTurn.{in_slot}
use Rattle.shared_desk.proofs.Wording.{around, gave_expects}
use Rattle.shared_desk.proofs.UnderExpects.{claim_given, looked_given}
use Rattle.shared_desk.proofs.claiming.claim.Goals as goal

pub returns-in_default-clause-claims : goal.returns-in_default-clause-claims
returns-in_default-clause-claims g c =
    let none-expected = λ (s : State). matching c.args.t.now c.args.moment s.expects ≡ None in
    let looked : HasLooked c.events_in-at.result none-expected (aside c.take_turn.new.pass) (aside c.history_load.new.self) = search rules in
    looked_given c.args.pass.now c.take_turn.new.pass c.history_load.new.self c.expects_give.new.self
    (in_slot c.args.pass.now c.take_turn.new.pass c.requires.free.expected c.take_turn.ensures.has) c.expects_give.ensures c.events_in-at.result none-expected looked

pub returns-clause-claims : goal.returns-clause-claims
returns-clause-claims g c =
    let has = subst (HasExpectTurn c.args.pass.now) (sym c.in-Some.ensures.same) c.take_turn.ensures.has in
    claim_given c.args.pass.now c.expects_matching.new.self c.claim_met-outcome.new.pass c.expects_give-2.new.self
    (in_slot c.args.pass.now c.expects_matching.new.self c.requires.free.expected has) c.expects_give-2.ensures
    c.args.t.now c.args.moment c.claim_met-outcome.result.0 c.claim_met-outcome.ensures.claims

pub returns-clause-words : goal.returns-clause-words
returns-clause-words g c =
    let taken = subst (λ (k : PassSight). ChangesWords is_expect_turn c.args.pass.now.view k.view) (sym c.in-Some.ensures.same) c.take_turn.ensures.words in
    around is_expect_turn (where_so (is_claimed c.claim_met-outcome.result.0) is_history) c.args.pass.now.view c.expects_matching.new.self.view c.claim_met-outcome.new.pass.view
    c.expects_give-2.new.self.view taken c.claim_met-outcome.ensures.words
    (gave_expects c.claim_met-outcome.new.pass c.expects_give-2.new.self _ c.expects_give-2.ensures)
