use Rattle.std.proofs.Common.{arith, subst, sym}
use Rattle.expect_table.specs.declared.expectation.Expectation.{Expectation}
use Rattle.shared_desk.specs.ExpectTurn.{aside}
use Rattle.shared_desk.specs.Expecting.{Adds, IsOfMaster}
use Rattle.shared_desk.proofs.UnderBoth.{added, of_master}
use Rattle.shared_desk.proofs.expecting.expect_known.Goals as goal

pub add_expectation-requires-clause-master : goal.add_expectation-requires-clause-master
add_expectation-requires-clause-master c =
    subst (λ (e : Expectation). IsOfMaster e c.args.moment c.record_out.new.pass) (sym c.expectation_at-e.ensures)
    (of_master c.args.place c.phase_load-phase.result c.history_load.result c.args.want c.args.moment c.args.pass.now c.phase_load-phase.new.self c.history_load.new.self
    c.requires.has c.requires.suits c.phase_load-phase.ensures.loads c.phase_load-phase.ensures.kept c.history_load.ensures.looks c.history_load.ensures.kept
    (omega (arith, c.if-phase-lt-LIVE.false)) c.in-Some.master c.in-Some.ensures.record c.entries_keep_helper_and_zone.ensures.helper c.entries_keep_helper_and_zone.ensures.zone
    c.record_out.new.pass c.in-Some.ensures.same c.events_in-at.result c.events_in-at.ensures)

pub returns-in-Some-clause-expects : goal.returns-in-Some-clause-expects
returns-in-Some-clause-expects c =
    added c.args.place c.phase_load-phase.result c.history_load.result c.args.want c.args.moment c.args.pass.now c.phase_load-phase.new.self c.history_load.new.self
    c.requires.has c.requires.suits c.phase_load-phase.ensures.loads c.phase_load-phase.ensures.kept c.history_load.ensures.looks c.history_load.ensures.kept
    (omega (arith, c.if-phase-lt-LIVE.false)) c.in-Some.master c.in-Some.ensures.record c.entries_keep_helper_and_zone.ensures.helper c.entries_keep_helper_and_zone.ensures.zone
    c.record_out.new.pass c.in-Some.ensures.same c.events_in-at.result c.events_in-at.ensures
    c.args.table.now c.requires.knows c.add_expectation.new.pass c.add_expectation.result.0
    (subst (λ (e : Expectation). Adds e c.args.moment c.args.table.now c.add_expectation.result.0 (aside c.record_out.new.pass) (aside c.add_expectation.new.pass))
    c.expectation_at-e.ensures c.add_expectation.ensures.adds)
