use Rattle.track_rule.specs.ChangeLaws.{joined, look_words, phase_words}
use Rattle.track_rule.specs.ChangesOnly.{no_word}
use Rattle.std.proofs.Common.{◌<◌, arith, subst, sym}
use Rattle.track_rule.specs.declared.view.View.{View}
use Rattle.shared_desk.proofs.Clashing.{blocks, rival_phase, the_rival}
use Rattle.shared_desk.proofs.rival.clash.Goals as goal

pub phase_load-phase-requires : goal.phase_load-phase-requires
phase_load-phase-requires c =
    let r = the_rival c.args.flow.now c.args.place c.args.rival.now c.args.pass.now c.history_load.result c.history_load.new.self c.requires c.history_load.ensures.looks
    c.tuples_tell_entries.ensures in
    record { place = subst (λ (k : View). c.args.rival.now.place < k.passes.sizes.entries) (sym c.history_load.ensures.looks.same) r.low }

pub overflow_sub-result : goal.overflow_sub-result
overflow_sub-result c =
    let r = the_rival c.args.flow.now c.args.place c.args.rival.now c.args.pass.now c.history_load.result c.history_load.new.self c.requires c.history_load.ensures.looks
    c.tuples_tell_entries.ensures in
    omega (
      arith,
      rival_phase c.args.flow.now c.args.place c.phase_load-phase.result c.args.rival.now c.history_load.new.self.view.seen.front c.args.pass.now c.history_load.new.self c.phase_load-phase.new.self
          c.requires r c.history_load.result c.history_load.ensures.looks c.phase_load-phase.ensures.loads,
    )

pub returns-clause-clashes : goal.returns-clause-clashes
returns-clause-clashes c =
    blocks c.args.flow.now c.args.place c.phase_load-phase.result c.history_load.result c.events_in-at.result c.args.rival.now c.args.pass.now c.history_load.new.self c.phase_load-phase.new.self c.requires
    (the_rival c.args.flow.now c.args.place c.args.rival.now c.args.pass.now c.history_load.result c.history_load.new.self c.requires c.history_load.ensures.looks
    c.tuples_tell_entries.ensures)
    c.tuples_tell_entries.ensures
    c.history_load.ensures.looks c.history_load.ensures.kept c.phase_load-phase.ensures.loads c.phase_load-phase.ensures.kept c.events_in-at.ensures

pub returns-clause-words : goal.returns-clause-words
returns-clause-words c =
    joined no_word c.args.pass.now.view c.history_load.new.self.view c.phase_load-phase.new.self.view
    (look_words no_word c.history_load.result c.args.pass.now.view c.history_load.new.self.view c.history_load.ensures.looks)
    (phase_words no_word c.args.rival.now.place c.phase_load-phase.result c.history_load.new.self.view c.phase_load-phase.new.self.view c.phase_load-phase.ensures.loads)
