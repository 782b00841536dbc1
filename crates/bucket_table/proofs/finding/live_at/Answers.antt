use Rattle.track_rule.specs.ChangesOnly.{no_word}
use Rattle.track_rule.specs.ChangeLaws.{joined, look_words, phase_words}
use Rattle.bucket_table.proofs.Showing.{shows_live, shows_no_more, shows_none}
use Rattle.bucket_table.proofs.finding.live_at.Goals as goal

pub returns-then-phase-lt-LIVE-clause-shows : goal.returns-then-phase-lt-LIVE-clause-shows
returns-then-phase-lt-LIVE-clause-shows c =
    shows_none c.args.place c.phase_load-phase.result c.args.pass.now c.phase_load-phase.new.self c.requires.testing c.phase_load-phase.ensures.loads
    c.phase_load-phase.ensures.kept c.if-phase-lt-LIVE.true

pub returns-then-phase_load-phase-clause-shows : goal.returns-then-phase_load-phase-clause-shows
returns-then-phase_load-phase-clause-shows c =
    shows_no_more c.args.place c.phase_load-phase.result c.args.pass.now c.phase_load-phase.new.self c.requires.testing c.phase_load-phase.ensures.loads
    c.phase_load-phase.ensures.kept c.if-phase-lt-LIVE.false c.history_load.result c.phase_load.result c.history_load.new.self c.phase_load.new.self
    c.history_load.ensures.looks c.history_load.ensures.kept c.phase_load.ensures.loads c.phase_load.ensures.kept c.if-phase_load-phase.true

pub returns-clause-shows : goal.returns-clause-shows
returns-clause-shows c =
    shows_live c.args.place c.phase_load-phase.result c.args.pass.now c.phase_load-phase.new.self c.requires.testing c.phase_load-phase.ensures.loads
    c.phase_load-phase.ensures.kept c.if-phase-lt-LIVE.false c.history_load.result c.phase_load.result c.history_load.new.self c.phase_load.new.self
    c.history_load.ensures.looks c.history_load.ensures.kept c.phase_load.ensures.loads c.phase_load.ensures.kept c.if-phase_load-phase.false c.events_in-at.result c.events_in-at.ensures

pub returns-then-phase-lt-LIVE-clause-words : goal.returns-then-phase-lt-LIVE-clause-words
returns-then-phase-lt-LIVE-clause-words c =
    phase_words no_word c.args.place c.phase_load-phase.result c.args.pass.now.view c.phase_load-phase.new.self.view c.phase_load-phase.ensures.loads

pub returns-then-phase_load-phase-clause-words : goal.returns-then-phase_load-phase-clause-words
returns-then-phase_load-phase-clause-words c =
    joined no_word c.args.pass.now.view c.phase_load-phase.new.self.view c.phase_load.new.self.view
    (phase_words no_word c.args.place c.phase_load-phase.result c.args.pass.now.view c.phase_load-phase.new.self.view c.phase_load-phase.ensures.loads)
    (joined no_word c.phase_load-phase.new.self.view c.history_load.new.self.view c.phase_load.new.self.view
    (look_words no_word c.history_load.result c.phase_load-phase.new.self.view c.history_load.new.self.view c.history_load.ensures.looks)
    (phase_words no_word c.args.place c.phase_load.result c.history_load.new.self.view c.phase_load.new.self.view c.phase_load.ensures.loads))

pub returns-clause-words : goal.returns-clause-words
returns-clause-words c =
    joined no_word c.args.pass.now.view c.phase_load-phase.new.self.view c.phase_load.new.self.view
    (phase_words no_word c.args.place c.phase_load-phase.result c.args.pass.now.view c.phase_load-phase.new.self.view c.phase_load-phase.ensures.loads)
    (joined no_word c.phase_load-phase.new.self.view c.history_load.new.self.view c.phase_load.new.self.view
    (look_words no_word c.history_load.result c.phase_load-phase.new.self.view c.history_load.new.self.view c.history_load.ensures.looks)
    (phase_words no_word c.args.place c.phase_load.result c.history_load.new.self.view c.phase_load.new.self.view c.phase_load.ensures.loads))
