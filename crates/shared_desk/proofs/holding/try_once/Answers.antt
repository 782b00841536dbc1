use Rattle.track_rule.specs.ChangeLaws.{frees_joined}
use Rattle.shared_desk.specs.Changed.{hold_words}
use Rattle.shared_desk.proofs.Wording.{hold_more, hold_reads, hold_turn}
use Rattle.shared_desk.proofs.holding.try_once.Goals as goal

pub returns-in-Held-clause-words : goal.returns-in-Held-clause-words
returns-in-Held-clause-words g c =
    frees_joined (hold_words c.args.place) c.args.pass.now.view c.try_hold.new.pass.view c.keep_live.new.pass.view
    (hold_more c.args.place c.args.pass.now c.try_hold.new.pass c.in-Held.ensures) c.keep_live.ensures.words

pub returns-in-Zero-clause-words : goal.returns-in-Zero-clause-words
returns-in-Zero-clause-words g c =
    frees_joined (hold_words c.args.place) c.args.pass.now.view c.try_hold.new.pass.view c.find_empty.new.pass.view
    (hold_reads c.args.place 0 c.args.pass.now c.try_hold.new.pass c.in-Zero.ensures.only) (hold_turn c.args.place c.try_hold.new.pass.view c.find_empty.new.pass.view c.find_empty.ensures.words)

pub returns-in-Moved-clause-words : goal.returns-in-Moved-clause-words
returns-in-Moved-clause-words g c = hold_reads c.args.place c.in-Moved.now c.args.pass.now c.try_hold.new.pass c.in-Moved.ensures.only
