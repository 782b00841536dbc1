use Rattle.track_rule.specs.ChangeLaws.{frees_joined}
use Rattle.shared_desk.specs.Changed.{hold_words}
use Rattle.shared_desk.proofs.Wording.{hold_give, hold_none, hold_turn}
use Rattle.shared_desk.proofs.holding.keep_live.Goals as goal

pub returns-in-Some-clause-words : goal.returns-in-Some-clause-words
returns-in-Some-clause-words g c = hold_none c.args.place c.args.pass.now.view c.name_entry.new.pass.view c.name_entry.ensures.words

pub returns-in-None-clause-words : goal.returns-in-None-clause-words
returns-in-None-clause-words g c =
    frees_joined (hold_words c.args.place) c.args.pass.now.view c.name_entry.new.pass.view c.find_empty.new.pass.view
    (hold_none c.args.place c.args.pass.now.view c.name_entry.new.pass.view c.name_entry.ensures.words)
    (frees_joined (hold_words c.args.place) c.name_entry.new.pass.view c.give_back.new.pass.view c.find_empty.new.pass.view
    (hold_give c.args.place c.name_entry.new.pass.view c.give_back.new.pass.view c.give_back.ensures.words)
    (hold_turn c.args.place c.give_back.new.pass.view c.find_empty.new.pass.view c.find_empty.ensures.words))
