use Rattle.entry_pool.proofs.Taking.{full_words, taken_is, taken_words}
use Rattle.entry_pool.proofs.take.take.Goals as goal

pub returns-in-Taken-clause-says : goal.returns-in-Taken-clause-says
returns-in-Taken-clause-says g c =
    taken_is c.in-Taken.place c.args.pass.now c.open_place.new.pass c.phase_store.new.self c.in-Taken.ensures.says c.phase_store.ensures

pub returns-in-Taken-clause-words : goal.returns-in-Taken-clause-words
returns-in-Taken-clause-words g c =
    taken_words c.in-Taken.place c.args.pass.now c.open_place.new.pass c.phase_store.new.self c.in-Taken.ensures.says c.phase_store.ensures

pub returns-in-Full-clause-words : goal.returns-in-Full-clause-words
returns-in-Full-clause-words g c = full_words c.in-Full.at c.args.pass.now c.open_place.new.pass c.in-Full.ensures.says
