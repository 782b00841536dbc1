use Rattle.entry_pool.proofs.Taking.{recycled_is, recycled_words}
use Rattle.entry_pool.proofs.take.recycle.Goals as goal

pub returns-clause-recycles : goal.returns-clause-recycles
returns-clause-recycles g c = recycled_is c.args.place c.args.pass.now c.phase_store.new.self c.give_place.new.pass c.phase_store.ensures c.give_place.ensures

pub returns-clause-words : goal.returns-clause-words
returns-clause-words g c = recycled_words c.args.place c.args.pass.now c.phase_store.new.self c.give_place.new.pass c.phase_store.ensures c.give_place.ensures
