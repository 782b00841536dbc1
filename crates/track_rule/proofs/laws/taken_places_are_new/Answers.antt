use Rattle.track_rule.proofs.AllPasses.{taken_new}
use Rattle.track_rule.proofs.laws.taken_places_are_new.Goals as goal

pub returns : goal.returns
returns c = λ z l s place h. taken_new z l s place h
