use Rattle.track_rule.proofs.AllPasses.{right}
use Rattle.track_rule.proofs.laws.places_are_right.Goals as goal

pub returns : goal.returns
returns c = right c.uses_exclude_others.ensures c.places_are_in_the_pool.ensures
