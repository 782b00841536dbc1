use Rattle.pool_visits.proofs.Steps.{adds_up}
use Rattle.pool_visits.proofs.laws.visits_add_up.Goals as goal

pub returns : goal.returns
returns c = adds_up c.states_stay.ensures c.entries_keep_their_place.ensures
