use Rattle.pool_visits.proofs.Steps.{stays}
use Rattle.pool_visits.proofs.laws.all_visits_stay.Goals as goal

pub returns : goal.returns
returns c = stays c.states_stay.ensures c.entries_keep_their_place.ensures
