use Rattle.pool_visits.proofs.Steps.{have_rows}
use Rattle.pool_visits.proofs.laws.lived_have_rows.Goals as goal

pub returns : goal.returns
returns c = have_rows c.entries_keep_their_place.ensures
