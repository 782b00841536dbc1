use Rattle.conntrack_cmd.proofs.ZonedRows.{stays}
use Rattle.conntrack_cmd.proofs.laws.zoned_deletes_leave_other_zones.Goals as goal

pub returns : goal.returns
returns c = stays c.events_may_happen.ensures c.other_zones_stay.ensures
