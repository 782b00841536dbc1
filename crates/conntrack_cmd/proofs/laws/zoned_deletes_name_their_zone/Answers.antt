use Rattle.conntrack_cmd.proofs.ZonedRows.{deletes}
use Rattle.conntrack_cmd.proofs.laws.zoned_deletes_name_their_zone.Goals as goal

pub returns : goal.returns
returns c = deletes c.events_may_happen.ensures
