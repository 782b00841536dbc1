use Rattle.conntrack_cmd.proofs.ZonedRows.{lists}
use Rattle.conntrack_cmd.proofs.laws.zoned_lists_name_their_zone.Goals as goal

pub returns : goal.returns
returns c = lists
