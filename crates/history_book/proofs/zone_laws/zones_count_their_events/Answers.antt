use Rattle.history_book.proofs.ZoneHistories.{counts}
use Rattle.history_book.proofs.zone_laws.zones_count_their_events.Goals as goal

pub returns : goal.returns
returns c = counts
