use Rattle.history_book.proofs.ZoneRuns.{stands_alone}
use Rattle.history_book.proofs.ZoneStates.{zoned_after}
use Rattle.history_book.proofs.zone_laws.zones_stand_alone.Goals as goal

pub returns : goal.returns
returns c = λ sizes log p zone legal.
    let laws = zoned_after c.records_are_apart.ensures c.expectations_are_in_order.ensures
    c.masters_help_in_their_zone.ensures c.records_are_of_one_flow.ensures in
    let alone = stands_alone c.events_may_happen.ensures laws sizes log p zone legal in
    (alone.follow, alone.leave)
