use Rattle.history_book.proofs.ZoneHistories.{zone_has_history}
use Rattle.history_book.proofs.ZoneStates.{zoned_after}
use Rattle.history_book.proofs.zone_laws.zones_have_histories.Goals as goal

pub returns : goal.returns
returns c = λ sizes log p zone legal.
    let laws = zoned_after c.records_are_apart.ensures c.expectations_are_in_order.ensures
    c.masters_help_in_their_zone.ensures c.records_are_of_one_flow.ensures in
    zone_has_history c.legal_histories_go_on.ensures c.events_may_happen.ensures laws sizes log p zone legal
