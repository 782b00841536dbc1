use Rattle.history_book.specs.History.{after}
use Rattle.history_book.proofs.ZoneParts.{other_zone}
use Rattle.history_book.proofs.ZoneStates.{zoned_after}
use Rattle.history_book.proofs.zone_laws.other_zones_stay.Goals as goal

pub returns : goal.returns
returns c = λ sizes log p n zone e legal may other.
    let laws = zoned_after c.records_are_apart.ensures c.expectations_are_in_order.ensures
    c.masters_help_in_their_zone.ensures c.records_are_of_one_flow.ensures in
    other_zone sizes (after log p) n zone e (laws sizes log p legal) may other
