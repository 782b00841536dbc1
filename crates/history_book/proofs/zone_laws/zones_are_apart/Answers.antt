use Rattle.history_book.specs.History.{after}
use Rattle.history_book.proofs.ZoneParts.{alike}
use Rattle.history_book.proofs.ZoneStates.{zoned_after}
use Rattle.history_book.proofs.zone_laws.zones_are_apart.Goals as goal

pub returns : goal.returns
returns c = λ sizes log other p q n zone e legal there same is room more.
    let laws = zoned_after c.records_are_apart.ensures c.expectations_are_in_order.ensures
    c.masters_help_in_their_zone.ensures c.records_are_of_one_flow.ensures in
    alike sizes (after log p) (after other q) n zone e (laws sizes log p legal) (laws sizes other q there) same is room more
