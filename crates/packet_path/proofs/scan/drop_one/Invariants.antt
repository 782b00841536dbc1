use Rattle.std.proofs.Common.{◌≡◌, ◌-◌, ◌≤◌}
use Rattle.history_book.specs.declared.event.Why.TheVariants.{Dropped}
use Rattle.packet_path.specs.Internal.Scan.{IsScanning}
use Rattle.packet_path.proofs.scan.drop_one.Given as goal

abbrev pub invariant-places : goal.invariant-places
invariant-places g l = record {
  within : l.next ≤ l.places;
  all : l.places ≡ (g.D.Desk.sight l.fn.desk).sizes.entries;
  scanning : IsScanning (Dropped l.moment) l.full_at (g.D.Desk.sight l.fn.desk) (g.D.Desk.sight l.desk) l.next l.at;
}

abbrev pub decreases-places : goal.decreases-places
decreases-places g l = l.places - l.next
