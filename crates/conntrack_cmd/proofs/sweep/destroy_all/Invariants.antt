use Rattle.std.proofs.Common.{◌≡◌, ◌-◌, ◌≤◌}
use Rattle.conntrack_cmd.specs.Internal.Loops.{IsDestroying}
use Rattle.conntrack_cmd.proofs.sweep.destroy_all.Given as goal

abbrev pub invariant-places : goal.invariant-places
invariant-places g l = record {
  within : l.next ≤ l.places;
  all : l.places ≡ (g.D.Desk.sight l.fn.desk).sizes.entries;
  room : l.rows.room ≡ l.fn.rows.room;
  destroying : IsDestroying l.why (g.D.Desk.sight l.fn.desk) (g.D.Desk.sight l.desk) l.next l.rows.items;
}

abbrev pub decreases-places : goal.decreases-places
decreases-places g l = l.places - l.next
