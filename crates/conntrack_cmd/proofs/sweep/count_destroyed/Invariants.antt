use Rattle.std.proofs.Common.{◌≡◌, ◌-◌, ◌≤◌}
use Rattle.conntrack_cmd.specs.Internal.Loops.{IsCounting}
use Rattle.conntrack_cmd.proofs.sweep.count_destroyed.Given as goal

abbrev pub invariant-places : goal.invariant-places
invariant-places g l = record {
  within : l.next ≤ l.places;
  all : l.places ≡ (g.D.Desk.sight l.fn.desk).sizes.entries;
  counting : IsCounting l.why (g.D.Desk.sight l.fn.desk) (g.D.Desk.sight l.desk) l.next l.ended;
}

abbrev pub decreases-places : goal.decreases-places
decreases-places g l = l.places - l.next
