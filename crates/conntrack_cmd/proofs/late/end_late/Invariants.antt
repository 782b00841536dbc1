use Rattle.std.proofs.Common.{◌-◌, ◌≤◌, length}
use Rattle.conntrack_cmd.specs.Internal.Late.{IsEnding}
use Rattle.conntrack_cmd.proofs.late.end_late.Given as goal

abbrev pub invariant-each : goal.invariant-each
invariant-each g l = record {
  within : l.next ≤ length l.listed.items;
  ending : IsEnding l.moment (g.D.Desk.sight l.fn.desk) (g.D.Desk.sight l.desk) l.listed.items l.next l.ended;
}

abbrev pub decreases-each : goal.decreases-each
decreases-each g l = length l.listed.items - l.next
