use Rattle.std.proofs.Common.{◌≡◌, ◌≤◌, ◌-◌, true, length, take}
use Rattle.std.specs.List.{list_all}
use Rattle.ip_reassembly.specs.Internal.Filling.{ends_by}
use Rattle.ip_reassembly.proofs.gathering.first_behind.Given as goal

abbrev pub invariant-halves : goal.invariant-halves
invariant-halves l = (l.low ≤ l.high) × (l.high ≤ length l.parts) × (list_all (ends_by l.place) (take l.low l.parts) ≡ true)

abbrev pub decreases-halves : goal.decreases-halves
decreases-halves l = l.high - l.low
