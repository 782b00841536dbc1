use Rattle.std.proofs.Common.{◌-◌, length}
use Rattle.ip_reassembly.proofs.Filling.{IsFilling}
use Rattle.ip_reassembly.proofs.gathering.fill.Given as goal

abbrev pub invariant-parts : goal.invariant-parts
invariant-parts l = IsFilling l.fn.parts.items l.fn.part l.parts.items l.index l.rest l.count

abbrev pub decreases-parts : goal.decreases-parts
decreases-parts l = length l.parts.items - l.index
