use Rattle.std.proofs.Common.{◌-◌, length}
use Rattle.ip_reassembly.proofs.Order.{HasCompared}
use Rattle.ip_reassembly.proofs.gathering.fits_all.Given as goal

abbrev pub invariant-parts : goal.invariant-parts
invariant-parts l = HasCompared l.bytes l.part l.parts l.index

abbrev pub decreases-parts : goal.decreases-parts
decreases-parts l = length l.parts - l.index
