use Rattle.ip_reassembly.proofs.Same.{AreSameUpTo}
use Rattle.ip_reassembly.proofs.gathering.same_bytes.Given as goal

abbrev pub invariant-places : goal.invariant-places
invariant-places l = AreSameUpTo l.bytes l.p l.q l.low l.place
