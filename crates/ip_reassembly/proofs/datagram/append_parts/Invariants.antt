use Rattle.ip_reassembly.proofs.Append.{HasAppended}
use Rattle.ip_reassembly.proofs.datagram.append_parts.Given as goal

abbrev pub invariant-parts : goal.invariant-parts
invariant-parts l = HasAppended l.bytes l.parts l.fn.out.items l.out.items l.part-index
