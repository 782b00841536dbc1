use Rattle.std.proofs.Common.{rules, refl, ◌+◌}
use Rattle.ip_reassembly.proofs.Same.{differs, same_next}
use Rattle.ip_reassembly.proofs.gathering.same_bytes.Goals as goal

pub returns-then-first-other : goal.returns-then-first-other
returns-then-first-other c =
    differs c.args.bytes.now c.args.p.now c.args.q.now c.places.place c.byte-first.result c.byte-other.result (search rules) (search rules)
    c.byte-first.ensures c.byte-other.ensures c.if-first-other.true

pub places-preserved : goal.places-preserved
places-preserved c =
    same_next c.args.bytes.now c.args.p.now c.args.q.now c.max-low.result c.places.place (c.places.place + 1) c.byte-first.result c.byte-other.result
    c.places.invariant (search rules) refl c.byte-first.ensures c.byte-other.ensures c.if-first-other.false
