use Rattle.std.proofs.Common.{◌-◌, ◌∙◌, ◌++◌, ℕ, List, take, get_or, ap, arith}
use Rattle.ip_reassembly.specs.declared.piece.Part.{Part}
use Rattle.ip_reassembly.proofs.Append.{appended_next}
use Rattle.ip_reassembly.proofs.Order.{low_at}
use Rattle.ip_reassembly.proofs.datagram.append_parts.Goals as goal

no_part : Part
no_part = record { low = 0; high = 0; start = 0 }

pub overflow_sub-part : goal.overflow_sub-part
unfolding no_part
overflow_sub-part c = omega (arith, (low_at 0 c.parts.part-index c.args.parts.now no_part c.requires.order c.parts-test.true).1)

pub parts-preserved : goal.parts-preserved
unfolding no_part
parts-preserved c =
    let p = get_or c.args.parts.now c.parts.part-index no_part in
    appended_next c.args.bytes.now c.args.parts.now c.args.out.now.items c.parts.out.items c.append.new.self.items c.parts.part-index no_part
    c.parts.invariant c.parts-test.true c.requires.stand
    (c.in_ok-append.ensures.ok ∙ ap (λ (xs : List ℕ). c.parts.out.items ++ xs)
    (c.split_at-in-parts.ensures.front ∙ ap (λ (xs : List ℕ). take (p.high - p.low) xs) c.split_at.ensures.back))
