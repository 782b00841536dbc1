use Rattle.std.proofs.Common.{arith, ◌≤◌}
use Rattle.book_desk.proofs.Pool.{few_records}
use Rattle.book_desk.proofs.turn.steps.free_word.Goals as goal

pub overflow_mul-result : goal.overflow_mul-result
overflow_mul-result c =
    let b = c.args.book.now in
    let h = c.requires.right.1 in
    let few : c.from-live.result ≤ 65536 =
    omega (
      arith,
      c.from-live.ensures,
      c.live.ensures,
      h.limits.entries,
      few_records b.sizes.entries b.records.items b.holds.items b.free.items b.owed.items h.places,
    ) in
    omega arith

pub overflow_add-result : goal.overflow_add-result
overflow_add-result c =
    let b = c.args.book.now in
    let h = c.requires.right.1 in
    let few : c.from-live.result ≤ 65536 =
    omega (
      arith,
      c.from-live.ensures,
      c.live.ensures,
      h.limits.entries,
      few_records b.sizes.entries b.records.items b.holds.items b.free.items b.owed.items h.places,
    ) in
    omega (arith, c.requires.few)

pub overflow_mul-result-2 : goal.overflow_mul-result-2
overflow_mul-result-2 c =
    let b = c.args.book.now in
    let h = c.requires.right.1 in
    let few : c.from-live.result ≤ 65536 =
    omega (
      arith,
      c.from-live.ensures,
      c.live.ensures,
      h.limits.entries,
      few_records b.sizes.entries b.records.items b.holds.items b.free.items b.owed.items h.places,
    ) in
    omega (arith, c.requires.few)
