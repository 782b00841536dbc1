use Rattle.std.proofs.Common.{arith}
use Rattle.book_desk.proofs.Pool.{few_records}
use Rattle.book_desk.proofs.book.Book.live.Goals as goal

pub overflow_cast-result : goal.overflow_cast-result
overflow_cast-result c =
    let b = c.args.self.now in
    let h = c.requires.1 in
    omega (
      arith,
      c.len.ensures.exact,
      h.limits.entries,
      few_records b.sizes.entries b.records.items b.holds.items b.free.items b.owed.items h.places,
    )
