use Rattle.std.proofs.Common.{length, length-append, ap, ◌∙◌, ◌+◌}
use Rattle.book_desk.proofs.Lists.{below_pushed}
use Rattle.book_desk.proofs.book.fill.Goals as goal

pub loop-count-preserved : goal.loop-count-preserved
loop-count-preserved c = record {
  each = below_pushed c.args.entries c.loop-count.count c.loop-count.free.items c.push.new.self.items
      c.loop-count.invariant.each c.loop-count-test.true c.push.ensures.items;
  long = ap length c.push.ensures.items ∙ length-append _ _ ∙ ap (λ n. n + 1) c.loop-count.invariant.long;
  room = c.push.ensures.room ∙ c.loop-count.invariant.room;
}
