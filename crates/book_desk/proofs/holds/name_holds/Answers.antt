use Rattle.std.proofs.Common.{arith, ap, length, sym, ◌∙◌}
use Rattle.std.specs.Prelude.{slice_set}
use Rattle.std.proofs.lemmas.List.{length-set}
use Rattle.std.proofs.lemmas.List.Edits.{map_over_more}
use Rattle.std.proofs.lemmas.Option.{get_or_from_slice_get}
use Rattle.history_book.specs.Held.{for_entry}
use Rattle.book_desk.proofs.holds.name_holds.Goals as goal

pub loop-index-preserved : goal.loop-index-preserved
loop-index-preserved c =
    let written = c.set.ensures.items ∙ ap (slice_set c.loop-index.holds.items c.loop-index.index) c.for_entry.ensures in
    record {
      so_far = written ∙ map_over_more (for_entry c.args.place c.args.id) c.args.holds.now.items c.loop-index.holds.items c.loop-index.index
          c.at-hold.result.now (omega (arith, c.loop-index-test.true, c.len-index-end.ensures.exact)) c.loop-index.invariant.so_far
          (sym (get_or_from_slice_get c.loop-index.holds.items c.loop-index.index c.at-hold.result.now c.at-hold.result.now c.at-hold.ensures));
      long = ap length c.set.ensures.items ∙ length-set c.loop-index.holds.items c.loop-index.index _ ∙ c.loop-index.invariant.long;
      room = c.set.ensures.room ∙ c.loop-index.invariant.room;
    }
