use Rattle.std.proofs.Common.{arith, ◌+◌}
use Rattle.track_rule.proofs.Columns.{before_low, before_next}
use Rattle.track_rule.proofs.board.whole_list.Goals as goal

pub fill_column-requires-clause-room : goal.fill_column-requires-clause-room
fill_column-requires-clause-room c =
    let h = c.columns.invariant in
    omega (
      arith,
      h.long,
      h.room,
      before_next c.args.entries c.columns.column,
      before_low c.args.entries (c.columns.column + 1) (omega (arith, c.columns-test.true)),
    )
