use Rattle.std.proofs.Common.{length, ℕ, List, ap, arith, ◌∙◌, length-append, ◌∷◌, []}
use Rattle.track_rule.specs.Sums.{times}
use Rattle.track_rule.proofs.Columns.{column_next}
use Rattle.track_rule.proofs.Lists.{times_push}
use Rattle.track_rule.proofs.board.fill_column.Goals as goal

pub column-preserved : goal.column-preserved
column-preserved c =
    let h = c.column.invariant in
    let column : ℕ = c.args.column in
    let place : ℕ = c.column.place in
    let old : List ℕ = c.column.free.items in
    record {
      rem = omega (arith, h.rem);
      near = omega (arith, c.column-test.true);
      each = λ p. ap (times p) c.push.ensures.items ∙ omega (arith, times_push place p old, h.each p, column_next p column place h.rem);
      long = omega (arith, h.long, ap length c.push.ensures.items, length-append old (place ∷ []));
      room = c.push.ensures.room ∙ h.room;
    }
