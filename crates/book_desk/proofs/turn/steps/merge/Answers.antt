use Rattle.std.proofs.Common.{arith}
use Rattle.book_desk.proofs.Passes.Joined.{joins}
use Rattle.book_desk.proofs.turn.steps.merge.Goals as goal

pub join_seat-requires : goal.join_seat-requires
join_seat-requires c =
    let t = c.args.shared.now in
    let seat = c.args.seat.now in (
      c.requires.seat.0,
      c.requires.other.0,
      c.requires.other.1,
      omega (arith, c.requires.table.words),
      joins t.key seat.id c.args.other.id seat.me.0 c.args.other.me.0 c.requires.some.0 c.requires.some.1 c.requires.turns.0 c.requires.turns.1
          c.requires.empty.0 c.requires.empty.1,
    )
