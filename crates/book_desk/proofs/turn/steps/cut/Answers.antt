use Rattle.std.proofs.Common.{arith}
use Rattle.book_desk.proofs.Passes.Joined.{splits}
use Rattle.book_desk.proofs.turn.steps.cut.Goals as goal

pub split_seat-requires : goal.split_seat-requires
split_seat-requires g c =
    let t = c.args.shared.now in
    let seat = c.args.seat.now in (
      c.requires.seat,
      omega (arith, c.requires.table.words),
      splits t.key seat.id g.J.Shares.shares seat.me.0 c.requires.some c.requires.rest c.requires.turn,
    )
