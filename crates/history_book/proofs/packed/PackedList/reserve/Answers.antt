use Rattle.std.proofs.Common.{ap, arith}
use Rattle.history_book.proofs.Packing.{length_seen}
use Rattle.history_book.proofs.packed.PackedList.reserve.Goals as goal
use Rattle.room_list.specs.Roomed.{Roomed}

pub returns-then-room-self-clause-room : goal.returns-then-room-self-clause-room
returns-then-room-self-clause-room g c =
    let i = c.self.inside in
    omega (
      arith,
      c.saturating_add-room.ensures,
      c.len.ensures.exact,
      c.if-room-self.true,
      c.self.invariant.few,
      ap (λ (l : Roomed g.row.T.Denot). l.room) c.self.view_is,
      length_seen g.S.Form.stored i.forms i.whole i.room c.self.invariant c.args.self.now c.self.view_is,
    )

pub returns-clause-room : goal.returns-clause-room
returns-clause-room g c =
    let i = c.self.inside in
    omega (
      arith,
      c.saturating_add-room.ensures,
      c.len.ensures.exact,
      c.if-room.false,
      length_seen g.S.Form.stored i.forms i.whole i.room c.self.invariant c.args.self.now c.self.view_is,
    )
