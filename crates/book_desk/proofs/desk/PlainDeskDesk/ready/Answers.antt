use Rattle.std.proofs.Common.{ap, arith, length}
use Rattle.history_book.specs.Sight.{Sight}
use Rattle.book_desk.proofs.Plain.{known, roomier}
use Rattle.book_desk.proofs.desk.PlainDeskDesk.ready.Goals as goal

pub returns-then-self-k-clause-knows : goal.returns-then-self-k-clause-knows
returns-then-self-k-clause-knows c = rw (← c.self.view_is) (known _ _ _ _ c.self.invariant)

pub returns-in_err-reserve-clause-knows : goal.returns-in_err-reserve-clause-knows
returns-in_err-reserve-clause-knows c =
    let d = c.self.inside in
    known d.book c.reserve.new.self d.spare d.taken (roomier d.book d.notes c.reserve.new.self d.spare d.spare c.self.invariant c.reserve.ensures.items
    (omega (arith, c.self.invariant.room, c.reserve.ensures.kept)) (omega (arith, c.self.invariant.spared)))

pub returns-clause-knows : goal.returns-clause-knows
returns-clause-knows c =
    let d = c.self.inside in
    known d.book c.reserve.new.self c.args.k d.taken (roomier d.book d.notes c.reserve.new.self d.spare c.args.k c.self.invariant c.reserve.ensures.items
    (omega (arith, c.in_ok-reserve.ensures.room)) (omega (arith, c.requires, ap (λ (s : Sight). length s.own) c.self.view_is)))
