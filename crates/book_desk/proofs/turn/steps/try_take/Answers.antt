use Rattle.std.proofs.Common.{ℕ, List, ◌+◌, arith, subst, sym, eqb, Option}
use Rattle.atomic_table.specs.Table.{Allows, step}
use prog.Atomic.{either}
use mathlib.Core.Option.{none}
use Rattle.book_desk.specs.declared.book.Book.{Book}
use Rattle.book_desk.specs.Turn.Rule.{Holds}
use Rattle.book_desk.specs.Turn.Steps.{Takes}
use Rattle.book_desk.proofs.Passes.Kept.{taking}
use Rattle.book_desk.proofs.turn.steps.try_take.Goals as goal

pub compare_exchange-requires : goal.compare_exchange-requires
compare_exchange-requires c =
    let t = c.args.shared.now in
    let seat = c.args.seat.now in
    let word : ℕ = c.args.word in (
      c.requires.seat,
      omega (arith, c.requires.table.words),
      subst (λ (carried : List (ℕ × Option Book)).
          Allows (Holds t.key) t.table_id.slots seat.id (seat.me.0, carried) 0 (λ n. either (eqb n word) (word + 1) n)
          (Takes (step t.table_id.slots 0 word (word + 1) none) (seat.me.0, carried)))
          (sym c.requires.away) (taking t.key t.table_id.slots seat.id word seat.me.0 c.requires.some c.requires.even),
    )
