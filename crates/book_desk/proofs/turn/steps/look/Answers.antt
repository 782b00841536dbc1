use Rattle.std.proofs.Common.{ℕ, List, arith, subst, sym, Option}
use Rattle.atomic_table.specs.Table.{Allows, step}
use mathlib.Core.Option.{none}
use Rattle.book_desk.specs.declared.book.Book.{Book}
use Rattle.book_desk.specs.Turn.Rule.{Holds}
use Rattle.book_desk.specs.Turn.Steps.{Loads}
use Rattle.book_desk.proofs.Passes.Kept.{loads}
use Rattle.book_desk.proofs.turn.steps.look.Goals as goal

pub load-requires : goal.load-requires
load-requires c =
    let t = c.args.shared.now in
    let seat = c.args.seat.now in (
      c.requires.seat,
      omega (arith, c.requires.table.words),
      subst (λ (carried : List (ℕ × Option Book)).
          Allows (Holds t.key) t.table_id.slots seat.id (seat.me.0, carried) 0 (λ n. n) (Loads (step t.table_id.slots 0 0 0 none) (seat.me.0, carried)))
          (sym c.requires.away) (loads t.key t.table_id.slots seat.id seat.me.0 c.requires.some),
    )
