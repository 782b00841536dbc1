use Rattle.std.proofs.Common.{ℕ, List, arith, subst, sym, Option}
use Rattle.atomic_table.specs.Table.{Allows, step}
use mathlib.Core.Option.{none}
use Rattle.book_desk.specs.declared.book.Book.{Book}
use Rattle.book_desk.specs.Turn.Rule.{Holds}
use Rattle.book_desk.specs.Turn.Steps.{Ends}
use Rattle.book_desk.proofs.Passes.Ended.{ends}
use Rattle.book_desk.proofs.turn.steps.give.Goals as goal

pub store-requires : goal.store-requires
store-requires g c =
    let t = c.args.shared.now in
    let seat = c.args.seat.now in
    let word : ℕ = c.args.word in
    let here = c.requires.ends in (
      c.requires.seat,
      omega (arith, c.requires.table.words),
      subst (λ (carried : List (ℕ × Option Book)).
          Allows (Holds t.key) t.table_id.slots seat.id (seat.me.0, carried) 0 (λ _. word)
          (λ _. Ends g.J.Ends.ending (step t.table_id.slots 0 word 0 none) (seat.me.0, carried) word))
          (sym here.3) (ends t.key t.table_id.slots seat.id word g.J.Ends.ending seat.me.0 here.0 c.requires.table.slots here.1 here.2),
    )
