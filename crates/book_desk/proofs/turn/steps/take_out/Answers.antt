use Rattle.std.proofs.Common.{ℕ, ◌≡◌, [], ◌∷◌, ap, sym, ◌∙◌, Option, Some}
use Rattle.atomic_table.specs.Table.{rest}
use Rattle.book_desk.specs.declared.book.Book.{Book}
use Rattle.book_desk.proofs.turn.steps.take_out.Goals as goal

pub exchange-requires : goal.exchange-requires
exchange-requires c =
    let b : Book = c.requires.there.0 in
    let first : ℕ × Option Book = (0, Some b) in
    let there : c.args.seat.now.me.1 ≡ first ∷ [] = c.requires.there.1 in
    let none : rest c.args.seat.now.me.1 ≡ [] = ap rest there in (
      c.requires.seat,
      (Some b, there ∙ ap (λ r. first ∷ r) (sym none)),
    )
