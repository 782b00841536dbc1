use Rattle.std.proofs.Common.{refl}
use Rattle.book_desk.proofs.Passes.Ends.{closes_last}
use Rattle.book_desk.proofs.turn_desk.TurnBook.close.Goals as goal

pub returns : goal.returns
returns c =
    let p = c.spot.inside.pass in
    let b = c.last_book-book.result in
    rw (← c.spot.view_is) (closes_last p b (record { events = b.events; live = c.live.result; notes = p.notes }) c.spot.invariant
    c.last_book-book.ensures refl c.live.ensures refl)
