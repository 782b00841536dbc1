use Rattle.std.proofs.Common.{refl}
use Rattle.book_desk.proofs.Plain.{closes}
use Rattle.book_desk.proofs.desk.PlainDesk.finish.Goals as goal

pub returns : goal.returns
returns c =
    let d = c.self.inside in
    rw (← c.self.view_is) (closes d.book d.notes d.spare d.taken (record { events = d.book.events; live = c.live.result; notes = d.notes }) c.self.invariant
    refl c.live.ensures refl)
